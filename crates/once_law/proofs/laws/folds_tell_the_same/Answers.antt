use Rattle.once_law.proofs.Telling.{tell}
use Rattle.once_law.proofs.laws.folds_tell_the_same.Goals as goal

pub returns : goal.returns
returns c x slots calls others one_clock ask first second is also = tell x one_clock slots calls others ask first second is also
