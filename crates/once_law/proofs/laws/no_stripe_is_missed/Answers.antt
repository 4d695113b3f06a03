use Rattle.once_law.proofs.Missing.{misses_none}
use Rattle.once_law.proofs.laws.no_stripe_is_missed.Goals as goal

pub returns : goal.returns
returns c = misses_none
