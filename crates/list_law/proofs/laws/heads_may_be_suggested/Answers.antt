use Rattle.list_law.proofs.Stamped.{head_may_stand}
use Rattle.list_law.proofs.laws.heads_may_be_suggested.Goals as goal

pub returns : goal.returns
returns c = head_may_stand
