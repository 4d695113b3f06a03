use Rattle.index_law.proofs.Moves.{stays_gone}
use Rattle.index_law.proofs.laws.a_container_that_is_gone_stays_gone.Goals as goal

pub returns : goal.returns
returns c = stays_gone
