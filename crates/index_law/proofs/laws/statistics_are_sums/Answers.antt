use Rattle.index_law.proofs.Consequences.{sums}
use Rattle.index_law.proofs.laws.statistics_are_sums.Goals as goal

pub returns : goal.returns
returns c = sums
