use Rattle.realm_law.proofs.Counting.{settled_without}
use Rattle.realm_law.proofs.laws.counts_without_tags_are_of_settled_names.Goals as goal

pub returns : goal.returns
returns c = settled_without
