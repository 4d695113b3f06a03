use Rattle.settled_law.proofs.Removed.{removed}
use Rattle.settled_law.proofs.laws.removed_containers_are_empty.Goals as goal

pub returns : goal.returns
returns c settings history actor r shards good legal told = removed settings good history legal actor r told.1
