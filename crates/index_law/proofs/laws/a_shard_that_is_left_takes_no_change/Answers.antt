use Rattle.index_law.proofs.Served.{left_shard_refuses}
use Rattle.index_law.proofs.laws.a_shard_that_is_left_takes_no_change.Goals as goal

pub returns : goal.returns
returns c = left_shard_refuses
