use Rattle.realm_law.proofs.Counting.{shard_objects, shard_bytes}
use Rattle.realm_law.proofs.laws.untagged_shards_count_their_names.Goals as goal

pub returns-clause-objects : goal.returns-clause-objects
returns-clause-objects c settings history zone container number row shard good legal row_is stands = shard_objects settings history zone container row good legal row_is stands number shard

pub returns-clause-bytes : goal.returns-clause-bytes
returns-clause-bytes c settings history zone container number row shard good legal row_is stands = shard_bytes settings history zone container row good legal row_is stands number shard
