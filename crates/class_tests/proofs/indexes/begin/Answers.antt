use Rattle.std.proofs.Common.{None}
use Rattle.object_words.specs.Shards.{new_shard}
use Rattle.class_tests.proofs.Within.{if_there, within_fresh}
use Rattle.class_tests.proofs.indexes.begin.Goals as goal

pub returns : goal.returns
returns c = if_there c.make.result _ _ (λ is. (new_shard, is, within_fresh)) (c.make.ensures.ok None c.requires)
