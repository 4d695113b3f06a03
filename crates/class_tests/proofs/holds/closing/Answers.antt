use Rattle.object_pool.specs.Places.{object_of}
use Rattle.class_words.specs.Shards.{IsShard}
use Rattle.class_tests.proofs.Left.{one_left}
use Rattle.class_tests.proofs.holds.closing.Goals as goal

pub returns : goal.returns
returns c = one_left c.close.result _ _ (IsShard (object_of c.close.new.shard)) _ _ (c.close.ensures.answers c.requires.0 c.requires.1)
