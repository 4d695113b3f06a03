use Rattle.std.proofs.Common.{arith}
use Rattle.object_pool.specs.Places.{object_of}
use Rattle.class_words.specs.Shards.{IsShard}
use Rattle.class_tests.proofs.Within.{left_by, small_within, within_cancelled}
use Rattle.class_tests.proofs.indexes.cancel_next.Goals as goal

pub cancel-requires : goal.cancel-requires
cancel-requires c = let r = c.requires in (r.0, r.1, small_within c.args.events r.0 r.2 (omega arith))

pub returns : goal.returns
returns c =
    let r = c.requires in (
      _,
      left_by c.cancel.result _ _ (IsShard (object_of c.cancel.new.shard)) _ (c.cancel.ensures.answers r.0 r.1 (small_within c.args.events r.0 r.2 (omega arith))),
      within_cancelled c.args.events r.0 c.args.name.now c.args.tag r.2,
    )
