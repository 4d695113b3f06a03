use Rattle.std.proofs.Common.{arith}
use Rattle.object_pool.specs.Places.{object_of}
use Rattle.class_words.specs.Shards.{IsShard}
use Rattle.class_tests.proofs.Within.{left_by, small_within, within_completed}
use Rattle.class_tests.proofs.indexes.complete_next.Goals as goal

pub complete-requires : goal.complete-requires
complete-requires c = let r = c.requires.stands in (r.0, r.1, small_within c.args.events r.0 r.2 (omega arith))

pub returns : goal.returns
returns c =
    let r = c.requires.stands in (
      _,
      left_by c.complete.result _ _ (IsShard (object_of c.complete.new.shard)) _ (c.complete.ensures.answers r.0 r.1 (small_within c.args.events r.0 r.2 (omega arith))),
      within_completed c.args.events r.0 c.args.name.now c.args.tag c.args.version c.args.row.now r.2 c.requires.row,
    )
