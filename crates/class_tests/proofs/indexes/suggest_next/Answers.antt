use Rattle.std.proofs.Common.{sym, ◌∙◌, arith}
use Rattle.object_pool.specs.Places.{object_of}
use Rattle.class_words.specs.Shards.{IsShard}
use Rattle.class_tests.proofs.Within.{had_due, left_by, small_within, within_same, within_suggested}
use Rattle.class_tests.proofs.indexes.suggest_next.Goals as goal

pub suggest-requires : goal.suggest-requires
suggest-requires c =
    let r = c.requires.stands in
    let none = sym (c.untimely.ensures r.0 r.1) ∙ c.in_default.is in
    (r.0, r.1, small_within c.args.events r.0 r.2 (omega arith), had_due r.0 c.args.name.now c.args.revision c.args.seen none)

pub returns : goal.returns
returns c =
    let r = c.requires.stands in
    let none = sym (c.untimely.ensures r.0 r.1) ∙ c.in_default.is in
    let due = had_due r.0 c.args.name.now c.args.revision c.args.seen none in (
      _,
      left_by c.suggest.result _ _ (IsShard (object_of c.suggest.new.shard)) _ (c.suggest.ensures.answers r.0 r.1 (small_within c.args.events r.0 r.2 (omega arith)) due),
      within_suggested c.args.events r.0 c.args.name.now c.args.revision c.args.seen c.args.version c.args.row.now r.2 c.requires.row,
    )

pub returns-in-Some : goal.returns-in-Some
returns-in-Some c = let r = c.requires.stands in (r.0, r.1, within_same c.args.events r.0 r.2)
