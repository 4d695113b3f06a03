use Rattle.std.proofs.Common.{◌+◌, arith}
use Rattle.class_tests.proofs.Within.{below_later, small_within, within_prepared_at}
use Rattle.class_tests.proofs.indexes.prepare_next.Goals as goal

pub prepare-requires : goal.prepare-requires
prepare-requires c =
    let r = c.requires.stands in
    (r.0, r.1, small_within c.args.last r.0 r.2 (omega (arith, c.requires.later, c.requires.few)), below_later (c.args.last + 1) c.args.number r.0 (omega (arith, c.requires.later)) r.2.below)

pub returns : goal.returns
returns c =
    let r = c.requires.stands in
    let small = small_within c.args.last r.0 r.2 (omega (arith, c.requires.later, c.requires.few)) in
    let below = below_later (c.args.last + 1) c.args.number r.0 (omega (arith, c.requires.later)) r.2.below in
    (_, (c.in-Ok.ensures.answers r.0 r.1 small below).2, within_prepared_at c.args.last c.args.number r.0 c.args.name.now c.args.clock 120000000 c.requires.later r.2)
