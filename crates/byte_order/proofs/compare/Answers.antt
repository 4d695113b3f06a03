use Rattle.std.proofs.Common.{arith}
use Rattle.byte_order.proofs.WordLemmas.{alike_further, cmp_by_words, cmp_by_lengths}
use Rattle.byte_order.proofs.compare.Goals as goal

pub loop-at-init : goal.loop-at-init
loop-at-init c = λ j lt. absurd (omega (arith, lt))

pub loop-at-preserved : goal.loop-at-preserved
loop-at-preserved c = alike_further c.args.one.now c.args.other.now c.loop-at.at c.min-from.result c.word_at-left.result c.word_at-right.result c.loop-at.invariant (omega (arith, c.min-from.ensures)) c.word_at-left.ensures c.word_at-right.ensures c.if-left-right.false

-- the words differ
pub returns-then-left-right : goal.returns-then-left-right
returns-then-left-right c =
    cmp_by_words c.args.one.now c.args.other.now c.loop-at.at c.min-from.result c.word_at-left.result c.word_at-right.result c.cmp-then-left-right.result c.loop-at.invariant
    (omega (arith, c.min-from.ensures))
    (omega (arith, c.min-from.ensures, c.min-both.ensures))
    (omega (arith, c.min-from.ensures, c.min-both.ensures))
    c.word_at-left.ensures c.word_at-right.ensures c.if-left-right.true c.cmp-then-left-right.ensures

-- one string begins the other
pub returns : goal.returns
returns c = cmp_by_lengths c.args.one.now c.args.other.now c.min-both.result c.loop-at.at c.cmp-2.result c.min-both.ensures (omega (arith, c.loop-at-test.false)) c.loop-at.invariant c.cmp-2.ensures
