use Rattle.std.proofs.Common.{◌-◌}
use Rattle.byte_order.proofs.WordLemmas.{AreAlike}
use Rattle.byte_order.proofs.compare.Given as goal

abbrev pub invariant-loop-at : goal.invariant-loop-at
invariant-loop-at l = AreAlike l.fn.one l.fn.other l.at

abbrev pub decreases-loop-at : goal.decreases-loop-at
decreases-loop-at l = l.both - l.at
