use Rattle.std.proofs.Common.{◌≡◌}
use Rattle.class_tests.proofs.turns.deposit_in_rounds.Given as goal

abbrev pub invariant-loop-round : goal.invariant-loop-round
invariant-loop-round g l = l.pass.cell ≡ l.cell
