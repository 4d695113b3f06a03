use Rattle.std.proofs.Common.{◌≡◌}
use Rattle.class_tests.proofs.turns.deposit_often.Given as goal

abbrev pub invariant-loop-turn : goal.invariant-loop-turn
invariant-loop-turn g l = (l.pass.cell ≡ l.cell) × (l.pass.room ≡ l.fn.pass.room)
