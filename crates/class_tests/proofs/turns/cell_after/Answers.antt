use Rattle.class_tests.proofs.Deposits.{legal_before, none_before}
use Rattle.class_tests.proofs.turns.cell_after.Goals as goal

pub new-requires-clause-legal : goal.new-requires-clause-legal
new-requires-clause-legal c = rw c.after.ensures.1 (legal_before c.after.result.before)

pub new-requires-clause-unnumbered : goal.new-requires-clause-unnumbered
new-requires-clause-unnumbered c = rw c.after.ensures.1 (none_before c.after.result.before)
