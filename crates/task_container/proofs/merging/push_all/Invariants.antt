use Rattle.std.proofs.Common.{◌≡◌, ◌++◌, length}
use Rattle.task_container.proofs.merging.push_all.Given as goal

abbrev pub invariant-loop-rest : goal.invariant-loop-rest
invariant-loop-rest l = l.items.items ++ l.rest ≡ l.fn.items.items ++ l.pairs

abbrev pub decreases-loop-rest : goal.decreases-loop-rest
decreases-loop-rest l = length l.rest
