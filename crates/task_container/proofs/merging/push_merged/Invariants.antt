use Rattle.std.proofs.Common.{◌≡◌, ◌++◌, length}
use Rattle.task_container.specs.Rows.{merged}
use Rattle.task_container.proofs.merging.push_merged.Given as goal

abbrev pub invariant-loop-rest : goal.invariant-loop-rest
invariant-loop-rest l = l.items.items ++ merged l.left l.rest ≡ l.fn.items.items ++ merged l.kept l.sent

abbrev pub decreases-loop-rest : goal.decreases-loop-rest
decreases-loop-rest l = length l.rest
