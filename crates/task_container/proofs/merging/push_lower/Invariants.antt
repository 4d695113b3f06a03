use Rattle.std.proofs.Common.{◌≡◌, ◌++◌, length}
use Rattle.task_container.specs.Rows.{lower, higher}
use Rattle.task_container.proofs.merging.push_lower.Given as goal

abbrev pub invariant-loop-rest : goal.invariant-loop-rest
invariant-loop-rest l = (l.items.items ++ lower l.name l.rest ≡ l.fn.items.items ++ lower l.name l.kept) × (higher l.name l.rest ≡ higher l.name l.kept)

abbrev pub decreases-loop-rest : goal.decreases-loop-rest
decreases-loop-rest l = length l.rest
