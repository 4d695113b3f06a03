use Rattle.object_pool.proofs.ShelfLemmas.{SweepsAll}
use Rattle.object_pool.proofs.shelf.forget_emptied.Given as goal

abbrev pub invariant-loop-number : goal.invariant-loop-number
invariant-loop-number l = SweepsAll l.fn.kept l.kept l.number-iterator
