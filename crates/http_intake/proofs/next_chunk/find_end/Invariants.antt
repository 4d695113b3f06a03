use Rattle.std.proofs.Common.{◌+◌, ◌-◌, length}
use Rattle.http_intake.proofs.Texts.{Passes}
use Rattle.http_intake.proofs.next_chunk.find_end.Given as goal

abbrev pub invariant-pieces : goal.invariant-pieces
invariant-pieces g l =
    Passes l.fn.start l.limit (g.S.Source.left l.initial.source) (g.S.Source.left l.source) l.initial.buffer l.buffer l.seen l.place
    (g.S.Source.faults l.initial.source) (g.S.Source.faults l.source)

abbrev pub decreases-pieces : goal.decreases-pieces
decreases-pieces g l = l.limit + 1 - length l.buffer
