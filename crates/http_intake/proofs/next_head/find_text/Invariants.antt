use Rattle.std.proofs.Common.{◌+◌, ◌-◌, length}
use Rattle.http_model.specs.declared.reading.TheConstants.{HEAD_LIMIT}
use Rattle.http_intake.proofs.Searching.{Searches}
use Rattle.http_intake.proofs.next_head.find_text.Given as goal

abbrev pub invariant-pieces : goal.invariant-pieces
invariant-pieces g l =
    Searches (g.S.Source.left l.initial.source) (g.S.Source.left l.source) l.initial.buffer l.buffer l.seen l.place
    (g.S.Source.faults l.initial.source) (g.S.Source.faults l.source)

abbrev pub decreases-pieces : goal.decreases-pieces
decreases-pieces g l = HEAD_LIMIT + 1 - length l.buffer
