use Rattle.std.proofs.Common.{◌≡◌, ◌+◌, ◌-◌, ◌++◌, length}
use Rattle.script_lines.specs.declared.reader.TheConstants.{LINE_LIMIT}
use Rattle.script_lines.proofs.Searching.{Searches}
use Rattle.script_lines.proofs.front.find_front.Given as goal

abbrev pub invariant-pieces : goal.invariant-pieces
invariant-pieces g l =
    Searches (g.S.Source.left l.initial.source) (g.S.Source.left l.source) (l.initial.line.items ++ l.initial.piece) l.line.items l.piece
    (g.S.Source.faults l.initial.source) (g.S.Source.faults l.source) (l.source ≡ l.initial.source)

abbrev pub decreases-pieces : goal.decreases-pieces
decreases-pieces g l = LINE_LIMIT + 1 - (length l.line.items + length l.piece)
