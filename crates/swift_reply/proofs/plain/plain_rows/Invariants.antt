use Rattle.std.proofs.Common.{◌≡◌, take}
use Rattle.swift_reply.specs.Listings.{plain_text}
use Rattle.swift_reply.proofs.plain.plain_rows.Given as goal

abbrev pub invariant-loop-row : goal.invariant-loop-row
invariant-loop-row l = l.text.items ≡ plain_text (take l.row-index l.rows)
