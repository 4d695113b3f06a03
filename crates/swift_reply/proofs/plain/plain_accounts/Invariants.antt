use Rattle.std.proofs.Common.{◌≡◌, take}
use Rattle.swift_reply.specs.Listings.{plain_account_text}
use Rattle.swift_reply.proofs.plain.plain_accounts.Given as goal

abbrev pub invariant-loop-row : goal.invariant-loop-row
invariant-loop-row l = l.text.items ≡ plain_account_text (take l.row-index l.rows)
