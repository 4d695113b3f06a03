use Rattle.std.proofs.Common.{◌≡◌, [], ◌∷◌, take}
use Rattle.json.specs.Token as json
use Rattle.swift_reply.specs.Listings.{row_data}
use Rattle.swift_reply.proofs.Tokens.{tokens_of}
use Rattle.swift_reply.proofs.listing.json_rows.Given as goal

abbrev pub invariant-loop-row : goal.invariant-loop-row
invariant-loop-row l =
    (l.out.before ≡ []) × (l.out.tokens ≡ json.begin_array ∷ tokens_of row_data (take l.row-index l.rows))
