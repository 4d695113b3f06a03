-- What the pieces of a query send under the known names.
use Rattle.std.specs.Prelude.{◌≡◌, ℕ, List, Option, Some, None, if◌then◌else◌, codes, bytes_eq}
use Rattle.percent_encoding.specs.Percent.{percent_decode}
use Rattle.swift_words.specs.declared.query.Sent.{Sent}
use Rattle.swift_words.specs.Queries.{name_part, value_part, values_of, last_or, sent}

abbrev pub nothing_sent : Sent
nothing_sent = record { limit = None; marker = None; end_marker = None; prefix = None; delimiter = None; format = None }

-- what is kept under a name once a value came, under this name or another
abbrev pub put_under : List ℕ → List ℕ → List ℕ → Option (List ℕ) → Option (List ℕ)
put_under name came value kept = if bytes_eq came name then Some value else kept

-- the same, by the piece in which it comes
abbrev pub after_piece : List ℕ → List ℕ → Option (List ℕ) → Option (List ℕ)
after_piece name piece kept = put_under name (percent_decode (name_part piece)) (percent_decode (value_part piece)) kept

-- what is kept after a piece
pub record Follows (old new : Sent) (piece : List ℕ) : Type 0 where
  pub limit : new.limit ≡ after_piece (codes "limit") piece old.limit
  pub marker : new.marker ≡ after_piece (codes "marker") piece old.marker
  pub end_marker : new.end_marker ≡ after_piece (codes "end_marker") piece old.end_marker
  pub prefix : new.prefix ≡ after_piece (codes "prefix") piece old.prefix
  pub delimiter : new.delimiter ≡ after_piece (codes "delimiter") piece old.delimiter
  pub format : new.format ≡ after_piece (codes "format") piece old.format

-- with these pieces still to come, all that is sent is what is sent by all pieces
pub record LeadsTo (here : Sent) (left all : List (List ℕ)) : Type 0 where
  pub limit : last_or here.limit (values_of (codes "limit") left) ≡ sent (codes "limit") all
  pub marker : last_or here.marker (values_of (codes "marker") left) ≡ sent (codes "marker") all
  pub end_marker : last_or here.end_marker (values_of (codes "end_marker") left) ≡ sent (codes "end_marker") all
  pub prefix : last_or here.prefix (values_of (codes "prefix") left) ≡ sent (codes "prefix") all
  pub delimiter : last_or here.delimiter (values_of (codes "delimiter") left) ≡ sent (codes "delimiter") all
  pub format : last_or here.format (values_of (codes "format") left) ≡ sent (codes "format") all

-- it has what all pieces send
pub record IsSentBy (here : Sent) (all : List (List ℕ)) : Type 0 where
  pub limit : here.limit ≡ sent (codes "limit") all
  pub marker : here.marker ≡ sent (codes "marker") all
  pub end_marker : here.end_marker ≡ sent (codes "end_marker") all
  pub prefix : here.prefix ≡ sent (codes "prefix") all
  pub delimiter : here.delimiter ≡ sent (codes "delimiter") all
  pub format : here.format ≡ sent (codes "format") all
