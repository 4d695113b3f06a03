-- The query of a target (RFC 3986, section 3.4; the OpenStack Object Storage API v1, listings).
use Rattle.std.specs.Prelude.{ℕ, Bool, false, ◌&&◌, ◌||◌, ◌==◌, List, [], ◌∷◌, length, map, filter, Option, Some, None, unwrap_or, if◌then◌else◌, nat_le, nat_lt, min, codes, bytes_eq}
use Rattle.std.specs.List.{list_all, slice_split}
use Rattle.std.specs.Option.{option_or}
use Rattle.std.specs.Char.{is_ascii_digit}
use Rattle.std.specs.Str.Parse.{digits_value}
use Rattle.percent_encoding.specs.Percent.{percent_decode}
use Rattle.swift_words.specs.declared.fault.WordFault.{WordFault}
use Rattle.swift_words.specs.declared.fault.WordFault.TheVariants.{BadLimit, BadFormat}
use Rattle.swift_words.specs.declared.query.Query.{Query}
use Rattle.swift_words.specs.Parts.{fault_unless, before_mark, after_mark, word_fault}

-- ---- pieces

-- what stands between the `&` of a query
abbrev pub pieces_of : List ℕ → List (List ℕ)
pieces_of query = slice_split (λ b. b == 38) query

-- a `+` is a blank
abbrev pub blank_for_plus : ℕ → ℕ
blank_for_plus b = if b == 43 then 32 else b

-- the name of a piece as it was sent, and its value with blanks for `+`; a piece without `=` has an empty value
abbrev pub name_part : List ℕ → List ℕ
name_part piece = before_mark 61 piece

abbrev pub value_part : List ℕ → List ℕ
value_part piece = map blank_for_plus (after_mark 61 piece)

-- the first fault of a piece: the name's, then the value's
abbrev pub piece_fault : List ℕ → Option WordFault
piece_fault piece = option_or (word_fault (name_part piece)) (word_fault (value_part piece))

-- the first fault among the pieces, in order, also of those whose names are not known
unfoldable pub pieces_fault : List (List ℕ) → Option WordFault
pieces_fault [] = None
pieces_fault (piece ∷ pieces) = option_or (piece_fault piece) (pieces_fault pieces)

-- ---- parameters

abbrev pub is_named : List ℕ → List ℕ → Bool
is_named name piece = bytes_eq (percent_decode (name_part piece)) name

-- the values that are sent under a name, in order
abbrev pub values_of : List ℕ → List (List ℕ) → List (List ℕ)
values_of name pieces = map (λ piece. percent_decode (value_part piece)) (filter (is_named name) pieces)

-- the last of them, or else what there was before
abbrev pub last_or : Option (List ℕ) → List (List ℕ) → Option (List ℕ)
last_or before [] = before
last_or before (value ∷ values) = last_or (Some value) values

-- of a repeated parameter the last value counts
abbrev pub sent : List ℕ → List (List ℕ) → Option (List ℕ)
sent name pieces = last_or None (values_of name pieces)

-- a limit is 1 to 9 digits
unfoldable pub is_limit : List ℕ → Bool
is_limit value = nat_lt 0 (length value) && (nat_le (length value) 9 && list_all is_ascii_digit value)

-- a format is `json` or `plain`
abbrev pub is_json : List ℕ → Bool
is_json value = bytes_eq value (codes "json")

abbrev pub is_format : List ℕ → Bool
is_format value = is_json value || bytes_eq value (codes "plain")

abbrev pub limit_fault : Option (List ℕ) → Option WordFault
limit_fault None = None
limit_fault (Some value) = fault_unless (is_limit value) BadLimit

abbrev pub format_fault : Option (List ℕ) → Option WordFault
format_fault None = None
format_fault (Some value) = fault_unless (is_format value) BadFormat

-- the most rows of a listing, which is also the limit where none is sent
abbrev pub most_rows : ℕ
most_rows = 10000

abbrev pub limit_in : Option (List ℕ) → ℕ
limit_in None = most_rows
limit_in (Some value) = min (digits_value 10 value) most_rows

abbrev pub json_in : Option (List ℕ) → Bool
json_in None = false
json_in (Some value) = is_json value

-- ---- the query

-- its first fault: the words, then the limit, then the format
unfoldable pub query_fault : List ℕ → Option WordFault
query_fault query =
    option_or (pieces_fault (pieces_of query))
    (option_or (limit_fault (sent (codes "limit") (pieces_of query))) (format_fault (sent (codes "format") (pieces_of query))))

-- what it asks for where it has no fault
unfoldable pub query_of : List ℕ → Query
query_of query = record {
  limit = limit_in (sent (codes "limit") (pieces_of query));
  marker = unwrap_or (sent (codes "marker") (pieces_of query)) [];
  end_marker = unwrap_or (sent (codes "end_marker") (pieces_of query)) [];
  prefix = unwrap_or (sent (codes "prefix") (pieces_of query)) [];
  delimiter = unwrap_or (sent (codes "delimiter") (pieces_of query)) [];
  json = json_in (sent (codes "format") (pieces_of query));
}
