-- Where a text ends, by a scan over its bytes: the text of a head or of trailers with its first empty line, the text that
-- opens a chunk with its chunk line (RFC 9112, sections 2.2 and 7.1). A line ends in CR LF or in LF alone.
use Rattle.std.specs.Prelude.{◌≡◌, ℕ, suc, ◌≤◌, Bool, ◌||◌, ◌==◌, List, [], ◌∷◌, ◌++◌, length, Option, Some, None, if◌then◌else◌}
use Rattle.http_chunks.specs.declared.place.Place.{Place}
use Rattle.http_chunks.specs.declared.place.Place.TheVariants.{Before, Inside, Fresh, Return, Behind, Line}
use Rattle.http_chunks.specs.declared.place.TextEnd.{TextEnd}
use Rattle.http_chunks.specs.declared.place.TextEnd.TheVariants.{Here, Later}

-- the place behind one more byte; none where the text ends with it
abbrev pub after_byte : Place → ℕ → Option Place
after_byte Before b = if (b == 13) || (b == 10) then Some Before else Some Inside
after_byte Inside b = if b == 10 then Some Fresh else Some Inside
after_byte Fresh b = if b == 10 then None else (if b == 13 then Some Return else Some Inside)
after_byte Return b = if b == 10 then None else Some Inside
after_byte Behind b = if b == 10 then Some Line else Some Behind
after_byte Line b = if b == 10 then None else Some Line

-- Where the text ends, or where the scan is behind the bytes: n bytes came before them, and the rest of the scan is that of
-- the place behind the first of them.
abbrev pub then_from : (Place → TextEnd) → ℕ → Option Place → TextEnd
then_from rest n None = Here n
then_from rest n (Some next) = rest next

unfoldable pub scan_from : Place → ℕ → List ℕ → TextEnd
scan_from place n [] = Later place
scan_from place n (b ∷ bytes) = then_from (λ next. scan_from next (suc n) bytes) (suc n) (after_byte place b)

-- the bytes end the text that begins at this place, and no fewer of them do
abbrev pub EndsText : Place → List ℕ → Type 0
EndsText place text = scan_from place 0 text ≡ Here (length text)

-- no text ends in the bytes
abbrev pub IsOpen : Place → List ℕ → Type 0
IsOpen place bytes = (next : Place) × (scan_from place 0 bytes ≡ Later next)

-- the bytes begin with a text within the limit, and rest follows
pub record BeginsWithText (place : Place) (limit : ℕ) (bytes text rest : List ℕ) : Type 0 where
  pub ends : EndsText place text
  pub fits : length text ≤ limit
  pub whole : bytes ≡ text ++ rest

-- where a scan for the end of a chunk line begins
abbrev pub opening_start : Bool → Place
opening_start behind = if behind then Behind else Line
