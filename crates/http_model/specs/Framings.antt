-- What the fields of a head say (RFC 9110, section 5; RFC 9112, section 6).
use Rattle.std.specs.Prelude.{ℕ, Bool, ◌&&◌, List, [], ◌∷◌, length, map, Option, Some, None, if◌then◌else◌, ◌==◌, nat_lt, nat_le, codes}
use Rattle.std.specs.List.{list_all}
use Rattle.std.specs.Char.{is_ascii_digit}
use Rattle.std.specs.Str.Parse.{digits_value}
use Rattle.http1.specs.Fields.{values_named, is_chunked}
use Rattle.http_model.specs.declared.field.Field.{Field}
use Rattle.http_model.specs.declared.head.Framing.{Framing}
use Rattle.http_model.specs.declared.head.Framing.TheVariants.{Empty, Length, Chunked}

abbrev pub pair_of : Field → List ℕ × List ℕ
pair_of field = (field.name, field.value)

-- the value of every field with this name, in order; the case of a name does not count
abbrev pub values_of : List ℕ → List Field → List (List ℕ)
values_of name fields = values_named name (map pair_of fields)

-- the last of them, if there is one
abbrev pub last_of : List (List ℕ) → Option (List ℕ)
last_of [] = None
last_of (value ∷ []) = Some value
last_of (value ∷ other ∷ values) = last_of (other ∷ values)

-- of a repeated name the last value counts
abbrev pub value_of : List ℕ → List Field → Option (List ℕ)
value_of name fields = last_of (values_of name fields)

-- a length is 1 to 19 digits
abbrev pub is_length : List ℕ → Bool
is_length value = nat_lt 0 (length value) && (nat_le (length value) 19 && list_all is_ascii_digit value)

-- from the minor version, the values of Transfer-Encoding and those of Content-Length: none where they do not tell
abbrev pub framing_by : ℕ → List (List ℕ) → List (List ℕ) → Option Framing
framing_by minor [] [] = Some Empty
framing_by minor [] (value ∷ []) = if is_length value then Some (Length (digits_value 10 value)) else None
framing_by minor (coding ∷ []) [] = if (minor == 1) && is_chunked coding then Some Chunked else None
framing_by minor codings lengths = None

unfoldable pub framing_of : ℕ → List Field → Option Framing
framing_of minor fields =
    framing_by minor (values_of (codes "transfer-encoding") fields) (values_of (codes "content-length") fields)
