-- The range of bytes that a request asks for (RFC 9110, sections 14.1.1, 14.1.2 and 14.2).
use Rattle.std.specs.Prelude.{ℕ, ◌-◌, ◌^◌, ◌==◌, ◌&&◌, min, nat_lt, nat_eq, Bool, true, List, length, drop, Option, Some, None, option_and_then, is_some, not, if◌then◌else◌, codes}
use Rattle.std.specs.List.{list_all, starts_with, position_or_len, before_first, after_first}
use Rattle.std.specs.Char.{is_ascii_digit}
use Rattle.std.specs.Str.Parse.{digits_value}
use Rattle.task_words.specs.declared.span.Span.{Span}
use Rattle.task_words.specs.declared.span.Span.TheVariants.{Between, From, Last}
use Rattle.http_model.specs.declared.head.Head.{Head}
use Rattle.http_model.specs.Framings.{value_of}
use Rattle.http_model.specs.Forms.{is_get}

-- one digit or more, and nothing else
abbrev pub is_numeral : List ℕ → Bool
is_numeral text = nat_lt 0 (length text) && list_all is_ascii_digit text

-- the number that digits write; above the greatest that counts it is that
abbrev pub number_in : List ℕ → Option ℕ
number_in text = if is_numeral text then Some (min (digits_value 10 text) (2 ^ 64 - 1)) else None

-- the range with these numbers, and whether nothing stands where there is none
abbrev pub span_by : Option ℕ → Option ℕ → Bool → Bool → Option Span
span_by (Some first) (Some last) no_first no_last = Some (Between first last)
span_by (Some first) None no_first true = Some (From first)
span_by None (Some count) true no_last = Some (Last count)
span_by first last no_first no_last = None

-- the range between what stands before and behind the first `-`
abbrev pub span_between : List ℕ → List ℕ → Option Span
span_between first last = span_by (number_in first) (number_in last) (length first == 0) (length last == 0)

abbrev pub is_dash : ℕ → Bool
is_dash b = b == 45

-- the range that stands behind the unit
abbrev pub span_behind_unit : List ℕ → Option Span
span_behind_unit text =
    if nat_lt (position_or_len is_dash text) (length text)
    then span_between (before_first is_dash text) (after_first is_dash text) else None

-- the range that a value asks for; any other text, and more ranges than one, ask for none
unfoldable pub span_in : List ℕ → Option Span
span_in value =
    if starts_with nat_eq value (codes "bytes=") then span_behind_unit (drop 6 value) else None

-- a condition of the range is sent; such a range counts for nothing
abbrev pub has_range_condition : Head → Bool
has_range_condition head = is_some (value_of (codes "if-range") head.fields)

-- the range that a request asks for. Only a GET has one (RFC 9110, section 14.2)
unfoldable pub span_of : Head → Option Span
span_of head =
    if is_get head && not (has_range_condition head) then option_and_then span_in (value_of (codes "range") head.fields) else None
