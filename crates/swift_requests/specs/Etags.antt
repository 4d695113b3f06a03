-- The ETags that a request sends (RFC 9110, sections 5.6.1, 8.8.3, 13.1.1 and 13.1.2). A weak one, and a comma inside of
-- quotes, are text like any other.
use Rattle.std.specs.Prelude.{ℕ, ◌-◌, ◌==◌, ◌&&◌, ◌||◌, nat_lt, nat_le, Bool, List, length, map, slice_index, slice_range, Option, option_map, if◌then◌else◌, bytes_eq, codes}
use Rattle.object_words.specs.declared.head.EtagRule.{EtagRule}
use Rattle.object_words.specs.declared.head.EtagRule.TheVariants.{Any, OneOf}
use Rattle.swift_auth.specs.Lists.{parts_of, member_in}
use Rattle.http_model.specs.declared.head.Head.{Head}
use Rattle.http_model.specs.Framings.{value_of}

-- a byte that a field value has: no control character but a tab (RFC 9110, section 5.5)
abbrev pub is_field_byte : ℕ → Bool
is_field_byte b = (b == 9) || nat_le 32 b

-- the text stands in a pair of double quotes
abbrev pub is_quoted : List ℕ → Bool
is_quoted text =
    nat_lt 1 (length text) && ((slice_index text 0 == 34) && (slice_index text (length text - 1) == 34))

-- the text without one such pair
abbrev pub without_quotes : List ℕ → List ℕ
without_quotes text = if is_quoted text then slice_range text 1 (length text - 1) else text

-- the ETag that a part of a list is: its text without the blanks round it, and then without the quotes
abbrev pub etag_in : List ℕ → List ℕ
etag_in part = without_quotes (member_in part)

-- those of a list by commas; an empty value is a list with one empty text
abbrev pub etags_in : List ℕ → List (List ℕ)
etags_in value = map etag_in (parts_of value)

-- what a condition wants: `*` counts only as the whole value
abbrev pub rule_in : List ℕ → EtagRule
rule_in value = if bytes_eq value (codes "*") then Any else OneOf (etags_in value)

-- what the last field of this name wants
unfoldable pub rule_of : List ℕ → Head → Option EtagRule
rule_of name head = option_map rule_in (value_of name head.fields)

-- the ETag that the content is to have, by the last field of this name
unfoldable pub sent_etag : Head → Option (List ℕ)
sent_etag head = option_map without_quotes (value_of (codes "etag") head.fields)
