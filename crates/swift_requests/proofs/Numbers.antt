-- Digits that are read as those of a length.
use Rattle.std.proofs.Common.{◌≡◌, ℕ, ◌^◌, ◌-◌, ◌≤◌, min, ltb, Bool, true, false, not, ◌&&◌, cond, List, [], ◌∷◌, length, Some, None, refl, ap, codes, arith}
use Rattle.std.specs.Prelude.{unwrap_or}
use Rattle.std.specs.List.{list_all, position_or_len}
use Rattle.std.specs.Char.{is_ascii_digit}
use Rattle.std.specs.Str.Parse.{digits_value}
use Rattle.std.proofs.lemmas.Bool.{ltb-true, ltb-false, and_parts}
use Rattle.std.proofs.lemmas.List.Sums.{prefix_len-le-length}
use Rattle.http1.specs.declared.fields.ContentLength.{ContentLength}
use Rattle.http1.specs.declared.fields.ContentLength.TheVariants as Length
use Rattle.http1.specs.Text.{eq_ignore_case}
use Rattle.http1.specs.Fields.{known_fields, content_length}
use Rattle.swift_requests.specs.Ranges.{is_numeral, number_in}

-- the length that one value tells
pub length_in : (value : List ℕ)
    → (known_fields ((codes "content-length", value) ∷ [])).content_length ≡ content_length (value ∷ [])
unfolding known_fields eq_ignore_case
length_in value = refl

-- what is made of it
abbrev pub capped : ContentLength → ℕ
capped (Length.Value n) = n
capped Length.Absent = 2 ^ 64 - 1
capped Length.Invalid = 2 ^ 64 - 1

least : (n : ℕ) (fits : Bool) → ltb n (2 ^ 64) ≡ fits
    → capped (cond (fits && true) (Length.Value n) Length.Invalid) ≡ min n (2 ^ 64 - 1)
least n true is = let low = ltb-true n (2 ^ 64) is in omega (arith, low)
least n false is = let high = ltb-false n (2 ^ 64) is in omega (arith, high)

pub number_of_numeral : (value : List ℕ) → is_numeral value ≡ true
    → Some (capped (content_length (value ∷ []))) ≡ number_in value
number_of_numeral value is =
    let parts = and_parts (ltb 0 (length value)) (list_all is_ascii_digit value) is in
    rw (parts.0, parts.1) (ap (λ n. Some n) (least (digits_value 10 value) (ltb (digits_value 10 value) (2 ^ 64)) refl))

-- ---- a place in a text

or_end : (place end : ℕ) (inside : Bool) → ltb place end ≡ inside → place ≤ end → unwrap_or (cond inside (Some place) None) end ≡ place
or_end place end true is within = refl
or_end place end false is within = let behind = ltb-false place end is in omega (arith, behind)

-- the place of the first byte that passes, and else the end
pub place_or_end : (passes : ℕ → Bool) (text : List ℕ)
    → unwrap_or (cond (ltb (position_or_len passes text) (length text)) (Some (position_or_len passes text)) None) (length text) ≡ position_or_len passes text
place_or_end passes text = or_end (position_or_len passes text) (length text) (ltb (position_or_len passes text) (length text)) refl (prefix_len-le-length (λ b. not (passes b)) text)
