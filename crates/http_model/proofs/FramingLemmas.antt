-- What the counts of the framing fields, and the digits of a length, say of the framing.
use Rattle.std.proofs.Common.{◌≡◌, ℕ, ◌+◌, ◌^◌, ◌<◌, ◌≤◌, eqb, leb, ltb, Bool, true, false, ◌&&◌, cond, List, [], ◌∷◌, length, Option, Some, None, refl, ap, sym, ◌∙◌, codes, arith, rules}
use Rattle.std.specs.List.{list_all}
use Rattle.std.specs.Char.{is_ascii_digit}
use Rattle.std.specs.Str.Parse.{digits_value}
use Rattle.std.proofs.lemmas.Bool.{le-leb, lt-leb, lt-ltb, and_left, and_right, cond-false}
use Rattle.std.proofs.lemmas.Str.Parse.{IsNumeralModel, numerals_by_value, digits_value_short}
use Rattle.http1.specs.declared.fields.ContentLength.{ContentLength}
use Rattle.http1.specs.declared.fields.ContentLength.TheVariants as Length
use Rattle.http1.specs.Text.{eq_ignore_case}
use Rattle.http1.specs.Fields.{is_number, is_chunked, known_fields}
use Rattle.http_model.specs.declared.head.Framing.TheVariants as Framed
use Rattle.http_model.specs.Framings.{last_of, is_length, framing_by}

-- ---- a length of up to 19 digits

decimal : IsNumeralModel (λ text. list_all is_ascii_digit text ≡ true) (digits_value 10)
decimal = numerals_by_value _ (search rules)

-- so many digits always fit
fits : (text : List ℕ) → length text ≤ 19 → is_number text ≡ is_length text
fits text short =
    ap (λ b. ltb 0 (length text) && b)
    (by_digits (list_all is_ascii_digit text) refl ∙ ap (λ b. b && list_all is_ascii_digit text) (sym (le-leb (length text) 19 short)))
  where
    by_digits : (digits : Bool) → list_all is_ascii_digit text ≡ digits
        → (digits && ltb (digits_value 10 text) (2 ^ 64)) ≡ digits
    by_digits true is = lt-ltb _ _ (omega (arith, digits_value_short decimal text 19 is short))
    by_digits false is = refl

-- the number of one Content-Length
abbrev pub number_in : ContentLength → Option ℕ
number_in (Length.Value n) = Some n
number_in Length.Absent = None
number_in Length.Invalid = None

of_one : (value : List ℕ) (number : Bool) → is_number value ≡ number
    → number_in (cond (number && true) (Length.Value (digits_value 10 value)) Length.Invalid)
    ≡ cond number (Some (digits_value 10 value)) None
of_one value true is = refl
of_one value false is = refl

pub length_of_one : (value : List ℕ) → length value ≤ 19
    → number_in (known_fields ((codes "content-length", value) ∷ [])).content_length
    ≡ cond (is_length value) (Some (digits_value 10 value)) None
unfolding known_fields eq_ignore_case
length_of_one value short =
    of_one value (is_number value) refl ∙ ap (λ b. cond b (Some (digits_value 10 value)) None) (fits value short)

pub too_long : (value : List ℕ) → 19 < length value → None ≡ cond (is_length value) (Some (digits_value 10 value)) None
too_long value long =
    let short : leb (length value) 19 ≡ false = lt-leb (length value) 19 long in
    sym (cond-false _ _ _ (and_right _ _ (and_left _ (list_all is_ascii_digit value) short)))

-- ---- how many fields frame

pub unframed : (minor : ℕ) (codings lengths : List (List ℕ)) → length codings ≡ 0 → length lengths ≡ 0
    → framing_by minor codings lengths ≡ Some Framed.Empty
unframed minor [] [] codes_none lengths_none = refl
unframed minor [] (length ∷ lengths) codes_none lengths_none = absurd (omega arith)
unframed minor (coding ∷ codings) lengths codes_none lengths_none = absurd (omega arith)

pub framed_by_length : (minor : ℕ) (codings lengths : List (List ℕ)) (value : List ℕ) → length codings ≡ 0 → length lengths ≡ 1
    → last_of lengths ≡ Some value
    → framing_by minor codings lengths ≡ cond (is_length value) (Some (Framed.Length (digits_value 10 value))) None
framed_by_length minor [] [] value none one last = absurd (omega arith)
framed_by_length minor [] (v ∷ []) value none one last =
    let same : v ≡ value = cc in ap (λ v. cond (is_length v) (Some (Framed.Length (digits_value 10 v))) None) same
framed_by_length minor [] (v ∷ w ∷ lengths) value none one last = absurd (omega arith)
framed_by_length minor (coding ∷ codings) lengths value none one last = absurd (omega arith)

pub framed_by_coding : (minor : ℕ) (codings lengths : List (List ℕ)) (value : List ℕ) → length codings ≡ 1 → length lengths ≡ 0
    → last_of codings ≡ Some value
    → framing_by minor codings lengths ≡ cond (eqb minor 1 && is_chunked value) (Some Framed.Chunked) None
framed_by_coding minor [] lengths value one none last = absurd (omega arith)
framed_by_coding minor (v ∷ []) [] value one none last =
    let same : v ≡ value = cc in ap (λ v. cond (eqb minor 1 && is_chunked v) (Some Framed.Chunked) None) same
framed_by_coding minor (v ∷ []) (w ∷ lengths) value one none last = absurd (omega arith)
framed_by_coding minor (v ∷ w ∷ codings) lengths value one none last = absurd (omega arith)

pub framed_twice : (minor : ℕ) (codings lengths : List (List ℕ)) → 1 < length codings + length lengths
    → framing_by minor codings lengths ≡ None
framed_twice minor [] [] two = absurd (omega arith)
framed_twice minor [] (v ∷ []) two = absurd (omega arith)
framed_twice minor [] (v ∷ w ∷ lengths) two = refl
framed_twice minor (v ∷ []) [] two = absurd (omega arith)
framed_twice minor (v ∷ []) (w ∷ lengths) two = refl
framed_twice minor (v ∷ w ∷ codings) lengths two = refl

pub some_last : (values : List (List ℕ)) → 0 < length values → last_of values ≡ None → ⊥
some_last [] some none = omega arith
some_last (v ∷ []) some none = cc
some_last (v ∷ w ∷ values) some none = some_last (w ∷ values) (omega arith) none

pub ruleset framing_cases = (unframed, framed_by_length, framed_by_coding, framed_twice, some_last)
