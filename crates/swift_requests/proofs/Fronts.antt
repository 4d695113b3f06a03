-- Fronts of the names of fields.
use Rattle.std.proofs.Common.{◌≡◌, ℕ, ◌==◌, ◌&&◌, true, List, [], ◌∷◌, ◌++◌, drop, take, min, length, map, nat_eq, refl, sym, ap, ap₂, ◌∙◌, arith}
use Rattle.std.specs.Prelude.{bytes_eq}
use Rattle.std.specs.Char.{to_ascii_lowercase}
use Rattle.std.specs.List.{starts_with}
use Rattle.std.specs.Str.Pattern.{LacksTextAt}
use Rattle.std.proofs.lemmas.Bool.{and_parts}
use Rattle.std.proofs.lemmas.Bool.Decides.{nat_tests}
use Rattle.std.proofs.lemmas.List.{take-map, take_min}
use Rattle.http1.specs.Text.{eq_ignore_case}
use Rattle.http_model.specs.declared.field.Field.{Field}
use Rattle.swift_requests.specs.Metadata.{lower_name}
use Rattle.swift_requests.specs.Changes.{has_front}

-- a front is tested as a whole
whole_front : (front text : List ℕ) → bytes_eq front (take (length front) text) ≡ starts_with nat_eq text front
whole_front [] text = refl
whole_front (b ∷ front) [] = refl
whole_front (b ∷ front) (c ∷ text) = ap (λ rest. (b == c) && rest) (whole_front front text)

-- the front of a name, in lower case
pub front_in_lower_case : (front name : List ℕ) → map to_ascii_lowercase front ≡ front
    → eq_ignore_case front (take (min (length front) (length name)) name) ≡ starts_with nat_eq (map to_ascii_lowercase name) front
unfolding eq_ignore_case
front_in_lower_case front name low =
    ap₂ (λ a b. bytes_eq a (map to_ascii_lowercase b)) low (take_min (length front) name)
    ∙ ap (bytes_eq front) (sym (take-map to_ascii_lowercase (length front) name))
    ∙ whole_front front (map to_ascii_lowercase name)

behind : (text front : List ℕ) → starts_with nat_eq text front ≡ true → text ≡ front ++ drop (length front) text
behind text [] begins = refl
behind [] (x ∷ front) begins = cc
behind (y ∷ text) (x ∷ front) begins =
    let both = and_parts (x == y) (starts_with nat_eq text front) begins in
    let head : x ≡ y = grind (arith, nat_tests, both.0) in
    ap (λ n. n ∷ text) (sym head) ∙ ap (λ rest. x ∷ rest) (behind text front both.1)

-- the front stands in the name of a field that begins so
pub has_text : (front : List ℕ) (field : Field) (name : List ℕ) → has_front front field ≡ true → name ≡ lower_name field → LacksTextAt front name 0 → ⊥
has_text front field name is same lacks =
    lacks (drop (length front) name) (behind name front (ap (λ n. starts_with nat_eq n front) same ∙ is))
