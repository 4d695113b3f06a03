-- Pairs in the order of a map.
use Rattle.std.proofs.Common.{◌≡◌, ℕ, true, List, [], ◌∷◌, Option, Some, None, refl, sym, ap, ◌∙◌}
use Rattle.std.specs.Cmp.Lexicographic.{slice_cmp}
use Rattle.std.specs.Option.{MatchOption, IsSome}
use Rattle.std.specs.List.Sorted.{IsStrictlySortedBy}
use Rattle.std.specs.Map.{keys_of}
use Rattle.std.specs.Ordering.{nat_cmp, is_lt}
use Rattle.std.specs.Str.{is_utf8}
use Rattle.std.proofs.lemmas.Bool.{and_parts, and_from}
use Rattle.rgw_types.specs.Pairs.{is_risen}
use Rattle.swift_requests.specs.Metadata.{are_texts}

-- ---- order

-- the names of a map's entries rise
pub entries_rise : (entries : List (List ℕ × List ℕ)) → IsStrictlySortedBy (slice_cmp nat_cmp) (keys_of entries) → is_risen entries ≡ true
unfolding IsStrictlySortedBy
entries_rise [] sorted = refl
entries_rise (p ∷ []) sorted = refl
entries_rise (p ∷ q ∷ entries) sorted = and_from _ _ (ap is_lt sorted.0.0) (entries_rise (q ∷ entries) sorted.1)

-- ---- values

pub first_text : (pairs rest : List (List ℕ × List ℕ)) (pair : List ℕ × List ℕ) → pairs ≡ pair ∷ rest → are_texts pairs ≡ true → is_utf8 pair.1 ≡ true
first_text pairs rest pair is texts =
    (and_parts (is_utf8 pair.1) (are_texts rest) (sym (ap are_texts is) ∙ texts)).0

pub rest_texts : (pairs rest : List (List ℕ × List ℕ)) (pair : List ℕ × List ℕ) → pairs ≡ pair ∷ rest → are_texts pairs ≡ true → are_texts rest ≡ true
rest_texts pairs rest pair is texts =
    (and_parts (is_utf8 pair.1) (are_texts rest) (sym (ap are_texts is) ∙ texts)).1

-- ---- what is found

pub found : {X N : Type 0} (S : X → Type 0) (r : Option X) → (N → ⊥) → MatchOption r N S → IsSome r
found S None never h = absurd (never h)
found S (Some x) never h = refl
