-- The bytes of the parts of a range are the range's bytes.
use Rattle.std.proofs.Common.{◌≡◌, ℕ, zero, suc, ◌+◌, ◌-◌, ◌*◌, ◌<◌, ◌≤◌, ◌==◌, min, not, Bool, true, false, cond, List, [], ◌∷◌, ◌++◌, length, map, filter, flat_map, get_or, take, drop, refl, sym, ap, subst, ◌∙◌, inl, inr, arith}
use Rattle.std.specs.List.{concat, range_with_len}
use Rattle.std.proofs.Math.Seq.{drop-cons}
use Rattle.std.proofs.lemmas.Bool.{cases_lt}
use Rattle.std.proofs.lemmas.Bool.Decides.{nat_tests}
use Rattle.std.proofs.lemmas.Grind.{common_steps}
use Rattle.std.proofs.lemmas.List.{nil_from_length, take_all, drop_all, length-append, length-drop, length-map, get_or-map}
use Rattle.std.proofs.lemmas.List.Folds.{flat_map-map}
use Rattle.std.proofs.lemmas.List.FromFn.{get_or-map-range_with_len, length-map-range_with_len}
use Rattle.rgw_types.specs.Stripes.{ManifestView, tails_of}
use Rattle.manifest.specs.declared.parts.Part.{Part}
use Rattle.manifest.proofs.RangeLemmas.{full_part, tails_enough}
use Rattle.manifest.specs.Ranges.{part_size, part_numbers, piece_at, has_bytes, parts_of, piece_bytes, bytes_along, AreContents}

-- ---- a slice of two lists in a row

take-append : (n : ℕ) (xs ys : List ℕ) → take n (xs ++ ys) ≡ take n xs ++ take (n - length xs) ys
take-append n [] ys = grind (arith, common_steps)
take-append zero (x ∷ xs) ys = grind (arith, common_steps)
take-append (suc n) (x ∷ xs) ys =
    let e : n - length xs ≡ suc n - suc (length xs) = omega arith in
    ap (λ l. x ∷ l) (take-append n xs ys) ∙ ap (λ k. x ∷ (take n xs ++ take k ys)) e

drop-append : (n : ℕ) (xs ys : List ℕ) → drop n (xs ++ ys) ≡ drop n xs ++ drop (n - length xs) ys
drop-append n [] ys = grind (arith, common_steps)
drop-append zero (x ∷ xs) ys = grind (arith, common_steps)
drop-append (suc n) (x ∷ xs) ys =
    let e : n - length xs ≡ suc n - suc (length xs) = omega arith in
    drop-append n xs ys ∙ ap (λ k. drop n xs ++ drop k ys) e

-- what a slice takes of a list ends where the list does
take-clipped : (a b : ℕ) (xs : List ℕ) → take (b - a) (drop a xs) ≡ take (min b (length xs) - a) (drop a xs)
take-clipped a b xs = elim (cases_lt b (length xs)) [
  | inl lt ↦ (let e : b - a ≡ min b (length xs) - a = omega arith in ap (λ n. take n (drop a xs)) e)
  | inr le ↦ take_all (b - a) (drop a xs) (omega (arith, length-drop a xs)) ∙ sym (take_all (min b (length xs) - a) (drop a xs) (omega (arith, length-drop a xs)))
]

slice-append : (a b : ℕ) (xs ys : List ℕ) → take (b - a) (drop a (xs ++ ys)) ≡ take (min b (length xs) - a) (drop a xs) ++ take ((b - length xs) - (a - length xs)) (drop (a - length xs) ys)
slice-append a b xs ys =
    let rest : b - a - length (drop a xs) ≡ (b - length xs) - (a - length xs) = omega (arith, length-drop a xs) in
    ap (take (b - a)) (drop-append a xs ys)
    ∙ take-append (b - a) (drop a xs) (drop (a - length xs) ys)
    ∙ (λ i. take-clipped a b xs i ++ take (rest i) (drop (a - length xs) ys))

-- ---- pieces without bytes add nothing

no_bytes : (n : ℕ) → not (n == 0) ≡ false → n ≡ 0
no_bytes n e = grind (arith, nat_tests)

kept : (contents : List (List ℕ)) (p : Part) (ps : List Part) (b : Bool) → has_bytes p ≡ b
    → bytes_along contents (cond b (p ∷ ps) ps) ≡ piece_bytes contents p ++ bytes_along contents ps
kept contents p ps true is = refl
kept contents p ps false is =
    ap (λ n. take n (drop p.start (get_or contents p.part [])) ++ bytes_along contents ps) (sym (no_bytes p.count is))

without_empty : (contents : List (List ℕ)) (ps : List Part) → bytes_along contents (filter has_bytes ps) ≡ bytes_along contents ps
without_empty contents [] = refl
without_empty contents (p ∷ ps) =
    kept contents p (filter has_bytes ps) (has_bytes p) refl ∙ ap (λ l. piece_bytes contents p ++ l) (without_empty contents ps)

-- ---- the parts from one on

-- the contents of n parts, from part k to the last one: each has its size, and all but the last a whole stripe
record AreLast (m : ManifestView) (contents : List (List ℕ)) (k n : ℕ) : Type 0 where
  counted : k + n ≡ length contents
  sized : (i : ℕ) → i < length contents → length (get_or contents i []) ≡ part_size m i
  full : (i : ℕ) → i + 1 < length contents → part_size m i ≡ m.stripe

nothing_left : (contents : List (List ℕ)) (k a n : ℕ) → length contents ≤ k → take n (drop a (concat (drop k contents))) ≡ []
nothing_left contents k a n le =
    ap (λ l. take n (drop a (concat l))) (drop_all k contents le) ∙ (grind (arith, common_steps))

one_part : (m : ManifestView) (start count : ℕ) (contents : List (List ℕ)) (k : ℕ) → k < length contents → length (get_or contents k []) ≡ part_size m k
    → take (start + count - k * m.stripe - (start - k * m.stripe)) (drop (start - k * m.stripe) (concat (drop k contents)))
    ≡ piece_bytes contents (piece_at m start count k)
    ++ take (start + count - k * m.stripe - part_size m k - (start - k * m.stripe - part_size m k)) (drop (start - k * m.stripe - part_size m k) (concat (drop (suc k) contents)))
one_part m start count contents k lt size =
    let here = get_or contents k [] in
    let a = start - k * m.stripe in
    let b = start + count - k * m.stripe in
    let rest = concat (drop (suc k) contents) in
    ap (λ l. take (b - a) (drop a (concat l))) (drop-cons contents k [] lt)
    ∙ slice-append a b here rest
    ∙ ap (λ n. take (min b n - a) (drop a here) ++ take (b - n - (a - n)) (drop (a - n) rest)) size

from_part : (m : ManifestView) (start count : ℕ) (contents : List (List ℕ)) (n k : ℕ) → AreLast m contents k n
    → flat_map (λ i. piece_bytes contents (piece_at m start count i)) (range_with_len k n)
    ≡ take (start + count - k * m.stripe - (start - k * m.stripe)) (drop (start - k * m.stripe) (concat (drop k contents)))
from_part m start count contents zero k is = sym (nothing_left contents k _ _ (omega (arith, is.counted)))
from_part m start count contents (suc zero) k is =
    let piece = piece_bytes contents (piece_at m start count k) in
    let e = one_part m start count contents k (omega (arith, is.counted)) (is.sized k (omega (arith, is.counted))) in
    sym (e ∙ ap (λ l. piece ++ l) (nothing_left contents (suc k) _ _ (omega (arith, is.counted))))
from_part m start count contents (suc (suc n)) k is =
    let piece = piece_bytes contents (piece_at m start count k) in
    let rest = concat (drop (suc k) contents) in
    let full = is.full k (omega (arith, is.counted)) in
    let e = one_part m start count contents k (omega (arith, is.counted)) (is.sized k (omega (arith, is.counted))) in
    let next = from_part m start count contents (suc n) (k + 1) (record { counted = omega (arith, is.counted); sized = is.sized; full = is.full }) in
    let a : start - (k + 1) * m.stripe ≡ start - k * m.stripe - part_size m k = omega (arith, full) in
    let b : start + count - (k + 1) * m.stripe ≡ start + count - k * m.stripe - part_size m k = omega (arith, full) in
    let c : k + 1 ≡ suc k = omega arith in
    ap (λ l. piece ++ l) (next ∙ (λ i. take (b i - a i) (drop (a i) (concat (drop (c i) contents))))) ∙ sym e

-- how many bytes the parts from one on have
length_from : (m : ManifestView) (contents : List (List ℕ)) (n k : ℕ) → AreLast m contents k n → 0 < m.stripe → m.size ≤ (k + n) * m.stripe
    → length (concat (drop k contents)) ≡ m.size - k * m.stripe
length_from m contents zero k is some enough =
    let none : drop k contents ≡ [] = drop_all k contents (omega (arith, is.counted)) in
    omega (arith, ap (λ l. length (concat l)) none)
length_from m contents (suc n) k is some enough =
    let lt : k < length contents = omega (arith, is.counted) in
    let c : k + 1 ≡ suc k = omega arith in
    let more : k + 1 + n ≡ k + suc n = omega arith in
    let rest = length_from m contents n (k + 1) (record { counted = omega (arith, is.counted); sized = is.sized; full = is.full }) some (subst (λ x. m.size ≤ x * m.stripe) (sym more) enough) in
    omega (
      arith,
      ap (λ l. length (concat l)) (drop-cons contents k [] lt),
      length-append (get_or contents k []) (concat (drop (suc k) contents)),
      is.sized k lt,
      rest,
      ap (λ x. length (concat (drop x contents))) c,
    )

-- ---- the whole

are_last : (m : ManifestView) (contents : List (List ℕ)) → 0 < m.stripe → AreContents m contents → AreLast m contents 0 (tails_of m + 1)
are_last m contents some cut =
    let n = tails_of m + 1 in
    let long : length contents ≡ n = sym (length-map contents length) ∙ ap length cut ∙ length-map-range_with_len (part_size m) 0 n in
    record {
      counted = omega (arith, long);
      sized = λ i lt. sym (get_or-map length contents i [] 0 lt) ∙ ap (λ l. get_or l i 0) cut ∙ get_or-map-range_with_len (part_size m) 0 n i i 0 (omega (arith, long)) (omega arith);
      full = λ i lt. full_part m i some (omega (arith, long));
    }

-- the pieces of a range, read one after another, are its bytes
pub covered : (m : ManifestView) (start count : ℕ) → 0 < m.stripe → (contents : List (List ℕ)) → AreContents m contents
    → bytes_along contents (parts_of m start count) ≡ take count (drop start (concat contents))
covered m start count some contents cut =
    let a : start - 0 * m.stripe ≡ start = omega arith in
    let b : start + count - 0 * m.stripe - (start - 0 * m.stripe) ≡ count = omega arith in
    without_empty contents (map (piece_at m start count) (part_numbers m))
    ∙ flat_map-map (piece_bytes contents) (piece_at m start count) (part_numbers m)
    ∙ from_part m start count contents (tails_of m + 1) 0 (are_last m contents some cut)
    ∙ (λ i. take (b i) (drop (a i) (concat contents)))

pub whole_length : (m : ManifestView) → 0 < m.stripe → (contents : List (List ℕ)) → AreContents m contents → length (concat contents) ≡ m.size
whole_length m some contents cut =
    let enough : m.size ≤ (0 + (tails_of m + 1)) * m.stripe = omega (arith, tails_enough m some) in
    let none : m.size - 0 * m.stripe ≡ m.size = omega arith in
    length_from m contents (tails_of m + 1) 0 (are_last m contents some cut) some enough ∙ none

pub whole_covered : (m : ManifestView) (start count : ℕ) → 0 < m.stripe → start ≡ 0 → count ≡ m.size → (contents : List (List ℕ)) → AreContents m contents
    → bytes_along contents (parts_of m start count) ≡ concat contents
whole_covered m start count some front all contents cut =
    covered m start count some contents cut
    ∙ (λ i. take (all i) (drop (front i) (concat contents)))
    ∙ take_all m.size (concat contents) (omega (arith, whole_length m some contents cut))

-- ---- an object without bytes

without_bytes : (f : ℕ → ℕ) → ((k : ℕ) → f k ≡ 0) → (contents : List (List ℕ)) (ns : List ℕ) → map length contents ≡ map f ns → concat contents ≡ []
without_bytes f none [] ns cut = refl
without_bytes f none (c ∷ cs) [] cut = absurd (omega (arith, ap length cut))
without_bytes f none (c ∷ cs) (n ∷ ns) cut =
    let empty : c ≡ [] = nil_from_length c (ap (λ l. get_or l 0 0) cut ∙ none n) in
    (λ i. empty i ++ concat cs) ∙ without_bytes f none cs ns (ap (drop 1) cut)

pub nothing_covered : (m : ManifestView) → m.size ≡ 0 → (contents : List (List ℕ)) → AreContents m contents → concat contents ≡ []
nothing_covered m none contents cut = without_bytes (part_size m) (λ k. omega (arith, none)) contents (part_numbers m) cut
