-- Strings are in the order of the first words that differ.
use Rattle.std.proofs.Common.{◌≡◌, ℕ, zero, suc, ◌+◌, ◌-◌, ◌<◌, ◌≤◌, min, List, [], ◌∷◌, length, take, drop, inl, inr, refl, sym, ap, subst, ◌∙◌, arith}
use Rattle.std.specs.Int.{w64, from_be_bytes}
use Rattle.std.specs.declared.cmp.Ordering.{Ordering}
use Rattle.std.specs.declared.cmp.Ordering.TheVariants.{Less, Equal, Greater}
use Rattle.std.specs.Ordering.{nat_cmp, ordering_then, ordering_reverse, MatchOrdering}
use Rattle.std.specs.Cmp.Lexicographic.{slice_cmp}
use Rattle.std.proofs.lemmas.Bool.{cases_lt}
use Rattle.std.proofs.lemmas.Cmp.{nat_list_cmp_total, ranked}
use Rattle.std.proofs.lemmas.List.{get_or-take, get_or-drop}
use Rattle.byte_order.specs.Words.{byte_at, number_of, AreBytes, IsWord}

is_less : (x y : ℕ) → x < y → nat_cmp x y ≡ Less
is_less x y lt =
    let rank = ranked x y (nat_cmp x y) refl in
    elim (nat_cmp x y) as (λ r. MatchOrdering r (x < y) (x ≡ y) (y < x) → r ≡ Less) [
      | Less ↦ λ _. refl
      | Equal ↦ λ same. absurd (omega (arith, lt, same))
      | Greater ↦ λ more. absurd (omega (arith, lt, more))
    ] rank

is_equal : (x y : ℕ) → x ≡ y → nat_cmp x y ≡ Equal
is_equal x y same =
    let rank = ranked x y (nat_cmp x y) refl in
    elim (nat_cmp x y) as (λ r. MatchOrdering r (x < y) (x ≡ y) (y < x) → r ≡ Equal) [
      | Less ↦ λ less. absurd (omega (arith, less, same))
      | Equal ↦ λ _. refl
      | Greater ↦ λ more. absurd (omega (arith, more, same))
    ] rank

is_greater : (x y : ℕ) → y < x → nat_cmp x y ≡ Greater
is_greater x y lt =
    let rank = ranked x y (nat_cmp x y) refl in
    elim (nat_cmp x y) as (λ r. MatchOrdering r (x < y) (x ≡ y) (y < x) → r ≡ Greater) [
      | Less ↦ λ less. absurd (omega (arith, lt, less))
      | Equal ↦ λ same. absurd (omega (arith, lt, same))
      | Greater ↦ λ _. refl
    ] rank

-- the first byte that differs decides
first_difference : (n : ℕ) (a b : List ℕ) → ((j : ℕ) → j < n → byte_at a j ≡ byte_at b j) → byte_at a n < byte_at b n → slice_cmp nat_cmp a b ≡ Less
first_difference n a [] same less = absurd (omega (arith, less))
first_difference n [] (y ∷ ys) same less = refl
first_difference zero (x ∷ xs) (y ∷ ys) same less = ap (λ o. ordering_then o (slice_cmp nat_cmp xs ys)) (is_less x y less)
first_difference (suc n) (x ∷ xs) (y ∷ ys) same less =
    ap (λ o. ordering_then o (slice_cmp nat_cmp xs ys)) (is_equal x y (same 0 (omega arith)))
    ∙ first_difference n xs ys (λ j lt. same (suc j) (omega (arith, lt))) less

module _ (a b : List ℕ) where
  -- equal numbers have equal digits
  same_digits : (n : ℕ) → AreBytes n a → AreBytes n b → number_of n a ≡ number_of n b → (j : ℕ) → j < n → byte_at a j ≡ byte_at b j
  same_digits zero of_a of_b same j lt = absurd (omega (arith, lt))
  same_digits (suc n) of_a of_b same j lt =
      let low = of_a.1 in
      let high = of_b.1 in
      let before : number_of n a ≡ number_of n b = omega (arith, same, low, high) in
      let last : byte_at a n ≡ byte_at b n = omega (arith, same, before) in
      elim (cases_lt j n) [
        | inl earlier ↦ same_digits n of_a.0 of_b.0 before j earlier
        | inr not_earlier ↦
            let here : n ≡ j = omega (arith, lt, not_earlier) in
            subst (λ i. byte_at a i ≡ byte_at b i) here last
      ]

  pub lower_number : (n : ℕ) → AreBytes n a → AreBytes n b → number_of n a < number_of n b → slice_cmp nat_cmp a b ≡ Less
  lower_number zero of_a of_b less = absurd (omega (arith, less))
  lower_number (suc n) of_a of_b less =
      let low = of_a.1 in
      let high = of_b.1 in
      elim (cases_lt (number_of n a) (number_of n b)) [
        | inl earlier ↦ lower_number n of_a.0 of_b.0 earlier
        | inr not_earlier ↦
            let before : number_of n a ≡ number_of n b = omega (arith, less, not_earlier, low, high) in
            first_difference n a b (same_digits n of_a.0 of_b.0 before) (omega (arith, less, before))
      ]

lower_word : (a b : List ℕ) (g h : ℕ) → IsWord a g → IsWord b h → g < h → slice_cmp nat_cmp a b ≡ Less
lower_word a b g h of_a of_b less = lower_number a b 8 of_a.bytes of_b.bytes (let l = of_a.number in let r = of_b.number in subst (λ z. number_of 8 a < z) r (subst (λ z. z < h) l less))

-- words that differ compare as the strings do
pub cmp_by_unlike : (a b : List ℕ) (g h : ℕ) (r : Ordering) → IsWord a g → IsWord b h → (g ≡ h → ⊥) → r ≡ nat_cmp g h → r ≡ slice_cmp nat_cmp a b
cmp_by_unlike a b g h r of_a of_b differ is =
    elim r as (λ r. MatchOrdering r (g < h) (g ≡ h) (h < g) → r ≡ slice_cmp nat_cmp a b) [
      | Less ↦ λ less. sym (lower_word a b g h of_a of_b less)
      | Equal ↦ λ same. absurd (differ same)
      | Greater ↦ λ more. sym (nat_list_cmp_total.antisymm a b ∙ ap ordering_reverse (lower_word b a h g of_b of_a more))
    ] (ranked g h r is)

-- each byte fits
pub are_bytes : (n : ℕ) (text : List ℕ) → ((i : ℕ) → byte_at text i < 256) → AreBytes n text
are_bytes zero text fit = tt
are_bytes (suc n) text fit = (are_bytes n text fit, fit n)

-- the eight bytes from a place on are the word of what is there
pub word_at : (text : List ℕ) (at n : ℕ) → ((i : ℕ) → byte_at text i < 256) → n ≡ from_be_bytes w64 (take (at + 8 - at) (drop at text)) → IsWord (drop at text) n
word_at text at n fit is =
    let rest = drop at text in
    let e : at + 8 - at ≡ 8 = omega arith in
    let read : n ≡ from_be_bytes w64 (take 8 rest) = is ∙ ap (λ k. from_be_bytes w64 (take k rest)) e in
    let same = λ (i : ℕ) (lt : i < 8). get_or-take 8 rest i 0 lt in
    record {
      number = omega (arith, read, same 0 (omega arith), same 1 (omega arith), same 2 (omega arith), same 3 (omega arith), same 4 (omega arith), same 5 (omega arith), same 6 (omega arith), same 7 (omega arith));
      bytes = are_bytes 8 rest (λ i. omega (arith, fit (at + i), get_or-drop at text i 0));
    }

-- the first bytes, so many of them, are the same
abbrev pub AreAlike : List ℕ → List ℕ → ℕ → Type 0
AreAlike a b n = (j : ℕ) → j < n → byte_at a j ≡ byte_at b j

-- what is the same in front can be left out
past : (n : ℕ) (a b : List ℕ) → n ≤ length a → n ≤ length b → AreAlike a b n → slice_cmp nat_cmp a b ≡ slice_cmp nat_cmp (drop n a) (drop n b)
past zero a b of_a of_b same = refl
past (suc n) [] b of_a of_b same = absurd (omega (arith, of_a))
past (suc n) (x ∷ xs) [] of_a of_b same = absurd (omega (arith, of_b))
past (suc n) (x ∷ xs) (y ∷ ys) of_a of_b same =
    ap (λ o. ordering_then o (slice_cmp nat_cmp xs ys)) (is_equal x y (same 0 (omega arith)))
    ∙ past n xs ys (omega (arith, of_a)) (omega (arith, of_b)) (λ j lt. same (suc j) (omega (arith, lt)))

-- strings that begin alike and go on with the same eight bytes
pub alike_further : (a b : List ℕ) (n from x y : ℕ) → AreAlike a b n → from ≤ n → IsWord (drop from a) x → IsWord (drop from b) y → x ≡ y → AreAlike a b (from + 8)
alike_further a b n from x y same le of_a of_b level j lt =
    elim (cases_lt j from) [
      | inl before ↦ same j (omega (arith, before, le))
      | inr after ↦
          let words : number_of 8 (drop from a) ≡ number_of 8 (drop from b) = sym of_a.number ∙ level ∙ of_b.number in
          let here = same_digits (drop from a) (drop from b) 8 of_a.bytes of_b.bytes words (j - from) (omega (arith, lt, after)) in
          let at : from + (j - from) ≡ j = omega (arith, after) in
          subst (λ i. byte_at a i ≡ byte_at b i) at (sym (get_or-drop from a (j - from) 0) ∙ here ∙ get_or-drop from b (j - from) 0)
    ]

-- behind the same bytes the next eight decide where they differ
pub cmp_by_words : (a b : List ℕ) (n from x y : ℕ) (r : Ordering) → AreAlike a b n → from ≤ n → from ≤ length a → from ≤ length b → IsWord (drop from a) x → IsWord (drop from b) y → (x ≡ y → ⊥) → r ≡ nat_cmp x y → r ≡ slice_cmp nat_cmp a b
cmp_by_words a b n from x y r same le in_a in_b of_a of_b differ is =
    cmp_by_unlike (drop from a) (drop from b) x y r of_a of_b differ is
    ∙ sym (past from a b in_a in_b (λ j lt. same j (omega (arith, lt, le))))

cmp_next : (m n : ℕ) → nat_cmp (suc m) (suc n) ≡ nat_cmp m n
cmp_next m n =
    elim (nat_cmp m n) as (λ r. MatchOrdering r (m < n) (m ≡ n) (n < m) → nat_cmp (suc m) (suc n) ≡ r) [
      | Less ↦ λ less. is_less (suc m) (suc n) (omega (arith, less))
      | Equal ↦ λ same. is_equal (suc m) (suc n) (omega (arith, same))
      | Greater ↦ λ more. is_greater (suc m) (suc n) (omega (arith, more))
    ] (ranked m n (nat_cmp m n) refl)

-- where one begins the other their lengths decide
by_lengths : (a b : List ℕ) → ((j : ℕ) → j < length a → j < length b → byte_at a j ≡ byte_at b j) → nat_cmp (length a) (length b) ≡ slice_cmp nat_cmp a b
by_lengths [] [] same = refl
by_lengths [] (y ∷ ys) same = is_less 0 (suc (length ys)) (omega arith)
by_lengths (x ∷ xs) [] same = is_greater (suc (length xs)) 0 (omega arith)
by_lengths (x ∷ xs) (y ∷ ys) same =
    cmp_next (length xs) (length ys)
    ∙ by_lengths xs ys (λ j of_a of_b. same (suc j) (omega (arith, of_a)) (omega (arith, of_b)))
    ∙ sym (ap (λ o. ordering_then o (slice_cmp nat_cmp xs ys)) (is_equal x y (same 0 (omega arith) (omega arith))))

pub cmp_by_lengths : (a b : List ℕ) (both n : ℕ) (r : Ordering) → both ≡ min (length a) (length b) → both ≤ n → AreAlike a b n → r ≡ nat_cmp (length a) (length b) → r ≡ slice_cmp nat_cmp a b
cmp_by_lengths a b both n r is_both le same is = is ∙ by_lengths a b (λ j of_a of_b. same j (omega (arith, is_both, le, of_a, of_b)))
