-- The tails that have bytes of a range, and what their pieces are of the object's bytes.
use Rattle.std.proofs.Common.{◌≡◌, ℕ, zero, suc, ◌+◌, ◌-◌, ◌*◌, ◌/◌, ◌<◌, ◌≤◌, min, max, true, false, nat_le, cond, List, [], ◌∷◌, ◌++◌, length, map, filter, take, drop, refl, sym, ap, ◌∙◌, subst, arith}
use Rattle.std.specs.List.{range_with_len}
use Rattle.std.proofs.Math.Nat.{mul-le-mul_left, div-mul-le_self, lt-div-mul-add, le-div_iff_mul-le}
use Rattle.std.proofs.lemmas.Bool.Decides.{nat_tests}
use Rattle.std.proofs.lemmas.List.{take-append-le, drop-append-le, length-drop}
use Rattle.std.proofs.lemmas.Nat.{div-mul-add}
use Rattle.rgw_types.specs.Stripes.{ManifestView, tails_of}
use Rattle.manifest.specs.Ranges.{part_size, piece_at, parts_of}
use Rattle.manifest.proofs.RangeLemmas.{parts_between, last_is_part}
use Rattle.task_get.specs.Pieces.{is_tail}

low_test : (low n : ℕ) → low ≤ n → nat_le low n ≡ true
low_test low n h = grind (arith, nat_tests)

-- parts behind the head are all kept
tails_kept : (m : ManifestView) (start count a n : ℕ) → 1 ≤ a → filter is_tail (map (piece_at m start count) (range_with_len a n)) ≡ map (piece_at m start count) (range_with_len a n)
tails_kept m start count a zero low = refl
tails_kept m start count a (suc n) low =
    let rest = filter is_tail (map (piece_at m start count) (range_with_len (a + 1) n)) in
    ap (λ b. cond b (piece_at m start count a ∷ rest) rest) (low_test 1 a low) ∙ ap (λ l. piece_at m start count a ∷ l) (tails_kept m start count (a + 1) n (omega arith))

-- of parts in a row, those behind the head
from_first : (m : ManifestView) (start count a n : ℕ) → filter is_tail (map (piece_at m start count) (range_with_len a n)) ≡ map (piece_at m start count) (range_with_len (max 1 a) (a + n - max 1 a))
from_first m start count zero zero = refl
from_first m start count zero (suc n) =
    let k : n ≡ 0 + suc n - 1 = omega arith in
    tails_kept m start count 1 n (omega arith) ∙ ap (λ k. map (piece_at m start count) (range_with_len 1 k)) k
from_first m start count (suc a) n =
    let first : suc a ≡ max 1 (suc a) = omega arith in
    let k : n ≡ suc a + n - max 1 (suc a) = omega arith in
    tails_kept m start count (suc a) n (omega arith) ∙ (λ i. map (piece_at m start count) (range_with_len (first i) (k i)))

-- the first tail that may have bytes of the range, and how many have some
abbrev pub first_tail : ManifestView → ℕ → ℕ
first_tail m start = max 1 (start / m.stripe)

abbrev pub tails_left : ManifestView → ℕ → ℕ → ℕ
tails_left m start count = (start + count - 1) / m.stripe + 1 - first_tail m start

pub tails_between : (m : ManifestView) (start count : ℕ) → 0 < m.stripe → 0 < count → start + count ≤ m.size
    → filter is_tail (parts_of m start count) ≡ map (piece_at m start count) (range_with_len (first_tail m start) (tails_left m start count))
tails_between m start count some filled inside =
    let first = start / m.stripe in
    let last = (start + count - 1) / m.stripe in
    let ordered : first ≤ last = (le-div_iff_mul-le {x = first} {y = start + count - 1} some).1 (omega (arith, div-mul-le_self start m.stripe)) in
    let n : first + (last + 1 - first) - max 1 first ≡ last + 1 - max 1 first = omega (arith, ordered) in
    ap (filter is_tail) (parts_between m start count some filled inside)
    ∙ from_first m start count first (last + 1 - first)
    ∙ ap (λ k. map (piece_at m start count) (range_with_len (max 1 first) k)) n

-- where a tail follows, so many are left, up to the one with the last byte
pub record IsLast (m : ManifestView) (start count part left : ℕ) : Type 0 where
  pub low : (part + left) * m.stripe < start + count + m.stripe
  pub high : start + count ≤ (part + left) * m.stripe

pub first_last : (m : ManifestView) (start count : ℕ) → 0 < m.stripe → 0 < count → first_tail m start * m.stripe < start + count → IsLast m start count (first_tail m start) (tails_left m start count)
first_last m start count some filled follows =
    let end = start + count - 1 in
    let first = first_tail m start in
    let last = end / m.stripe in
    let below : first * m.stripe ≤ end = omega (arith, follows, filled) in
    let ordered : first ≤ last = (le-div_iff_mul-le {x = first} {y = end} some).1 (omega (arith, below)) in
    let sum : first + (last + 1 - first) ≡ last + 1 = omega (arith, ordered) in
    let floor = div-mul-le_self end m.stripe in
    let ceiling = lt-div-mul-add {a = end} {b = m.stripe} some in
    record {
      low = subst (λ n. n * m.stripe < start + count + m.stripe) (sym sum) (omega (arith, floor, filled));
      high = subst (λ n. start + count ≤ n * m.stripe) (sym sum) (omega (arith, ceiling, filled));
    }

-- no tail has bytes of the range
pub none_left : (m : ManifestView) (start count : ℕ) → 0 < m.stripe → 0 < count → start + count ≤ first_tail m start * m.stripe → tails_left m start count ≡ 0
none_left m start count some filled none =
    let end = start + count - 1 in
    let first = first_tail m start in
    let last = end / m.stripe in
    let floor = div-mul-le_self end m.stripe in
    let below : last * m.stripe < first * m.stripe = omega (arith, floor, filled, none) in
    elim (nat_le first last) as (λ b. nat_le first last ≡ b → last + 1 - first ≡ 0) [
      | false ↦ λ is. grind (arith, nat_tests)
      | true ↦ λ is.
          let above : first ≤ last = grind (arith, nat_tests) in
          let step : m.stripe * first ≤ m.stripe * last = mul-le-mul_left m.stripe above in
          absurd (omega (arith, step, below))
    ] refl

-- the piece of the range in a tail that has some of its bytes
pub record IsPiece (m : ManifestView) (start count part : ℕ) : Type 0 where
  pub some : 1 ≤ (piece_at m start count part).count
  pub is_part : part ≤ tails_of m
  pub inside : (piece_at m start count part).start + (piece_at m start count part).count ≤ part_size m part

pub piece_is : (m : ManifestView) (start count part : ℕ) → 0 < m.stripe → 1 ≤ count → start + count ≤ m.size → start < part * m.stripe + m.stripe → part * m.stripe < start + count → IsPiece m start count part
piece_is m start count part some filled inside begins ends =
    let there = last_is_part m (part * m.stripe) 1 some (omega arith) (omega (arith, ends, inside)) in
    let whole : part ≤ (part * m.stripe + 1 - 1) / m.stripe = (le-div_iff_mul-le {x = part} {y = part * m.stripe + 1 - 1} some).1 (omega arith) in
    record {
      some = omega (arith, filled, begins, ends, inside);
      is_part = omega (arith, there, whole);
      inside = omega (arith, begins, ends, inside);
    }

-- a piece of one part alone is that part's
pub one_part : (m : ManifestView) (part start count : ℕ) → 0 < m.stripe → 1 ≤ count → part ≤ tails_of m → start + count ≤ part_size m part → parts_of m (part * m.stripe + start) count ≡ record { part = part; start = start; count = count } ∷ []
one_part m part start count some filled is_part inside =
    let at = part * m.stripe + start in
    let first : at / m.stripe ≡ part = div-mul-add part m.stripe start (omega (arith, inside, filled)) in
    let end : at + count - 1 ≡ part * m.stripe + (start + count - 1) = omega (arith, filled) in
    let last : (at + count - 1) / m.stripe ≡ part = ap (λ n. n / m.stripe) end ∙ div-mul-add part m.stripe (start + count - 1) (omega (arith, inside, filled)) in
    let one : (at + count - 1) / m.stripe + 1 - at / m.stripe ≡ 1 = omega (arith, first, last) in
    let s : at - part * m.stripe ≡ start = omega arith in
    let c : min (at + count - part * m.stripe) (part_size m part) - (at - part * m.stripe) ≡ count = omega (arith, inside) in
    parts_between m at count some filled (omega (arith, inside))
    ∙ (λ i. map (piece_at m at count) (range_with_len (first i) (one i)))
    ∙ (λ i. record { part = part; start = s i; count = c i } ∷ [])

-- ---- the head's part of a range

-- bytes that are in the front alone
pub front_bytes : (first rest : List ℕ) (start n : ℕ) → n ≤ length first - start → take n (drop start (first ++ rest)) ≡ take n (drop start first)
front_bytes first rest start n few =
    elim (nat_le start (length first)) as (λ b. nat_le start (length first) ≡ b → take n (drop start (first ++ rest)) ≡ take n (drop start first)) [
      | true ↦ λ is.
          let low : start ≤ length first = grind (arith, nat_tests) in
          let long = length-drop start first in
          ap (take n) (drop-append-le start first rest low) ∙ take-append-le n (drop start first) rest (omega (arith, long, few))
      | false ↦ λ is.
          let high : length first < start = grind (arith, nat_tests) in
          let none : n ≡ 0 = omega (arith, high, few) in
          ap (λ k. take k (drop start (first ++ rest))) none ∙ sym (ap (λ k. take k (drop start first)) none)
    ] refl

-- how many bytes of the range the head has: those before the first tail, or all
pub record HeadHas (m : ManifestView) (start count : ℕ) : Type 0 where
  pub begins : start < first_tail m start * m.stripe + m.stripe
  pub front : first_tail m start * m.stripe < start + count → min m.stripe (start + count) - start ≡ first_tail m start * m.stripe - start
  pub whole : start + count ≤ first_tail m start * m.stripe → min m.stripe (start + count) - start ≡ count

pub head_has : (m : ManifestView) (start count : ℕ) → 0 < m.stripe → 1 ≤ count → HeadHas m start count
head_has m start count some filled =
    let q = start / m.stripe in
    let floor : q * m.stripe ≤ start = div-mul-le_self start m.stripe in
    let ceiling : start < q * m.stripe + m.stripe = lt-div-mul-add {a = start} {b = m.stripe} some in
    elim (nat_le 1 q) as (λ b. nat_le 1 q ≡ b → HeadHas m start count) [
      | true ↦ λ is.
          let low : 1 ≤ q = grind (arith, nat_tests) in
          let step : m.stripe * 1 ≤ m.stripe * q = mul-le-mul_left m.stripe low in
          let same : q ≡ max 1 q = omega (arith, low) in
          record {
            begins = subst (λ k. start < k * m.stripe + m.stripe) same ceiling;
            front = subst (λ k. k * m.stripe < start + count → min m.stripe (start + count) - start ≡ k * m.stripe - start) same (λ follows. omega (arith, step, floor));
            whole = subst (λ k. start + count ≤ k * m.stripe → min m.stripe (start + count) - start ≡ count) same (λ none. absurd (omega (arith, floor, none, filled)));
          }
      | false ↦ λ is.
          let none : q ≡ 0 = grind (arith, nat_tests) in
          let below : start < m.stripe = let c = subst (λ k. start < k * m.stripe + m.stripe) none ceiling in omega (arith, c) in
          let one : 1 ≡ max 1 q = omega (arith, none) in
          record {
            begins = subst (λ k. start < k * m.stripe + m.stripe) one (omega (arith, below));
            front = subst (λ k. k * m.stripe < start + count → min m.stripe (start + count) - start ≡ k * m.stripe - start) one (λ follows. omega (arith, follows));
            whole = subst (λ k. start + count ≤ k * m.stripe → min m.stripe (start + count) - start ≡ count) one (λ all. omega (arith, all));
          }
    ] refl
