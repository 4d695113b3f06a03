-- The pieces of a range in the parts from that of its first byte to that of its last.
use Rattle.std.proofs.Common.{◌≡◌, ℕ, zero, suc, ◌+◌, ◌-◌, ◌*◌, ◌/◌, ◌<◌, ◌≤◌, ◌==◌, min, not, Bool, true, false, cond, List, [], ◌∷◌, ◌++◌, All, length, map, filter, refl, sym, ap, ◌∙◌, subst, arith}
use Rattle.std.specs.List.{range_with_len}
use Rattle.std.proofs.Math.Nat.{mul-le-mul_left, div-mul-le_self, lt-div-mul-add, le-div_iff_mul-le}
use Rattle.std.proofs.lemmas.Bool.Decides.{nat_tests}
use Rattle.std.proofs.lemmas.Grind.{div_ceil_times}
use Rattle.std.proofs.lemmas.List.{append-nil, map-append}
use Rattle.std.proofs.lemmas.List.Elements.{filter-append}
use Rattle.std.proofs.lemmas.List.FromFn.{map-range_with_len_more, get_or-map-range_with_len, length-map-range_with_len}
use Rattle.std.proofs.lemmas.Nat.{div_below}
use Rattle.rgw_types.specs.Stripes.{ManifestView, IsManifest, tails_of}
use Rattle.rgw_types.specs.declared.pool_key.TheConstants.{LAST_PART}
use Rattle.manifest.specs.declared.parts.Part.{Part}
use Rattle.manifest.specs.Ranges.{part_size, part_numbers, piece_at, whole_part, has_bytes, parts_of, IsWithin}

-- ---- lists made from a function of the number

pub grown : {X : Type 0} (f : ℕ → X) (first at : ℕ) (items new : List X) (x : X) → first ≤ at
    → items ≡ map f (range_with_len first (at - first)) → x ≡ f at → new ≡ items ++ x ∷ [] → new ≡ map f (range_with_len first (at + 1 - first))
grown f first at items new x le so_far is added =
    let more : at - first + 1 ≡ at + 1 - first = omega arith in
    added ∙ (λ i. so_far i ++ is i ∷ []) ∙ sym (map-range_with_len_more f first (at - first) at (omega arith)) ∙ ap (λ n. map f (range_with_len first n)) more

range_joined : (a n m k : ℕ) → n + m ≡ k → range_with_len a k ≡ range_with_len a n ++ range_with_len (a + n) m
range_joined a zero m k e =
    let s : k ≡ m = omega arith in let t : a ≡ a + 0 = omega arith in λ i. range_with_len (t i) (s i)
range_joined a (suc n) m zero e = absurd (omega arith)
range_joined a (suc n) m (suc k) e =
    let t : a + 1 + n ≡ a + suc n = omega arith in
    ap (λ l. a ∷ l) (range_joined (a + 1) n m k (omega arith) ∙ ap (λ b. range_with_len (a + 1) n ++ range_with_len b m) t)

module _ {X : Type 0} (p : X → Bool) (f : ℕ → X) where
  pub none_kept : (a n : ℕ) → ((k : ℕ) → a ≤ k → k < a + n → p (f k) ≡ false) → filter p (map f (range_with_len a n)) ≡ []
  none_kept a zero out = refl
  none_kept a (suc n) out =
      let rest = filter p (map f (range_with_len (a + 1) n)) in
      ap (λ b. cond b (f a ∷ rest) rest) (out a (omega arith) (omega arith)) ∙ none_kept (a + 1) n (λ k l u. out k (omega arith) (omega arith))

  all_kept : (a n : ℕ) → ((k : ℕ) → a ≤ k → k < a + n → p (f k) ≡ true) → filter p (map f (range_with_len a n)) ≡ map f (range_with_len a n)
  all_kept a zero has = refl
  all_kept a (suc n) has =
      let rest = filter p (map f (range_with_len (a + 1) n)) in
      ap (λ b. cond b (f a ∷ rest) rest) (has a (omega arith) (omega arith)) ∙ ap (λ l. f a ∷ l) (all_kept (a + 1) n (λ k l u. has k (omega arith) (omega arith)))

  kept_between : (first n all : ℕ) → first + n ≤ all → ((k : ℕ) → k < first → p (f k) ≡ false) → ((k : ℕ) → first ≤ k → k < first + n → p (f k) ≡ true)
      → ((k : ℕ) → first + n ≤ k → p (f k) ≡ false) → filter p (map f (range_with_len 0 all)) ≡ map f (range_with_len first n)
  kept_between first n all fits below inside above =
      let parted : range_with_len 0 all ≡ range_with_len 0 first ++ (range_with_len (0 + first) n ++ range_with_len (0 + first + n) (all - first - n)) =
      range_joined 0 first (all - first) all (omega arith) ∙ ap (λ l. range_with_len 0 first ++ l) (range_joined (0 + first) n (all - first - n) (all - first) (omega arith)) in
      let start : 0 + first ≡ first = omega arith in
      ap (λ l. filter p (map f l)) parted
      ∙ ap (filter p) (map-append f (range_with_len 0 first) (range_with_len (0 + first) n ++ range_with_len (0 + first + n) (all - first - n)))
      ∙ filter-append p (map f (range_with_len 0 first)) (map f (range_with_len (0 + first) n ++ range_with_len (0 + first + n) (all - first - n)))
      ∙ ap (λ l. l ++ filter p (map f (range_with_len (0 + first) n ++ range_with_len (0 + first + n) (all - first - n)))) (none_kept 0 first (λ k l u. below k (omega arith)))
      ∙ ap (filter p) (map-append f (range_with_len (0 + first) n) (range_with_len (0 + first + n) (all - first - n)))
      ∙ filter-append p (map f (range_with_len (0 + first) n)) (map f (range_with_len (0 + first + n) (all - first - n)))
      ∙ ap (λ l. filter p (map f (range_with_len (0 + first) n)) ++ l) (none_kept (0 + first + n) (all - first - n) (λ k l u. above k (omega arith)))
      ∙ append-nil (filter p (map f (range_with_len (0 + first) n)))
      ∙ all_kept (0 + first) n (λ k l u. inside k (omega arith) (omega arith))
      ∙ ap (λ a. map f (range_with_len a n)) start

-- ---- which parts a range meets

-- a part meets the range: it begins below the range's end, and ends above its start
pub record Meets (m : ManifestView) (start count k : ℕ) : Type 0 where
  pub begins : start < k * m.stripe + m.stripe
  pub ends : k * m.stripe < start + count

before_first : (stripe start k : ℕ) → k < start / stripe → k * stripe + stripe ≤ start
before_first stripe start k below =
    let step : stripe * suc k ≤ stripe * (start / stripe) = mul-le-mul_left stripe below in
    omega (arith, div-mul-le_self start stripe)

behind_last : (stripe end k : ℕ) → 0 < stripe → (end - 1) / stripe + 1 ≤ k → end ≤ k * stripe
behind_last stripe end k some above =
    let step : stripe * ((end - 1) / stripe + 1) ≤ stripe * k = mul-le-mul_left stripe above in
    omega (arith, lt-div-mul-add {a = end - 1} {b = stripe} some)

between : (m : ManifestView) (start count k : ℕ) → 0 < m.stripe → 0 < count → start / m.stripe ≤ k → k < (start + count - 1) / m.stripe + 1 → Meets m start count k
between m start count k some filled low high =
    let step : m.stripe * (start / m.stripe) ≤ m.stripe * k = mul-le-mul_left m.stripe low in
    let last : m.stripe * k ≤ m.stripe * ((start + count - 1) / m.stripe) = mul-le-mul_left m.stripe (let h : k ≤ (start + count - 1) / m.stripe = omega arith in h) in
    record {
      begins = omega (arith, lt-div-mul-add {a = start} {b = m.stripe} some);
      ends = omega (arith, div-mul-le_self (start + count - 1) m.stripe);
    }

filled_test : (n : ℕ) → 0 < n → not (n == 0) ≡ true
filled_test n some = grind (arith, nat_tests)

empty_test : (n : ℕ) → n ≡ 0 → not (n == 0) ≡ false
empty_test n none = ap (λ x. not (x == 0)) none

pub filled_piece : (m : ManifestView) (start count k : ℕ) → 0 < m.stripe → start + count ≤ m.size → 0 < count → Meets m start count k → 0 < (piece_at m start count k).count
filled_piece m start count k some inside filled meets = omega (arith, meets.begins, meets.ends)

pub tails_enough : (m : ManifestView) → 0 < m.stripe → m.size ≤ (tails_of m + 1) * m.stripe
tails_enough m some = omega (arith, (div_ceil_times (m.size - m.stripe) m.stripe some).0)

pub last_is_part : (m : ManifestView) (start count : ℕ) → 0 < m.stripe → 0 < count → start + count ≤ m.size → (start + count - 1) / m.stripe < tails_of m + 1
last_is_part m start count some filled inside =
    div_below (start + count - 1) m.stripe (tails_of m + 1) some (omega (arith, tails_enough m some))

tails_limited : (m : ManifestView) → IsManifest m → tails_of m ≤ LAST_PART
tails_limited m is =
    let short : tails_of m * 16 ≤ tails_of m * m.stripe = mul-le-mul_left (tails_of m) is.stripe_low in
    omega (arith, is.stripe_high, is.size_high, (div_ceil_times (m.size - m.stripe) m.stripe (let h : 0 < m.stripe = omega (arith, is.stripe_low) in h)).1)

-- the parts of a range that is not empty are those from its first byte's to its last byte's
pub parts_between : (m : ManifestView) (start count : ℕ) → 0 < m.stripe → 0 < count → start + count ≤ m.size
    → parts_of m start count ≡ map (piece_at m start count) (range_with_len (start / m.stripe) ((start + count - 1) / m.stripe + 1 - start / m.stripe))
parts_between m start count some filled inside =
    let first = start / m.stripe in
    let n = (start + count - 1) / m.stripe + 1 - first in
    let f = piece_at m start count in
    let ordered : first ≤ (start + count - 1) / m.stripe = (le-div_iff_mul-le {x = first} {y = start + count - 1} some).1 (omega (arith, div-mul-le_self start m.stripe)) in
    kept_between has_bytes f first n (tails_of m + 1) (omega (arith, last_is_part m start count some filled inside))
    (λ k below. empty_test _ (omega (arith, before_first m.stripe start k below)))
    (λ k low high. filled_test _ (filled_piece m start count k some inside filled (between m start count k some filled low (omega arith))))
    (λ k above. empty_test _ (omega (arith, behind_last m.stripe (start + count) k some (omega arith))))

-- an empty range has no parts
pub parts_of_nothing : (m : ManifestView) (start : ℕ) → parts_of m start 0 ≡ []
parts_of_nothing m start = none_kept has_bytes (piece_at m start 0) 0 (tails_of m + 1) (λ k l u. empty_test _ (omega arith))

-- ---- what callers know of each part

-- the parts in the form in which they are made, with their numbers
pub record AreMade (m : ManifestView) (start count : ℕ) (parts : List Part) : Type 0 where
  pub filled : 0 < count
  pub inside : start + count ≤ m.size
  pub bounds : IsManifest m
  pub made : parts ≡ map (piece_at m start count) (range_with_len (start / m.stripe) ((start + count - 1) / m.stripe + 1 - start / m.stripe))

pub made_within : (m : ManifestView) (start count : ℕ) (parts : List Part) → AreMade m start count parts → All (IsWithin m) parts
made_within m start count parts is =
    let first = start / m.stripe in
    let n = (start + count - 1) / m.stripe + 1 - first in
    let some : 0 < m.stripe = omega (arith, is.bounds.stripe_low) in
    subst (All (IsWithin m)) (sym is.made) (λ k d l.
    let lt : k < n = omega (arith, length-map-range_with_len (piece_at m start count) first n) in
    subst (IsWithin m) (sym (get_or-map-range_with_len (piece_at m start count) first n k (first + k) d lt refl))
    (let meets = between m start count (first + k) some is.filled (omega arith) (omega arith) in
    let some_bytes = filled_piece m start count (first + k) some is.inside is.filled meets in
    record {
      is_part = omega (arith, last_is_part m start count some is.filled is.inside);
      is_numbered = omega (arith, tails_limited m is.bounds, last_is_part m start count some is.filled is.inside);
      is_filled = some_bytes;
      is_inside = omega arith;
    }))

numbers : (f : ℕ → Part) → ((k : ℕ) → (f k).part ≡ k) → (a n : ℕ) → map (λ p. p.part) (map f (range_with_len a n)) ≡ range_with_len a n
numbers f is a zero = refl
numbers f is a (suc n) = λ i. is a i ∷ numbers f is (a + 1) n i

pub made_in_order : (m : ManifestView) (start count : ℕ) (parts : List Part) → AreMade m start count parts
    → map (λ p. p.part) parts ≡ range_with_len (start / m.stripe) (length parts)
made_in_order m start count parts is =
    let f = piece_at m start count in
    let first = start / m.stripe in
    let n = (start + count - 1) / m.stripe + 1 - first in
    let long : n ≡ length parts = sym (ap length is.made ∙ length-map-range_with_len f first n) in
    ap (map (λ p. p.part)) is.made ∙ numbers f (λ k. refl) first n ∙ ap (range_with_len first) long

-- ---- the sizes of parts

pub full_part : (m : ManifestView) (k : ℕ) → 0 < m.stripe → k < tails_of m → part_size m k ≡ m.stripe
full_part m k some lt =
    let step : m.stripe * (k + 1) ≤ m.stripe * tails_of m = mul-le-mul_left m.stripe (let h : k + 1 ≤ tails_of m = omega arith in h) in
    omega (arith, (div_ceil_times (m.size - m.stripe) m.stripe some).1)

pub filled_tail : (m : ManifestView) (k : ℕ) → 0 < m.stripe → 0 < k → k ≤ tails_of m → 0 < part_size m k
filled_tail m k some tail le =
    let step : m.stripe * k ≤ m.stripe * tails_of m = mul-le-mul_left m.stripe le in
    let one : m.stripe * 1 ≤ m.stripe * k = mul-le-mul_left m.stripe (let h : 1 ≤ k = omega arith in h) in
    omega (arith, (div_ceil_times (m.size - m.stripe) m.stripe some).1)

pub no_part : (m : ManifestView) (k : ℕ) → 0 < m.stripe → tails_of m < k → part_size m k ≡ 0
no_part m k some lt =
    let step : m.stripe * (tails_of m + 1) ≤ m.stripe * k = mul-le-mul_left m.stripe (let h : tails_of m + 1 ≤ k = omega arith in h) in
    omega (arith, tails_enough m some)

whole_piece : (m : ManifestView) (k : ℕ) → piece_at m 0 m.size k ≡ whole_part m k
whole_piece m k =
    let s : 0 - k * m.stripe ≡ 0 = omega arith in
    let c : min (0 + m.size - k * m.stripe) (part_size m k) - (0 - k * m.stripe) ≡ part_size m k = omega arith in
    λ i. record { part = k; start = s i; count = c i }

whole_pieces : (m : ManifestView) (a n : ℕ) → map (piece_at m 0 m.size) (range_with_len a n) ≡ map (whole_part m) (range_with_len a n)
whole_pieces m a zero = refl
whole_pieces m a (suc n) = λ i. whole_piece m a i ∷ whole_pieces m (a + 1) n i

pub whole_parts : (m : ManifestView) → parts_of m 0 m.size ≡ filter has_bytes (map (whole_part m) (part_numbers m))
whole_parts m = ap (filter has_bytes) (whole_pieces m 0 (tails_of m + 1))
