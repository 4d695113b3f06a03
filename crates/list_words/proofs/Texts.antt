-- The order of texts, and texts that begin with others.
use Rattle.std.proofs.Common.{◌≡◌, ℕ, ◌+◌, ◌<◌, ◌≤◌, ◌==◌, ◌&&◌, Bool, true, false, cond, List, [], ◌∷◌, ◌++◌, take, drop, length, nat_eq, refl, sym, ◌∙◌, ap, subst, inl, inr, arith}
use Rattle.std.specs.declared.cmp.Ordering.{Ordering}
use Rattle.std.specs.declared.cmp.Ordering.TheVariants.{Less, Equal, Greater}
use Rattle.std.specs.Ordering.{is_lt, is_eq, nat_cmp, ordering_then}
use Rattle.std.specs.Cmp.{tied_itself, tied_back, alike_right, nat_cmp_total}
use Rattle.std.specs.Cmp.Lexicographic.{slice_cmp, nat_list_cmp_total, pointwise}
use Rattle.std.proofs.lemmas.Bool.{cases_order, cases_Bool, and_parts, and_from, both_ways, false_from_ne_true}
use Rattle.std.proofs.lemmas.Bool.Decides.{nat_tests}
use Rattle.std.proofs.lemmas.List.{take-append-le}
use Rattle.object_words.specs.Names.{name_cmp}
use Rattle.object_words.proofs.KeyLemmas.{same_text, number_itself}
use Rattle.list_words.specs.Listings.{is_before, begins_with}

-- ---- the order

less : (o : Ordering) → is_lt o ≡ true → o ≡ Less
less Less h = refl
less Equal h = cc
less Greater h = cc

turned : (x y : List ℕ) (o : Ordering) → name_cmp y x ≡ o → o ≡ Greater → name_cmp x y ≡ Less
turned x y o is greater = nat_list_cmp_total.antisymm x y ∙ rw (is, greater) refl

pub before_itself : (x : List ℕ) → is_before x x ≡ false
before_itself x = ap is_lt (tied_itself nat_list_cmp_total x)

pub before_trans : (x y z : List ℕ) → is_before x y ≡ true → is_before y z ≡ true → is_before x z ≡ true
before_trans x y z one two = ap is_lt (nat_list_cmp_total.trans x y z (less _ one) (less _ two))

-- x is not above y, which is before z
pub upto_before : (x y z : List ℕ) → is_before y x ≡ false → is_before y z ≡ true → is_before x z ≡ true
upto_before x y z low high =
    elim (name_cmp y x) as (λ o. name_cmp y x ≡ o → is_lt o ≡ false → is_before x z ≡ true) [
      | Less ↦ λ is no. absurd (both_ways true no refl)
      | Equal ↦ λ is no. ap is_lt (nat_list_cmp_total.congr x y z (tied_back nat_list_cmp_total y x is)) ∙ high
      | Greater ↦ λ is no. before_trans x y z (ap is_lt (turned x y Greater is refl)) high
    ] refl low

-- x is before y, which is not above z
pub before_upto : (x y z : List ℕ) → is_before x y ≡ true → is_before z y ≡ false → is_before x z ≡ true
before_upto x y z low high =
    elim (name_cmp z y) as (λ o. name_cmp z y ≡ o → is_lt o ≡ false → is_before x z ≡ true) [
      | Less ↦ λ is no. absurd (both_ways true no refl)
      | Equal ↦ λ is no. ap is_lt (alike_right nat_list_cmp_total z y x is) ∙ low
      | Greater ↦ λ is no. before_trans x y z low (ap is_lt (turned y z Greater is refl))
    ] refl high

-- x is not above y, which is not above z
pub upto_upto : (x y z : List ℕ) → is_before y x ≡ false → is_before z y ≡ false → is_before z x ≡ false
upto_upto x y z low high = false_from_ne_true _ (λ before. both_ways _ high (before_upto z x y before low))

pub not_after : (x y : List ℕ) → is_before x y ≡ true → is_before y x ≡ false
not_after x y before = false_from_ne_true _ (λ after. both_ways _ (before_itself x) (before_trans x y x before after))

-- neither stands before the other
pub same_place : (x y : List ℕ) → is_before x y ≡ false → is_before y x ≡ false → x ≡ y
same_place x y one other =
    elim (name_cmp x y) as (λ o. name_cmp x y ≡ o → is_lt o ≡ false → x ≡ y) [
      | Less ↦ λ is no. absurd (both_ways true no refl)
      | Equal ↦ λ is no. same_text x y (ap is_eq is)
      | Greater ↦ λ is no. absurd (both_ways _ other (ap is_lt (turned y x Greater is refl)))
    ] refl one

-- ---- fronts

pub begins_append : (front rest : List ℕ) → begins_with (front ++ rest) front ≡ true
begins_append [] rest = refl
begins_append (x ∷ front) rest = and_from _ _ (number_itself x) (begins_append front rest)

pub begins_itself : (text : List ℕ) → begins_with text text ≡ true
begins_itself [] = refl
begins_itself (x ∷ text) = and_from _ _ (number_itself x) (begins_itself text)

pub rest_behind : (text front : List ℕ) → begins_with text front ≡ true → text ≡ front ++ drop (length front) text
rest_behind text [] begins = refl
rest_behind [] (x ∷ front) begins = cc
rest_behind (y ∷ text) (x ∷ front) begins =
    let both = and_parts (x == y) (begins_with text front) begins in
    let head : x ≡ y = grind (arith, nat_tests, both.0) in
    ap (λ n. n ∷ text) (sym head) ∙ ap (λ rest. x ∷ rest) (rest_behind text front both.1)

pub begins_by : (text front rest : List ℕ) → text ≡ front ++ rest → begins_with text front ≡ true
begins_by text front rest is = ap (λ t. begins_with t front) is ∙ begins_append front rest

-- a front is not above the text
pub front_upto : (front rest : List ℕ) → is_before (front ++ rest) front ≡ false
front_upto [] [] = refl
front_upto [] (x ∷ rest) = refl
front_upto (x ∷ front) rest = ap (λ o. is_lt (ordering_then o (name_cmp (front ++ rest) front))) (tied_itself nat_cmp_total x) ∙ front_upto front rest

pub begun_upto : (text front : List ℕ) → begins_with text front ≡ true → is_before text front ≡ false
begun_upto text front begins =
    ap (λ t. is_before t front) (rest_behind text front begins) ∙ front_upto front (drop (length front) text)

heads : (a b : ℕ) (o p : Ordering) → is_lt (ordering_then (nat_cmp b a) o) ≡ false → is_lt (ordering_then (nat_cmp a b) p) ≡ false → (a ≡ b) × (is_lt o ≡ false) × (is_lt p ≡ false)
heads a b o p one other =
    elim (cases_order a b) [
      | inl same ↦
          let here : nat_cmp b a ≡ Equal = subst (λ n. nat_cmp n a ≡ Equal) same (tied_itself nat_cmp_total a) in
          let back : nat_cmp a b ≡ Equal = subst (λ n. nat_cmp a n ≡ Equal) same (tied_itself nat_cmp_total a) in
          (same, sym (ap (λ q. is_lt (ordering_then q o)) here) ∙ one, sym (ap (λ q. is_lt (ordering_then q p)) back) ∙ other)
      | inr (inl low) ↦ let is : nat_cmp a b ≡ Less = grind (arith, nat_tests, low) in absurd (both_ways _ other (ap (λ q. is_lt (ordering_then q p)) is))
      | inr (inr high) ↦ let is : nat_cmp b a ≡ Less = grind (arith, nat_tests, high) in absurd (both_ways _ one (ap (λ q. is_lt (ordering_then q o)) is))
    ]

-- what stands between a text and one that begins with it begins with it too
between_front : (front rest text : List ℕ) → is_before text front ≡ false → is_before (front ++ rest) text ≡ false → begins_with text front ≡ true
between_front [] rest text low high = refl
between_front (a ∷ front) rest [] low high = cc
between_front (a ∷ front) rest (b ∷ text) low high =
    let h = heads a b (name_cmp text front) (name_cmp (front ++ rest) text) low high in
    and_from _ _ (subst (λ n. (a == n) ≡ true) h.0 (number_itself a)) (between_front front rest text h.1 h.2)

pub begins_between : (front long text : List ℕ) → begins_with long front ≡ true → is_before text front ≡ false → is_before long text ≡ false → begins_with text front ≡ true
begins_between front long text begins low high =
    between_front front (drop (length front) long) text low (sym (ap (λ t. is_before t text) (rest_behind long front begins)) ∙ high)

-- whether a text begins with another is seen in its front of that length
pub begins_short : (text one other front : List ℕ) → length front ≤ length text → begins_with (text ++ one) front ≡ begins_with (text ++ other) front
begins_short text one other front short =
    ap (λ t. pointwise nat_eq front t) (take-append-le (length front) text one short ∙ sym (take-append-le (length front) text other short))
