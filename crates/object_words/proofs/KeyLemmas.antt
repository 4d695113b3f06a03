-- Keys that compare as equal are the same, and functions that have another value at one key.
use Rattle.std.proofs.Common.{◌≡◌, ℕ, ◌==◌, true, false, cond, List, refl, sym, ◌∙◌, ap, ap₂, arith, eq-eqb}
use Rattle.std.specs.declared.cmp.Ordering.{Ordering}
use Rattle.std.specs.declared.cmp.Ordering.TheVariants.{Less, Equal, Greater}
use Rattle.std.specs.Ordering.{is_eq, nat_cmp, ordering_then}
use Rattle.std.specs.Cmp.{Equal-is, nat_cmp_total, tied_itself}
use Rattle.std.specs.Cmp.Lexicographic.{slice_cmp, nat_list_cmp_total}
use Rattle.std.proofs.lemmas.Bool.Decides.{nat_tests}
use Rattle.std.proofs.lemmas.Map.Lookups.{exact_unsigned}
use Rattle.std.proofs.lemmas.Map.Text.{is_eq-slice_cmp}
use Rattle.std.proofs.lemmas.Slice.Eq.{bytes_eq-Decides}
use Rattle.rgw_types.specs.declared.pool_key.Key.{Key}
use Rattle.rgw_types.specs.declared.pool_key.Key.TheVariants.{Root, Shard, Head, Tail, Queue, Changes, Sync}
use Rattle.object_words.specs.Keys.{is_key, put, put_key}

both_equal : (a b : Ordering) → is_eq (ordering_then a b) ≡ true → (is_eq a ≡ true) × (is_eq b ≡ true)
both_equal Less b here = cc
both_equal Equal b here = (refl, here)
both_equal Greater b here = cc

pub same_number : (a b : ℕ) → is_eq (nat_cmp a b) ≡ true → a ≡ b
same_number a b here = exact_unsigned a b ((Equal-is (nat_cmp a b)).0 here)

pub same_text : (a b : List ℕ) → is_eq (slice_cmp nat_cmp a b) ≡ true → a ≡ b
same_text a b here = (bytes_eq-Decides a b).0 (sym (is_eq-slice_cmp a b) ∙ here)

pub same_key : (k q : Key) → is_key k q ≡ true → k ≡ q
same_key Root Root here = refl
same_key (Shard c i s) (Shard c' i' s') here =
    let both = both_equal (nat_cmp c c') (ordering_then (nat_cmp i i') (nat_cmp s s')) here in
    let rest = both_equal (nat_cmp i i') (nat_cmp s s') both.1 in
    λ j. Shard (same_number c c' both.0 j) (same_number i i' rest.0 j) (same_number s s' rest.1 j)
same_key (Head c t) (Head c' t') here =
    let both = both_equal (nat_cmp c c') (slice_cmp nat_cmp t t') here in
    ap₂ (λ x y. Head x y) (same_number c c' both.0) (same_text t t' both.1)
same_key (Tail w p) (Tail w' p') here =
    let both = both_equal (nat_cmp w w') (nat_cmp p p') here in
    ap₂ (λ x y. Tail x y) (same_number w w' both.0) (same_number p p' both.1)
same_key Queue Queue here = refl
same_key Changes Changes here = refl
same_key (Sync p) (Sync p') here = ap (λ x. Sync x) (same_number p p' here)
same_key k q here = cc

pub key_itself : (k : Key) → is_key k k ≡ true
key_itself Root = refl
key_itself (Shard c i s) =
    λ j. is_eq (ordering_then (tied_itself nat_cmp_total c j) (ordering_then (tied_itself nat_cmp_total i j) (tied_itself nat_cmp_total s j)))
key_itself (Head c t) = λ j. is_eq (ordering_then (tied_itself nat_cmp_total c j) (tied_itself nat_list_cmp_total t j))
key_itself (Tail w p) = λ j. is_eq (ordering_then (tied_itself nat_cmp_total w j) (tied_itself nat_cmp_total p j))
key_itself Queue = refl
key_itself Changes = refl
key_itself (Sync p) = λ j. is_eq (tied_itself nat_cmp_total p j)

pub number_itself : (n : ℕ) → (n == n) ≡ true
number_itself n = eq-eqb n n refl

-- the value that was there is no other value
pub put_same : {A : Type 0} (f : ℕ → A) (n : ℕ) → put f n (f n) ≡ f
put_same f n = λ i q. at q i where
  at : (q : ℕ) → put f n (f n) q ≡ f q
  at q = elim (n == q) as (λ b. (n == q) ≡ b → cond b (f n) (f q) ≡ f q) [
    | true ↦ λ e. ap f (grind (arith, nat_tests))
    | false ↦ λ e. refl
  ] refl

pub put_key_same : {A : Type 0} (f : Key → A) (k : Key) → put_key f k (f k) ≡ f
put_key_same f k = λ i q. at q i where
  at : (q : Key) → put_key f k (f k) q ≡ f q
  at q = elim (is_key k q) as (λ b. is_key k q ≡ b → cond b (f k) (f q) ≡ f q) [
    | true ↦ λ e. ap f (same_key k q e)
    | false ↦ λ e. refl
  ] refl
