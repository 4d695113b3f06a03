-- A sum over a finite map by name, at one change.
use Rattle.std.proofs.Common.{◌≡◌, ℕ, ◌+◌, ◌&&◌, T, Bool, true, false, cond, not, List, [], ◌∷◌, Option, Some, None, refl, sym, ap, ◌∙◌, subst, arith}
use Rattle.std.specs.declared.cmp.Ordering.{Ordering}
use Rattle.std.specs.declared.cmp.Ordering.TheVariants.{Less, Equal, Greater}
use Rattle.std.specs.Ordering.{eq_by_cmp, is_eq, is_lt}
use Rattle.std.specs.Cmp.{IsTotalOrder}
use Rattle.std.specs.Cmp.Lexicographic.{nat_list_cmp_total}
use Rattle.std.specs.FinMap.Entries.{below_all, by_order, find, put, where_key, is_sorted}
use Rattle.object_words.specs.Names.{name_cmp, Named, at, with_name, without_name, entries}
use Rattle.object_words.specs.Entries.{EntryView, no_entry, entry_of, is_kept}
use Rattle.object_words.specs.Shards.{Shard, total, entry_at, with_entry, sum_over}

-- what is there counts; nothing counts 0
abbrev pub count_of : {X : Type 0} → (X → ℕ) → Option X → ℕ
count_of f None = 0
count_of f (Some x) = f x

left_of : (a b : Bool) → T (a && b) → T a
left_of true b p = tt
left_of false b p = p

right_of : (a b : Bool) → T (a && b) → T b
right_of true b p = p
right_of false b p = absurd p

both_of : (a b : Bool) → T a → T b → T (a && b)
both_of true b p q = q
both_of false b p q = p

is_less : (o : Ordering) → T (is_lt o) → o ≡ Less
is_less Less p = refl
is_less Equal p = absurd p
is_less Greater p = absurd p

is_equal : (o : Ordering) → T (is_eq o) → o ≡ Equal
is_equal Less p = absurd p
is_equal Equal p = refl
is_equal Greater p = absurd p

module _ {K X : Type 0} (R : K → K → Ordering) (order : IsTotalOrder R) where
  -- what is below a key that is below all these is below all these
  below : (x y : K) (es : List (K × X)) → R x y ≡ Less → T (below_all R y es) → T (below_all R x es)
  below x y [] p h = tt
  below x y (e ∷ es) p h =
      let here = order.trans x y e.0 p (is_less _ (left_of _ _ h)) in
      both_of _ _ (subst (λ o. T (is_lt o)) (sym here) tt) (below x y es p (right_of _ _ h))

  tied : (x y : K) (es : List (K × X)) → R x y ≡ Equal → T (below_all R y es) → T (below_all R x es)
  tied x y [] p h = tt
  tied x y (e ∷ es) p h =
      both_of _ _ (subst (λ o. T (is_lt o)) (sym (order.congr x y e.0 p)) (left_of _ _ h)) (tied x y es p (right_of _ _ h))

  missing : (q : K) (es : List (K × X)) → T (below_all R q es) → find R q es ≡ None
  missing q [] h = refl
  missing q (e ∷ es) h =
      ap (λ o. cond (is_eq o) (Some e.1) (find R q es)) (is_less _ (left_of _ _ h)) ∙ missing q es (right_of _ _ h)

  module _ (f : X → ℕ) where
    sum_put : (k : K) (v : X) (es : List (K × X)) → T (is_sorted R es) → total f (put R k v es) + count_of f (find R k es) ≡ total f es + f v
    sum_put k v [] h = omega arith
    sum_put k v (e ∷ es) h =
        elim (R k e.0) as (λ o. R k e.0 ≡ o → total f (by_order o ((k, v) ∷ e ∷ es) ((e.0, v) ∷ es) (e ∷ put R k v es)) + count_of f (cond (is_eq o) (Some e.1) (find R k es)) ≡ (f e.1 + total f es) + f v) [
          | Less ↦ λ p. let absent = ap (count_of f) (missing k es (below k e.0 es p (left_of _ _ h))) in omega (arith, absent)
          | Equal ↦ λ p. omega arith
          | Greater ↦ λ p. let rest = sum_put k v es (right_of _ _ h) in omega (arith, rest)
        ] refl

    sum_without : (k : K) (es : List (K × X)) → T (is_sorted R es) → total f (where_key R (λ x. not (eq_by_cmp R k x)) es) + count_of f (find R k es) ≡ total f es
    sum_without k [] h = refl
    sum_without k (e ∷ es) h =
        let kept = where_key R (λ x. not (eq_by_cmp R k x)) es in
        let rest = sum_without k es (right_of _ _ h) in
        elim (eq_by_cmp R k e.0) as (λ t. eq_by_cmp R k e.0 ≡ t → total f (cond (not t) (e ∷ kept) kept) + count_of f (cond t (Some e.1) (find R k es)) ≡ f e.1 + total f es) [
          | true ↦ λ t. let absent = ap (count_of f) (missing k es (tied k e.0 es (is_equal _ (subst T (sym t) tt)) (left_of _ _ h))) in omega (arith, absent, rest)
          | false ↦ λ t. omega (arith, rest)
        ] refl

module _ {X : Type 0} (f : X → ℕ) where
  pub total-with_name : (m : Named X) (name : List ℕ) (x : X) → total f (entries (with_name m name x)) + count_of f (at m name) ≡ total f (entries m) + f x
  unfolding at with_name entries
  total-with_name m name x = sum_put name_cmp nat_list_cmp_total f name x m.list m.sorted

  pub total-without_name : (m : Named X) (name : List ℕ) → total f (entries (without_name m name)) + count_of f (at m name) ≡ total f (entries m)
  unfolding at without_name entries
  total-without_name m name = sum_without name_cmp nat_list_cmp_total f name m.list m.sorted

-- an absent entry counts as the empty one
counted : (f : EntryView → ℕ) → f no_entry ≡ 0 → (found : Option EntryView) → count_of f found ≡ f (entry_of found)
counted f empty None = sym empty
counted f empty (Some e) = refl

-- a shard's sum moves by its one entry
pub sum-with_entry : (f : EntryView → ℕ) → f no_entry ≡ 0 → (s : Shard) (name : List ℕ) (e : EntryView) → (is_kept e ≡ false → f e ≡ 0) → sum_over f (with_entry s name e) + f (entry_at s name) ≡ sum_over f s + f e
sum-with_entry f empty s name e gone =
    let old = counted f empty (at s.entries name) in
    elim (is_kept e) as (λ b. is_kept e ≡ b → total f (entries (cond b (with_name s.entries name e) (without_name s.entries name))) + f (entry_at s name) ≡ sum_over f s + f e) [
      | true ↦ λ kept. let sum = total-with_name f s.entries name e in omega (arith, sum, old)
      | false ↦ λ kept. let sum = total-without_name f s.entries name in let none = gone kept in omega (arith, sum, old, none)
    ] refl
