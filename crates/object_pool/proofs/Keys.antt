-- Keys that compare as equal are the same.
use Rattle.std.proofs.Common.{◌≡◌, ◌≢◌, ℕ, true, false, List, refl, sym, ◌∙◌, ap, ap₂, subst}
use Rattle.std.specs.declared.cmp.Ordering.{Ordering}
use Rattle.std.specs.declared.cmp.Ordering.TheVariants.{Less, Equal, Greater}
use Rattle.std.specs.Ordering.{is_eq, nat_cmp, ordering_then}
use Rattle.std.specs.Cmp.Lexicographic.{slice_cmp}
use Rattle.std.proofs.lemmas.Bool.{false_from_ne_true}
use Rattle.std.proofs.lemmas.Cmp.{tied_itself}
use Rattle.std.proofs.lemmas.Map.Lookups.{exact_unsigned}
use Rattle.std.proofs.lemmas.Map.Text.{is_eq-slice_cmp}
use Rattle.std.proofs.lemmas.Slice.Eq.{bytes_eq-Decides}
use Rattle.std.specs.Cmp.{Equal-is}
use Rattle.rgw_types.specs.declared.pool_key.Key.{Key}
use Rattle.rgw_types.specs.declared.pool_key.Key.TheVariants.{Root, Shard, Head, Tail, Queue, Changes, Sync}
use Rattle.rgw_types.specs.contracts.pool_key.KeyOrd.TheImpl.Laws.{total-law}
use Rattle.object_pool.specs.Objects.{is_key}

both_equal : (a b : Ordering) → is_eq (ordering_then a b) ≡ true → (is_eq a ≡ true) × (is_eq b ≡ true)
both_equal Less b here = absurd (let bad : false ≡ true = here in cc)
both_equal Equal b here = (refl, here)
both_equal Greater b here = absurd (let bad : false ≡ true = here in cc)

same_number : (a b : ℕ) → is_eq (nat_cmp a b) ≡ true → a ≡ b
same_number a b here = exact_unsigned a b ((Equal-is (nat_cmp a b)).0 here)

same_text : (a b : List ℕ) → is_eq (slice_cmp nat_cmp a b) ≡ true → a ≡ b
same_text a b here = (bytes_eq-Decides a b).0 (sym (is_eq-slice_cmp a b) ∙ here)

pub same_key : (k q : Key) → is_key k q ≡ true → k ≡ q
same_key Root Root here = refl
same_key Root (Shard c' i' s') here = absurd (let bad : false ≡ true = here in cc)
same_key Root (Head c' t') here = absurd (let bad : false ≡ true = here in cc)
same_key Root (Tail w' p') here = absurd (let bad : false ≡ true = here in cc)
same_key Root Queue here = absurd (let bad : false ≡ true = here in cc)
same_key Root Changes here = absurd (let bad : false ≡ true = here in cc)
same_key Root (Sync p') here = absurd (let bad : false ≡ true = here in cc)
same_key (Shard c i s) Root here = absurd (let bad : false ≡ true = here in cc)
same_key (Shard c i s) (Shard c' i' s') here =
    let both = both_equal (nat_cmp c c') (ordering_then (nat_cmp i i') (nat_cmp s s')) here in
    let rest = both_equal (nat_cmp i i') (nat_cmp s s') both.1 in
    λ j. Shard (same_number c c' both.0 j) (same_number i i' rest.0 j) (same_number s s' rest.1 j)
same_key (Shard c i s) (Head c' t') here = absurd (let bad : false ≡ true = here in cc)
same_key (Shard c i s) (Tail w' p') here = absurd (let bad : false ≡ true = here in cc)
same_key (Shard c i s) Queue here = absurd (let bad : false ≡ true = here in cc)
same_key (Shard c i s) Changes here = absurd (let bad : false ≡ true = here in cc)
same_key (Shard c i s) (Sync p') here = absurd (let bad : false ≡ true = here in cc)
same_key (Head c t) Root here = absurd (let bad : false ≡ true = here in cc)
same_key (Head c t) (Shard c' i' s') here = absurd (let bad : false ≡ true = here in cc)
same_key (Head c t) (Head c' t') here =
    let both = both_equal (nat_cmp c c') (slice_cmp nat_cmp t t') here in
    ap₂ (λ x y. Head x y) (same_number c c' both.0) (same_text t t' both.1)
same_key (Head c t) (Tail w' p') here = absurd (let bad : false ≡ true = here in cc)
same_key (Head c t) Queue here = absurd (let bad : false ≡ true = here in cc)
same_key (Head c t) Changes here = absurd (let bad : false ≡ true = here in cc)
same_key (Head c t) (Sync p') here = absurd (let bad : false ≡ true = here in cc)
same_key (Tail w p) Root here = absurd (let bad : false ≡ true = here in cc)
same_key (Tail w p) (Shard c' i' s') here = absurd (let bad : false ≡ true = here in cc)
same_key (Tail w p) (Head c' t') here = absurd (let bad : false ≡ true = here in cc)
same_key (Tail w p) (Tail w' p') here =
    let both = both_equal (nat_cmp w w') (nat_cmp p p') here in
    ap₂ (λ x y. Tail x y) (same_number w w' both.0) (same_number p p' both.1)
same_key (Tail w p) Queue here = absurd (let bad : false ≡ true = here in cc)
same_key (Tail w p) Changes here = absurd (let bad : false ≡ true = here in cc)
same_key (Tail w p) (Sync p') here = absurd (let bad : false ≡ true = here in cc)
same_key Queue Root here = absurd (let bad : false ≡ true = here in cc)
same_key Queue (Shard c' i' s') here = absurd (let bad : false ≡ true = here in cc)
same_key Queue (Head c' t') here = absurd (let bad : false ≡ true = here in cc)
same_key Queue (Tail w' p') here = absurd (let bad : false ≡ true = here in cc)
same_key Queue Queue here = refl
same_key Queue Changes here = absurd (let bad : false ≡ true = here in cc)
same_key Queue (Sync p') here = absurd (let bad : false ≡ true = here in cc)
same_key Changes Root here = absurd (let bad : false ≡ true = here in cc)
same_key Changes (Shard c' i' s') here = absurd (let bad : false ≡ true = here in cc)
same_key Changes (Head c' t') here = absurd (let bad : false ≡ true = here in cc)
same_key Changes (Tail w' p') here = absurd (let bad : false ≡ true = here in cc)
same_key Changes Queue here = absurd (let bad : false ≡ true = here in cc)
same_key Changes Changes here = refl
same_key Changes (Sync p') here = absurd (let bad : false ≡ true = here in cc)
same_key (Sync p) Root here = absurd (let bad : false ≡ true = here in cc)
same_key (Sync p) (Shard c' i' s') here = absurd (let bad : false ≡ true = here in cc)
same_key (Sync p) (Head c' t') here = absurd (let bad : false ≡ true = here in cc)
same_key (Sync p) (Tail w' p') here = absurd (let bad : false ≡ true = here in cc)
same_key (Sync p) Queue here = absurd (let bad : false ≡ true = here in cc)
same_key (Sync p) Changes here = absurd (let bad : false ≡ true = here in cc)
same_key (Sync p) (Sync p') here =
    ap (λ x. Sync x) (same_number p p' here)

-- no key is both of two that differ
pub keys_apart : (k q : Key) → q ≢ k → (x : Key) → is_key k x ≡ true → is_key q x ≡ false
keys_apart k q differs x here = false_from_ne_true _ (λ there. differs (same_key q x there ∙ sym (same_key k x here)))

-- and none is both of two that compare as different
pub keys_apart_by : (k q : Key) → is_key k q ≡ false → (x : Key) → is_key k x ≡ true → is_key q x ≡ false
keys_apart_by k q other x here = false_from_ne_true _ (λ there.
    let both : is_key k q ≡ true = subst (λ z. is_key k z ≡ true) (sym (same_key q x there)) here in
    let no : false ≡ true = sym other ∙ both in
    absurd cc)

-- and a key compares as equal to itself
pub itself : (k : Key) → is_key k k ≡ true
itself k = ap is_eq (tied_itself total-law k)
