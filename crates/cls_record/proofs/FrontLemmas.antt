-- Keys that begin with a front.
use Rattle.std.proofs.Common.{◌≡◌, ◌≢◌, ℕ, ◌<◌, ◌==◌, nat_lt, true, false, true≢false, cond, if◌then◌else◌, List, [], ◌∷◌, ◌++◌, Option, Some, None, ◌⊎◌, inl, inr, refl, sym, ap, ◌∙◌, arith, ltb-true}
use Rattle.std.specs.declared.cmp.Ordering.{Ordering}
use Rattle.std.specs.declared.cmp.Ordering.TheVariants.{Less, Equal, Greater}
use Rattle.std.specs.Ordering.{is_lt, nat_cmp, ordering_then}
use Rattle.std.specs.Cmp.{nat_cmp_total, tied_itself}
use Rattle.std.proofs.lemmas.Bool.Decides.{nat_tests}
use Rattle.omap_pages.specs.Rows.{key_cmp}
use Rattle.object_words.proofs.KeyLemmas.{number_itself}
use Rattle.index_entry.proofs.EntryLemmas.{none_some}
use Rattle.cls_record.proofs.PieceLemmas.{same_in_some}

-- a front that both have says nothing of their order
pub front_cmp : (p a b : List ℕ) → key_cmp (p ++ a) (p ++ b) ≡ key_cmp a b
front_cmp [] a b = refl
front_cmp (x ∷ p) a b = ap (λ o. ordering_then o (key_cmp (p ++ a) (p ++ b))) (tied_itself nat_cmp_total x) ∙ front_cmp p a b

-- what is behind a front, where the key begins so
abbrev pub behind_front : List ℕ → List ℕ → Option (List ℕ)
behind_front [] q = Some q
behind_front (x ∷ p) [] = None
behind_front (x ∷ p) (y ∷ q) = if x == y then behind_front p q else None

same_number : (x y : ℕ) → (x == y) ≡ true → x ≡ y
same_number x y e = grind (arith, nat_tests)

pub is_behind : (p q n : List ℕ) → behind_front p q ≡ Some n → q ≡ p ++ n
is_behind [] q n e = same_in_some q n e
is_behind (x ∷ p) [] n e = absurd (none_some n e)
is_behind (x ∷ p) (y ∷ q) n e =
    elim (x == y) as (λ b. (x == y) ≡ b → (if b then behind_front p q else None) ≡ Some n → y ∷ q ≡ x ∷ (p ++ n)) [
      | true ↦ λ t h i. sym (same_number x y t) i ∷ is_behind p q n h i
      | false ↦ λ t h. absurd (none_some n h)
    ] refl e

behind_itself : (p n : List ℕ) → behind_front p (p ++ n) ≡ Some n
behind_itself [] n = refl
behind_itself (x ∷ p) n = ap (λ b. if b then behind_front p (p ++ n) else None) (number_itself x) ∙ behind_itself p n

pub not_behind : (p q n : List ℕ) → behind_front p q ≡ None → q ≢ p ++ n
not_behind p q n none same = none_some n (sym none ∙ ap (behind_front p) same ∙ behind_itself p n)

lead : (a b : ℕ) (o : Ordering) → is_lt (ordering_then (nat_cmp a b) o) ≡ true → (a < b) ⊎ ((a ≡ b) × (is_lt o ≡ true))
lead a b o =
    elim (nat_lt a b) as (λ t. nat_lt a b ≡ t → is_lt (ordering_then (cond t Less (cond (a == b) Equal Greater)) o) ≡ true → (a < b) ⊎ ((a ≡ b) × (is_lt o ≡ true))) [
      | true ↦ λ e h. inl (ltb-true _ _ e)
      | false ↦ λ _. elim (a == b) as (λ t. (a == b) ≡ t → is_lt (ordering_then (cond t Equal Greater) o) ≡ true → (a < b) ⊎ ((a ≡ b) × (is_lt o ≡ true))) [
        | true ↦ λ e h. inr (same_number a b e, h)
        | false ↦ λ e h. absurd (true≢false (sym h))
      ] refl
    ] refl

-- a key between two that begin with the front begins so too
pub between : (p x y q : List ℕ) → is_lt (key_cmp (p ++ x) q) ≡ true → is_lt (key_cmp q (p ++ y)) ≡ true → (n : List ℕ) × (q ≡ p ++ n)
between [] x y q low high = (q, refl)
between (a ∷ p) x y [] low high = absurd (true≢false (sym low))
between (a ∷ p) x y (b ∷ q) low high =
    let first = lead a b (key_cmp (p ++ x) q) low in
    let second = lead b a (key_cmp q (p ++ y)) high in
    elim first [
      | inl less ↦ elim second [ inl more ↦ absurd (omega arith) | inr same ↦ absurd (omega (arith, same.0)) ]
      | inr same ↦ elim second [
        | inl more ↦ absurd (omega (arith, same.0))
        | inr too ↦ let rest = between p x y q same.1 too.1 in (rest.0, λ i. sym same.0 i ∷ rest.1 i)
      ]
    ]
