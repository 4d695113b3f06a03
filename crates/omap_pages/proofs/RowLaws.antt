-- Laws on values and rows that the users of a map share.
use Rattle.std.proofs.Common.{◌≡◌, ℕ, cond, not, List, [], ◌∷◌, ◌++◌, length, Some, None, refl, ap, ◌∙◌, arith}
use Rattle.std.specs.List.{splice}
use Rattle.std.specs.Ordering.{eq_by_cmp, is_eq}
use Rattle.std.specs.declared.cmp.Ordering.{Ordering}
use Rattle.std.specs.declared.cmp.Ordering.TheVariants.{Less, Equal, Greater}
use Rattle.std.specs.FinMap.Entries.{find, put, where_key, by_order}
use Rattle.std.proofs.lemmas.List.{take_all, drop_all, append-nil}
use Rattle.std.proofs.lemmas.Cmp.{nat_list_cmp_total, tied_itself}
use Rattle.omap_pages.specs.Rows.{Rows, key_cmp, value_at, with_row, without_row}

-- to splice at a value's end is to append
pub splice_at_end : {X : Type 0} (v t : List X) → splice v (length v) (length v) t ≡ v ++ t
splice_at_end v t = (λ i. take_all (length v) v (omega arith) i ++ (t ++ drop_all (length v) v (omega arith) i)) ∙ ap (λ s. v ++ s) (append-nil t)

-- to splice over a whole value is to replace it
pub splice_over_all : {X : Type 0} (v t : List X) → splice v 0 (length v) t ≡ t
splice_over_all v t = ap (λ s. t ++ s) (drop_all (length v) v (omega arith)) ∙ append-nil t

module _ {K X : Type 0} (R : K → K → Ordering) (k : K) (v : X) (tie : R k k ≡ Equal) where
  kept_where_absent : (es : List (K × X)) → find R k es ≡ None → where_key R (λ x. not (eq_by_cmp R k x)) es ≡ es
  kept_where_absent [] none = refl
  kept_where_absent (e ∷ es) none = elim (R k e.0) as (λ o. cond (is_eq o) (Some e.1) (find R k es) ≡ None → cond (not (is_eq o)) (e ∷ where_key R (λ x. not (eq_by_cmp R k x)) es) (where_key R (λ x. not (eq_by_cmp R k x)) es) ≡ e ∷ es) [
    | Less ↦ λ n. ap (λ z. e ∷ z) (kept_where_absent es n)
    | Equal ↦ λ n. absurd (cc n)
    | Greater ↦ λ n. ap (λ z. e ∷ z) (kept_where_absent es n)
  ] none

  dropped_again : (es : List (K × X)) → find R k es ≡ None → where_key R (λ x. not (eq_by_cmp R k x)) (put R k v es) ≡ es
  dropped_again [] none = rw tie refl
  dropped_again (e ∷ es) none = elim (R k e.0) as (λ o. R k e.0 ≡ o → cond (is_eq o) (Some e.1) (find R k es) ≡ None → where_key R (λ x. not (eq_by_cmp R k x)) (by_order o ((k, v) ∷ e ∷ es) ((e.0, v) ∷ es) (e ∷ put R k v es)) ≡ e ∷ es) [
    | Less ↦ λ is n. rw tie (kept_where_absent (e ∷ es) none)
    | Equal ↦ λ is n. absurd (cc n)
    | Greater ↦ λ is n. rw is (ap (λ z. e ∷ z) (dropped_again es n))
  ] refl none

-- a row that is put where none was, and then taken, leaves the rows as they were
pub without_row-with_row : (rows : Rows) (key value : List ℕ) → value_at rows key ≡ None → without_row (with_row rows key value) key ≡ rows
without_row-with_row rows key value none = dropped_again key_cmp key value (tied_itself nat_list_cmp_total key) rows none
