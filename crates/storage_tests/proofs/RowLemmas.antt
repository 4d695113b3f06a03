-- For callers: a row that is put where none was, and then taken, leaves the rows as they were.
use Rattle.std.proofs.Common.{◌≡◌, ℕ, Bool, true, false, cond, not, List, Some, None, refl, sym, ap, ◌∙◌}
use Rattle.std.specs.Ordering.{is_eq, eq_by_cmp}
use Rattle.std.specs.declared.cmp.Ordering.TheVariants.{Less, Equal, Greater}
use Rattle.std.specs.FinMap.{nat_cmp-IsAntisymmetric, slice_cmp-IsAntisymmetric}
use Rattle.std.specs.FinMap.Entries.{find, put, find-put, is_sorted-put, is_sorted-where_key, find-where_key, same_entries}
use Rattle.std.proofs.lemmas.Float.{T_from_true}
use Rattle.std.proofs.lemmas.Cmp.{nat_list_cmp_total, tied_itself}
use Rattle.omap_pages.specs.Rows.{Rows, IsInOrder, key_cmp, value_at, with_row, without_row}

same_key : (q k : List ℕ) → key_cmp q k ≡ Equal → q ≡ k
same_key = slice_cmp-IsAntisymmetric nat_cmp-IsAntisymmetric

tied : (k : List ℕ) → eq_by_cmp key_cmp k k ≡ true
tied k = ap is_eq (tied_itself nat_list_cmp_total k)

is_same : (q k : List ℕ) → eq_by_cmp key_cmp q k ≡ true → q ≡ k
is_same q k tie = elim (key_cmp q k) as (λ r. key_cmp q k ≡ r → is_eq r ≡ true → q ≡ k) [
  | Less ↦ λ _ bad. absurd (let no : false ≡ true = bad in cc)
  | Equal ↦ λ e _. same_key q k e
  | Greater ↦ λ _ bad. absurd (let no : false ≡ true = bad in cc)
] refl tie

pub put_then_taken : (rows : Rows) (key value : List ℕ) → IsInOrder rows → value_at rows key ≡ None → without_row (with_row rows key value) key ≡ rows
put_then_taken rows key value sorted none =
    let put_rows : Rows = put key_cmp key value rows in
    let other : List ℕ → Bool = λ k. not (eq_by_cmp key_cmp key k) in
    let in_order = T_from_true _ sorted in
    same_entries key_cmp nat_list_cmp_total same_key _ _ (is_sorted-where_key key_cmp other put_rows (is_sorted-put key_cmp nat_list_cmp_total key value rows in_order)) in_order
    (λ q. find-where_key key_cmp other q (λ x tie. ap other (sym (same_key q x tie))) put_rows
    ∙ elim (eq_by_cmp key_cmp key q) as (λ b. eq_by_cmp key_cmp key q ≡ b → cond (not b) (find key_cmp q put_rows) None ≡ find key_cmp q rows) [
      | true ↦ λ here. sym none ∙ ap (λ k. find key_cmp k rows) (is_same key q here)
      | false ↦ λ apart. find-put key_cmp nat_list_cmp_total q key value rows ∙ elim (eq_by_cmp key_cmp q key) as (λ b. eq_by_cmp key_cmp q key ≡ b → cond b (Some value) (find key_cmp q rows) ≡ find key_cmp q rows) [
        | true ↦ λ there.
            let both : true ≡ false = sym (tied q) ∙ ap (λ k. eq_by_cmp key_cmp k q) (is_same q key there) ∙ apart in absurd cc
        | false ↦ λ _. refl
      ] refl
    ] refl)
