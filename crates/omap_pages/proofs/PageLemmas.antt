-- The first so many of the rows after a key.
use Rattle.std.proofs.Common.{◌≡◌, ℕ, zero, suc, true, ◌&&◌, List, [], ◌∷◌, length, take, drop, refl, sym, ap, ◌∙◌}
use Rattle.std.specs.Ordering.{is_lt}
use Rattle.std.specs.declared.cmp.Ordering.{Ordering}
use Rattle.std.specs.FinMap.Entries.{where_key, below_all, is_sorted}
use Rattle.std.proofs.lemmas.Bool.{and_parts}
use Rattle.std.proofs.lemmas.List.{length-map}
use Rattle.omap_pages.specs.Cells.{Cell, Cells, values_of, contents_of}
use Rattle.omap_pages.specs.Contents.{Contents}
use Rattle.omap_pages.specs.Places.{IsPartedAt}
use Rattle.omap_pages.specs.Rows.{IsInOrder, key_cmp, rows_after}
use Rattle.omap_pages.proofs.CellLemmas.{where_seen, order_seen, sorted_where}
use Rattle.omap_pages.proofs.FilterLemmas.{filter_from}

module _ {K X : Type 0} (R : K → K → Ordering) where
  below_all-take : (x : K) (n : ℕ) (es : List (K × X)) → below_all R x es ≡ true → below_all R x (take n es) ≡ true
  below_all-take x zero es h = refl
  below_all-take x (suc n) [] h = refl
  below_all-take x (suc n) (e ∷ es) h = let parts = and_parts (is_lt (R x e.0)) (below_all R x es) h in λ i. parts.0 i && below_all-take x n es parts.1 i

  is_sorted-take : (n : ℕ) (es : List (K × X)) → is_sorted R es ≡ true → is_sorted R (take n es) ≡ true
  is_sorted-take zero es h = refl
  is_sorted-take (suc n) [] h = refl
  is_sorted-take (suc n) (e ∷ es) h = let parts = and_parts (below_all R e.0 es) (is_sorted R es) h in λ i. below_all-take e.0 n es parts.0 i && is_sorted-take n es parts.1 i

-- what is seen of the cells from place `start` on, behind the key
module _ (cells : Cells) (spare : ℕ) (old : Contents) (view : contents_of cells spare ≡ old) (key : List ℕ) (start : ℕ) (parted : IsPartedAt (λ k. is_lt (key_cmp key k)) cells start) where
  tail : drop start cells ≡ where_key key_cmp (λ k. is_lt (key_cmp key k)) cells
  tail = filter_from (λ e. is_lt (key_cmp key e.0)) cells start parted.in_range parted.before parted.after

  pub values_after : values_of (drop start cells) ≡ rows_after old.rows key
  values_after = ap values_of tail ∙ where_seen cells spare old view (λ k. is_lt (key_cmp key k))

  pub length-after : length (rows_after old.rows key) ≡ length (drop start cells)
  length-after = ap length (sym values_after) ∙ length-map (drop start cells) (λ (e : List ℕ × Cell). (e.0, e.1.value))

  pub page_order : is_sorted key_cmp cells ≡ true → (limit : ℕ) → IsInOrder (take limit (rows_after old.rows key))
  page_order sorted limit = is_sorted-take key_cmp limit _ (sorted_where old.rows _ (order_seen cells spare old view sorted) (λ k. is_lt (key_cmp key k)) refl)
