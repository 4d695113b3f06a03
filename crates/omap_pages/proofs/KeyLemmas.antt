-- What the place of a key among leaves says of all rows, and of an edit there. The leaves were lent as `seen`.
use Rattle.std.proofs.Common.{◌≡◌, ℕ, true, not, List, get_or, Some, None, is_some, refl, subst, ap, ◌∙◌}
use Rattle.std.specs.List.{insert, remove}
use Rattle.std.specs.Ordering.{eq_by_cmp}
use Rattle.std.specs.FinMap.Entries.{find, put, where_key}
use Rattle.omap_pages.specs.Leaves.{flat, position, with_row_at, IsRow}
use Rattle.omap_pages.specs.Places.{IsAt, IsGapFor}
use Rattle.omap_pages.specs.Rows.{key_cmp}
use Rattle.omap_pages.specs.declared.place.Place.{Place}
use Rattle.omap_pages.proofs.LeavesLemmas.{flat-set}
use Rattle.omap_pages.proofs.PlaceLemmas.{set_at_place, insert_in_gap, find_here, there_here, find_none as none_here, remove_here, kept_none}

module _ {X : Type 0} (seen ls : List (List (List ℕ × X))) (same : seen ≡ ls) (k key : List ℕ) (same_key : k ≡ key) (place : Place) where
  module _ (at : IsAt (flat seen) k (position seen place)) where
    here : IsAt (flat seen) key (position ls place)
    here = subst (λ q. IsAt (flat seen) q (position ls place)) same_key (subst (λ z. IsAt (flat seen) k (position z place)) same at)

    pub found : (e : List ℕ × X) → e ≡ get_or (flat ls) (position ls place) e → find key_cmp key (flat ls) ≡ Some e.1
    found e read = find_here (flat ls) (flat seen) key (position ls place) (ap flat same) e here read

    pub found_some : is_some (find key_cmp key (flat ls)) ≡ true
    found_some = there_here (flat ls) (flat seen) key (position ls place) (ap flat same) here

    -- the row at the key is written over
    pub written : IsRow seen place → (e row : List ℕ × X) → e ≡ get_or (flat ls) (position ls place) e → row.0 ≡ e.0 → flat (with_row_at ls place row) ≡ put key_cmp key row.1 (flat ls)
    written is_row e row read kept =
        let in_leaf = subst (λ z. IsRow z place) same is_row in
        flat-set ls place in_leaf.leaf row in_leaf.row ∙ set_at_place (flat ls) (flat seen) key key (position ls place) e row (ap flat same) refl here read kept

    pub removed : (new : List (List (List ℕ × X))) → flat new ≡ remove (flat ls) (position ls place) → flat new ≡ where_key key_cmp (λ q. not (eq_by_cmp key_cmp key q)) (flat ls)
    removed new is = is ∙ remove_here (flat ls) (flat seen) key (position ls place) (ap flat same) here

  module _ (gap : IsGapFor (flat seen) k (position seen place)) where
    gap_here : IsGapFor (flat seen) key (position ls place)
    gap_here = subst (λ q. IsGapFor (flat seen) q (position ls place)) same_key (subst (λ z. IsGapFor (flat seen) k (position z place)) same gap)

    pub found_none : find key_cmp key (flat ls) ≡ None
    found_none = none_here (flat ls) (flat seen) key (position ls place) (ap flat same) gap_here

    -- a row is put into the gap
    pub put_in : (new : List (List (List ℕ × X))) (row : List ℕ × X) → flat new ≡ insert (flat ls) (position ls place) row → row.0 ≡ key → flat new ≡ put key_cmp key row.1 (flat ls)
    put_in new row is of_key = is ∙ insert_in_gap (flat ls) (flat seen) key key (position ls place) row (ap flat same) refl gap_here of_key

    pub kept_all : flat ls ≡ where_key key_cmp (λ q. not (eq_by_cmp key_cmp key q)) (flat ls)
    kept_all = kept_none (flat ls) (flat seen) key (position ls place) (ap flat same) gap_here
