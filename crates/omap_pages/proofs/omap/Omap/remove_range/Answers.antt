use Rattle.std.proofs.Common.{◌≡◌, not, max, inl, inr, refl, subst, ap, ◌∙◌, arith}
use Rattle.std.specs.List.{remove_range}
use Rattle.std.specs.Ordering.{is_le}
use Rattle.std.specs.FinMap.Entries.{where_key}
use Rattle.std.proofs.lemmas.List.{take-append-drop}
use Rattle.omap_pages.specs.Cells.{contents_of}
use Rattle.omap_pages.specs.Leaves.{flat, position, IsNotAfter, IsPlace}
use Rattle.omap_pages.specs.Places.{IsPartedAt}
use Rattle.omap_pages.specs.Rows.{key_cmp, is_within}
use Rattle.omap_pages.proofs.CellLemmas.{order_seen, is_kept, sorted_where, length-where_seen}
use Rattle.omap_pages.proofs.LeavesLemmas.{position_rises}
use Rattle.omap_pages.proofs.RangeLemmas.{outside_range, length-within_range}
use Rattle.omap_pages.proofs.omap.Omap.remove_range.Goals as goal

-- the first of the rows that go, and the first after them
first : (c : goal.After-remove_range) → IsPartedAt (λ k. is_le (key_cmp c.args.from.now k)) (flat c.self.inside.leaves.leaves) (position c.self.inside.leaves.leaves c.start_from-start.result)
first c = subst (λ z. IsPartedAt (λ k. is_le (key_cmp c.args.from.now k)) (flat z) (position z c.start_from-start.result)) c.as_slice.ensures.leaves c.start_from-start.ensures.parted

last : (c : goal.After-remove_range) → IsPartedAt (λ k. is_le (key_cmp c.args.to.now k)) (flat c.self.inside.leaves.leaves) (position c.self.inside.leaves.leaves c.start_from.result)
last c = subst (λ z. IsPartedAt (λ k. is_le (key_cmp c.args.to.now k)) (flat z) (position z c.start_from.result)) c.as_slice-2.ensures.leaves c.start_from.ensures.parted

later : (c : goal.After-remove_range) → position c.self.inside.leaves.leaves c.later-end.result ≡ max (position c.self.inside.leaves.leaves c.start_from.result) (position c.self.inside.leaves.leaves c.start_from-start.result)
later c =
    let ls = c.self.inside.leaves.leaves in
    let start = subst (λ z. IsPlace z c.start_from-start.result) c.as_slice.ensures.leaves c.start_from-start.ensures.place in
    let stop = subst (λ z. IsPlace z c.start_from.result) c.as_slice-2.ensures.leaves c.start_from.ensures.place in
    elim c.later-end.ensures.either [
      | inl stops ↦
          let order = subst (λ p. IsNotAfter c.start_from-start.result p) stops c.later-end.ensures.other in
          omega (arith, ap (position ls) stops, position_rises ls c.start_from-start.result c.start_from.result start stop order)
      | inr starts ↦
          let order = subst (λ p. IsNotAfter c.start_from.result p) starts c.later-end.ensures.this in
          omega (arith, ap (position ls) starts, position_rises ls c.start_from.result c.start_from-start.result stop start order)
    ]

removed : (c : goal.After-remove_range) → flat c.remove_range.new.self.leaves ≡ remove_range (flat c.self.inside.leaves.leaves) (position c.self.inside.leaves.leaves c.start_from-start.result) (position c.self.inside.leaves.leaves c.later-end.result)
removed c = c.remove_range.ensures.leaves

kept : (c : goal.After-remove_range) → flat c.remove_range.new.self.leaves ≡ where_key key_cmp (λ k. not (is_within c.args.from.now c.args.to.now k)) (flat c.self.inside.leaves.leaves)
kept c = removed c ∙ outside_range (flat c.self.inside.leaves.leaves) c.args.from.now c.args.to.now _ _ _ (first c) (last c) (later c)

pub invariant_of-self : goal.invariant_of-self
invariant_of-self c = (sorted_where (flat c.self.inside.leaves.leaves) _ c.self.invariant.0 _ (kept c), omega (arith, c.remove_range.ensures.free, c.self.invariant.1))

pub returns : goal.returns
returns c =
    let ls = c.self.inside.leaves.leaves in
    let cells = flat ls in
    let spare = c.self.inside.spares in
    let seen = is_kept cells spare c.args.self.now c.self.view_is (flat c.remove_range.new.self.leaves) _ (kept c) in
    let count = length-within_range cells c.args.from.now c.args.to.now _ _ _ (first c) (last c) (later c) in
    record {
      count = omega (arith, count, c.remove_range.ensures.count, length-where_seen cells spare c.args.self.now c.self.view_is (is_within c.args.from.now c.args.to.now));
      rows = seen.rows;
      within = λ q is. seen.failing q (ap not is);
      outside = λ q not_in. seen.passing q (ap not not_in);
      rooms_outside = λ q not_in. seen.rooms q (ap not not_in);
      spare = ap (λ o. o.spare) c.self.view_is;
      none = λ zero.
          let same : position ls c.later-end.result ≡ position ls c.start_from-start.result = omega (arith, c.remove_range.ensures.count) in
          let unchanged = removed c ∙ ap (λ end. remove_range cells (position ls c.start_from-start.result) end) same ∙ take-append-drop (position ls c.start_from-start.result) cells in
          ap (λ es. contents_of es spare) unchanged ∙ c.self.view_is;
      in_order = order_seen (flat c.remove_range.new.self.leaves) c.self.inside.spares (contents_of (flat c.remove_range.new.self.leaves) c.self.inside.spares) refl (sorted_where (flat c.self.inside.leaves.leaves) _ c.self.invariant.0 _ (kept c));
    }
