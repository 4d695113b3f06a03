use Rattle.std.proofs.Common.{◌≡◌, refl, ap, ◌∙◌, arith}
use Rattle.std.specs.FinMap.Entries.{find, put, is_sorted}
use Rattle.omap_pages.specs.Cells.{contents_of}
use Rattle.omap_pages.specs.Leaves.{flat}
use Rattle.omap_pages.specs.Rows.{key_cmp}
use Rattle.omap_pages.proofs.CellLemmas.{order_seen, is_put, sorted_put, none_seen, room_seen}
use Rattle.omap_pages.proofs.KeyLemmas.{put_in}
use Rattle.omap_pages.proofs.omap.Omap.put_spare.Goals as goal

pub gap_for-place-requires : goal.gap_for-place-requires
gap_for-place-requires c = record {
  ordered = record {
    in_order = ap (λ z. is_sorted key_cmp (flat z)) c.as_slice.ensures.leaves ∙ c.self.invariant.0;
    leaves = c.as_slice.ensures.sizes;
  };
  absent = ap (λ z. find key_cmp c.args.key.now (flat z)) c.as_slice.ensures.leaves ∙ none_seen (flat c.self.inside.leaves.leaves) c.self.inside.spares c.args.self.now c.self.view_is c.args.key.now c.requires.absent;
}

-- the row goes into the gap for its key
into : (c : goal.After-insert) → flat c.insert.new.self.leaves ≡ put key_cmp c.args.key.now c.make_row-row.result.1 (flat c.self.inside.leaves.leaves)
into c = put_in c.as_slice.result.now c.self.inside.leaves.leaves c.as_slice.ensures.leaves c.args.key.now c.args.key.now refl c.gap_for-place.result c.gap_for-place.ensures.gap c.insert.new.self.leaves c.make_row-row.result c.insert.ensures.leaves c.make_row-row.ensures.made.key

pub invariant_of-self : goal.invariant_of-self
invariant_of-self c = (sorted_put (flat c.self.inside.leaves.leaves) _ c.self.invariant.0 _ _ (into c), omega (arith, c.insert.ensures.free, c.make_row-row.ensures.fewer, c.self.invariant.1))

pub returns-then-has_room : goal.returns-then-has_room
returns-then-has_room c =
    let cells = flat c.self.inside.leaves.leaves in
    let spare = c.self.inside.spares in
    let seen = is_put cells spare c.args.self.now c.self.view_is (flat c.insert.new.self.leaves) c.args.key.now c.args.value.now c.make_row-row.result.1 c.make_row-row.ensures.made.value (into c) in
    let none = room_seen cells spare c.args.self.now c.self.view_is c.args.key.now _ (none_seen cells spare c.args.self.now c.self.view_is c.args.key.now c.requires.absent) in
    record {
      rows = seen.rows;
      at_key = seen.at_key;
      others = seen.others;
      fits = omega (arith, seen.room, c.make_row-row.ensures.made.fits);
      rooms = seen.all_rooms (omega (arith, none));
      spare = omega (arith, ap (λ o. o.spare) c.self.view_is, c.make_row-row.ensures.fewer);
      in_order = order_seen (flat c.insert.new.self.leaves) c.make_row-row.new.self (contents_of (flat c.insert.new.self.leaves) c.make_row-row.new.self) refl (sorted_put (flat c.self.inside.leaves.leaves) _ c.self.invariant.0 _ _ (into c));
    }

-- it does so with a spare leaf
into_new : (c : goal.After-insert_with) → flat c.insert_with.new.self.leaves ≡ put key_cmp c.args.key.now c.make_row_and_leaf-row.result.0.1 (flat c.self.inside.leaves.leaves)
into_new c = put_in c.as_slice.result.now c.self.inside.leaves.leaves c.as_slice.ensures.leaves c.args.key.now c.args.key.now refl c.gap_for-place.result c.gap_for-place.ensures.gap c.insert_with.new.self.leaves c.make_row_and_leaf-row.result.0 c.insert_with.ensures.leaves c.make_row_and_leaf-row.ensures.row.made.key

pub invariant_of-self-else-has_room : goal.invariant_of-self-else-has_room
invariant_of-self-else-has_room c = (sorted_put (flat c.self.inside.leaves.leaves) _ c.self.invariant.0 _ _ (into_new c), omega (arith, c.insert_with.ensures.free, c.make_row_and_leaf-row.ensures.row.fewer, c.self.invariant.1))

pub returns-else-has_room : goal.returns-else-has_room
returns-else-has_room c =
    let cells = flat c.self.inside.leaves.leaves in
    let spare = c.self.inside.spares in
    let seen = is_put cells spare c.args.self.now c.self.view_is (flat c.insert_with.new.self.leaves) c.args.key.now c.args.value.now c.make_row_and_leaf-row.result.0.1 c.make_row_and_leaf-row.ensures.row.made.value (into_new c) in
    let none = room_seen cells spare c.args.self.now c.self.view_is c.args.key.now _ (none_seen cells spare c.args.self.now c.self.view_is c.args.key.now c.requires.absent) in
    record {
      rows = seen.rows;
      at_key = seen.at_key;
      others = seen.others;
      fits = omega (arith, seen.room, c.make_row_and_leaf-row.ensures.row.made.fits);
      rooms = seen.all_rooms (omega (arith, none));
      spare = omega (arith, ap (λ o. o.spare) c.self.view_is, c.make_row_and_leaf-row.ensures.row.fewer);
      in_order = order_seen (flat c.insert_with.new.self.leaves) c.make_row_and_leaf-row.new.self (contents_of (flat c.insert_with.new.self.leaves) c.make_row_and_leaf-row.new.self) refl (sorted_put (flat c.self.inside.leaves.leaves) _ c.self.invariant.0 _ _ (into_new c));
    }
