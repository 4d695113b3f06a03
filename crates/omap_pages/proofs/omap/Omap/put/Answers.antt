use Rattle.std.proofs.Common.{◌≡◌, length, refl, ap, ◌∙◌, arith}
use Rattle.std.specs.List.{insert}
use Rattle.std.specs.FinMap.Entries.{is_sorted, put}
use Rattle.omap_pages.specs.Cells.{contents_of}
use Rattle.omap_pages.specs.Leaves.{flat, position, with_row_at}
use Rattle.omap_pages.specs.Rows.{key_cmp}
use Rattle.omap_pages.proofs.CellLemmas.{IsPut, is_put, order_seen, sorted_put}
use Rattle.omap_pages.proofs.KeyLemmas.{written, put_in}
use Rattle.omap_pages.proofs.omap.Omap.put.Goals as goal

-- the key was there, and its value is written over
over : (c : goal.After-drop-key-inside) → flat (with_row_at c.self.inside.leaves.leaves c.in-Ok.place c.set_value.new.self) ≡ put key_cmp c.args.key c.set_value.new.self.1 (flat c.self.inside.leaves.leaves)
over c = written c.as_slice.result.now c.self.inside.leaves.leaves c.as_slice.ensures.leaves c.as_slice-2.result.now c.args.key c.as_slice-2.ensures c.in-Ok.place c.in-Ok.ensures.found c.in-Ok.ensures.row c.row_mut.result.now c.set_value.new.self c.row_mut.ensures.value c.set_value.ensures.key

seen_over : (c : goal.After-drop-key-inside) → IsPut c.args.self.now (flat (with_row_at c.self.inside.leaves.leaves c.in-Ok.place c.set_value.new.self)) c.args.key c.args.value c.set_value.new.self.1.room
seen_over c = is_put (flat c.self.inside.leaves.leaves) c.self.inside.spares c.args.self.now c.self.view_is _ c.args.key c.args.value c.set_value.new.self.1 (c.set_value.ensures.value ∙ c.into_vec.ensures) (over c)

pub invariant_of-self : goal.invariant_of-self
invariant_of-self c = (sorted_put (flat c.self.inside.leaves.leaves) _ c.self.invariant.0 _ _ (over c), c.self.invariant.1)

pub returns-in-Ok : goal.returns-in-Ok
returns-in-Ok c = let seen = seen_over c in record {
  rows = seen.rows;
  at_key = seen.at_key;
  others = seen.others;
  fits = omega (arith, seen.room, ap length c.into_vec.ensures);
  other_rooms = seen.other_rooms;
  spare = ap (λ o. o.spare) c.self.view_is;
  err = tt;
  in_order = order_seen (flat (with_row_at c.self.inside.leaves.leaves c.in-Ok.place c.set_value.new.self)) c.self.inside.spares (contents_of (flat (with_row_at c.self.inside.leaves.leaves c.in-Ok.place c.set_value.new.self)) c.self.inside.spares) refl (sorted_put (flat c.self.inside.leaves.leaves) _ c.self.invariant.0 _ _ (over c));
}

-- the row goes into the gap for its key
into : (c : goal.After-insert) → flat c.insert.new.self.leaves ≡ put key_cmp c.args.key c.new-row.result.1 (flat c.self.inside.leaves.leaves)
into c = put_in c.as_slice.result.now c.self.inside.leaves.leaves c.as_slice.ensures.leaves c.as_slice-2.result.now c.args.key c.as_slice-2.ensures c.in-Err.place c.in-Err.ensures.absent c.insert.new.self.leaves c.new-row.result c.insert.ensures.leaves (c.new-row.ensures.key ∙ c.into_vec-in-Err.ensures)

seen_into : (c : goal.After-insert) → IsPut c.args.self.now (flat c.insert.new.self.leaves) c.args.key c.args.value c.new-row.result.1.room
seen_into c = is_put (flat c.self.inside.leaves.leaves) c.self.inside.spares c.args.self.now c.self.view_is _ c.args.key c.args.value c.new-row.result.1 (c.new-row.ensures.value ∙ c.into_vec-in-Err-2.ensures) (into c)

pub invariant_of-self-then-has_room : goal.invariant_of-self-then-has_room
invariant_of-self-then-has_room c = (sorted_put (flat c.self.inside.leaves.leaves) _ c.self.invariant.0 _ _ (into c), omega (arith, c.insert.ensures.free, c.self.invariant.1))

pub returns-then-has_room : goal.returns-then-has_room
returns-then-has_room c = let seen = seen_into c in record {
  rows = seen.rows;
  at_key = seen.at_key;
  others = seen.others;
  fits = omega (arith, seen.room, ap length c.into_vec-in-Err-2.ensures, c.new-row.ensures.fits);
  other_rooms = seen.other_rooms;
  spare = ap (λ o. o.spare) c.self.view_is;
  err = tt;
  in_order = order_seen (flat c.insert.new.self.leaves) c.self.inside.spares (contents_of (flat c.insert.new.self.leaves) c.self.inside.spares) refl (sorted_put (flat c.self.inside.leaves.leaves) _ c.self.invariant.0 _ _ (into c));
}

-- it does so with a new leaf
into_new : (c : goal.After-insert_with) → flat c.insert_with.new.self.leaves ≡ put key_cmp c.args.key c.new-row.result.1 (flat c.self.inside.leaves.leaves)
into_new c = put_in c.as_slice.result.now c.self.inside.leaves.leaves c.as_slice.ensures.leaves c.as_slice-2.result.now c.args.key c.as_slice-2.ensures c.in-Err.place c.in-Err.ensures.absent c.insert_with.new.self.leaves c.new-row.result (c.insert_with.ensures.leaves ∙ ap (λ z. insert (flat z) (position z c.in-Err.place) c.new-row.result) c.reserve.ensures.leaves) (c.new-row.ensures.key ∙ c.into_vec-in-Err.ensures)

seen_into_new : (c : goal.After-insert_with) → IsPut c.args.self.now (flat c.insert_with.new.self.leaves) c.args.key c.args.value c.new-row.result.1.room
seen_into_new c = is_put (flat c.self.inside.leaves.leaves) c.self.inside.spares c.args.self.now c.self.view_is _ c.args.key c.args.value c.new-row.result.1 (c.new-row.ensures.value ∙ c.into_vec-in-Err-2.ensures) (into_new c)

pub invariant_of-self-else-has_room : goal.invariant_of-self-else-has_room
invariant_of-self-else-has_room c = (sorted_put (flat c.self.inside.leaves.leaves) _ c.self.invariant.0 _ _ (into_new c), omega (arith, c.insert_with.ensures.free, c.in_ok-reserve-in-Err.ensures.ok))

pub returns-in_ok-leaf-in-Err : goal.returns-in_ok-leaf-in-Err
returns-in_ok-leaf-in-Err c = let seen = seen_into_new c in record {
  rows = seen.rows;
  at_key = seen.at_key;
  others = seen.others;
  fits = omega (arith, seen.room, ap length c.into_vec-in-Err-2.ensures, c.new-row.ensures.fits);
  other_rooms = seen.other_rooms;
  spare = ap (λ o. o.spare) c.self.view_is;
  err = tt;
  in_order = order_seen (flat c.insert_with.new.self.leaves) c.self.inside.spares (contents_of (flat c.insert_with.new.self.leaves) c.self.inside.spares) refl (sorted_put (flat c.self.inside.leaves.leaves) _ c.self.invariant.0 _ _ (into_new c));
}

pub returns-in_err-reserve-in-Err-clause-in_order : goal.returns-in_err-reserve-in-Err-clause-in_order
returns-in_err-reserve-in-Err-clause-in_order c = order_seen (flat c.reserve.new.self.leaves) c.self.inside.spares (contents_of (flat c.reserve.new.self.leaves) c.self.inside.spares) refl (ap (λ z. is_sorted key_cmp (flat z)) c.reserve.ensures.leaves ∙ c.self.invariant.0)

pub returns-in_err-leaf-in-Err-clause-in_order : goal.returns-in_err-leaf-in-Err-clause-in_order
returns-in_err-leaf-in-Err-clause-in_order c = order_seen (flat c.reserve.new.self.leaves) c.self.inside.spares (contents_of (flat c.reserve.new.self.leaves) c.self.inside.spares) refl (ap (λ z. is_sorted key_cmp (flat z)) c.reserve.ensures.leaves ∙ c.self.invariant.0)
