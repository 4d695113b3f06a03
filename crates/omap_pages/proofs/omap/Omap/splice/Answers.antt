use Rattle.std.proofs.Common.{◌≡◌, ◌+◌, Some, is_some, refl, ap, sym, ◌∙◌, arith}
use Rattle.std.specs.FinMap.Entries.{find, put, is_sorted}
use Rattle.std.specs.List.{splice}
use Rattle.omap_pages.specs.Cells.{contents_of}
use Rattle.omap_pages.specs.Leaves.{flat, with_row_at}
use Rattle.omap_pages.specs.Rows.{key_cmp, with_row}
use Rattle.omap_pages.proofs.CellLemmas.{order_seen, is_put, sorted_put, is_some_seen, value_seen, room_seen}
use Rattle.omap_pages.proofs.KeyLemmas.{found, written}
use Rattle.omap_pages.proofs.omap.Omap.splice.Goals as goal

pub place_of-place-requires : goal.place_of-place-requires
place_of-place-requires c = record {
  ordered = record {
    in_order = ap (λ z. is_sorted key_cmp (flat z)) c.as_slice.ensures.leaves ∙ c.self.invariant.0;
    leaves = c.as_slice.ensures.sizes;
  };
  there = ap (λ z. is_some (find key_cmp c.args.key.now (flat z))) c.as_slice.ensures.leaves ∙ sym (is_some_seen (flat c.self.inside.leaves.leaves) c.self.inside.spares c.args.self.now c.self.view_is c.args.key.now) ∙ c.requires.there;
}

-- what stands at the key
there : (c : goal.After-row_mut) → find key_cmp c.args.key.now (flat c.self.inside.leaves.leaves) ≡ Some c.row_mut.result.now.1
there c = found c.as_slice.result.now c.self.inside.leaves.leaves c.as_slice.ensures.leaves c.args.key.now c.args.key.now refl c.place_of-place.result c.place_of-place.ensures.at c.row_mut.result.now c.row_mut.ensures.value

pub splice-requires : goal.splice-requires
splice-requires c =
    let cells = flat c.self.inside.leaves.leaves in
    let spare = c.self.inside.spares in
    let cell = c.row_mut.result.now.1 in
    let value = value_seen cells spare c.args.self.now c.self.view_is c.args.key.now _ (there c) in
    let room = room_seen cells spare c.args.self.now c.self.view_is c.args.key.now _ (there c) in
    record {
      range = c.requires.range cell.value value;
      fits = omega (arith, room, c.requires.fits cell.value value);
    }

-- the row at the key is written over by the new one
over : (c : goal.After-self-1) → flat (with_row_at c.self.inside.leaves.leaves c.place_of-place.result c.splice.new.self) ≡ put key_cmp c.args.key.now c.splice.new.self.1 (flat c.self.inside.leaves.leaves)
over c = written c.as_slice.result.now c.self.inside.leaves.leaves c.as_slice.ensures.leaves c.args.key.now c.args.key.now refl c.place_of-place.result c.place_of-place.ensures.at c.place_of-place.ensures.row c.row_mut.result.now c.splice.new.self c.row_mut.ensures.value c.splice.ensures.key

pub invariant_of-self : goal.invariant_of-self
invariant_of-self c = (sorted_put (flat c.self.inside.leaves.leaves) _ c.self.invariant.0 _ _ (over c), c.self.invariant.1)

pub returns : goal.returns
returns c =
    let cells = flat c.self.inside.leaves.leaves in
    let spare = c.self.inside.spares in
    let key = c.args.key.now in
    let old = c.row_mut.result.now.1.value in
    let is = found c.as_slice.result.now c.self.inside.leaves.leaves c.as_slice.ensures.leaves key key refl c.place_of-place.result c.place_of-place.ensures.at c.row_mut.result.now c.row_mut.ensures.value in
    let value = value_seen cells spare c.args.self.now c.self.view_is key _ is in
    let room = room_seen cells spare c.args.self.now c.self.view_is key _ is in
    let seen = is_put cells spare c.args.self.now c.self.view_is (flat (with_row_at c.self.inside.leaves.leaves c.place_of-place.result c.splice.new.self)) key _ c.splice.new.self.1 c.splice.ensures.value (over c) in
    record {
      rows = λ v is. let same : old ≡ v = cc in seen.rows ∙ ap (λ w. with_row c.args.self.now.rows key (splice w c.args.start (c.args.start + c.args.count) c.args.bytes.now)) same;
      at_key = λ v is. let same : old ≡ v = cc in seen.at_key ∙ ap (λ w. Some (splice w c.args.start (c.args.start + c.args.count) c.args.bytes.now)) same;
      others = seen.others;
      rooms = seen.all_rooms (omega (arith, room));
      spare = ap (λ o. o.spare) c.self.view_is;
      in_order = order_seen (flat (with_row_at c.self.inside.leaves.leaves c.place_of-place.result c.splice.new.self)) c.self.inside.spares (contents_of (flat (with_row_at c.self.inside.leaves.leaves c.place_of-place.result c.splice.new.self)) c.self.inside.spares) refl (sorted_put (flat c.self.inside.leaves.leaves) _ c.self.invariant.0 _ _ (over c));
    }
