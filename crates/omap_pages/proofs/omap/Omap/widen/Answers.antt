use Rattle.std.proofs.Common.{◌≡◌, max, is_some, refl, ap, subst, sym, ◌∙◌, arith}
use Rattle.std.specs.FinMap.Entries.{find, put, is_sorted}
use Rattle.std.proofs.lemmas.Result.{err_from_is_err_and}
use Rattle.omap_pages.specs.Cells.{contents_of}
use Rattle.omap_pages.specs.Leaves.{flat, with_row_at, IsRow}
use Rattle.omap_pages.specs.Rows.{key_cmp}
use Rattle.omap_pages.proofs.CellLemmas.{is_put, sorted_put, put_same, is_some_seen, value_seen, room_seen, order_seen, readied}
use Rattle.omap_pages.proofs.KeyLemmas.{found, written}
use Rattle.omap_pages.proofs.LeavesLemmas.{flat-set_same}
use Rattle.omap_pages.proofs.omap.Omap.widen.Goals as goal

pub place_of-place-requires : goal.place_of-place-requires
place_of-place-requires c = record {
  ordered = record {
    in_order = ap (λ z. is_sorted key_cmp (flat z)) c.as_slice.ensures.leaves ∙ c.self.invariant.0;
    leaves = c.as_slice.ensures.sizes;
  };
  there = ap (λ z. is_some (find key_cmp c.args.key.now (flat z))) c.as_slice.ensures.leaves ∙ sym (is_some_seen (flat c.self.inside.leaves.leaves) c.self.inside.spares c.args.self.now c.self.view_is c.args.key.now) ∙ c.requires;
}

-- the row at the key is written over by the wider one
over : (c : goal.In_ok-widen) → flat (with_row_at c.self.inside.leaves.leaves c.place_of-place.result c.widen.new.self) ≡ put key_cmp c.args.key.now c.widen.new.self.1 (flat c.self.inside.leaves.leaves)
over c = written c.as_slice.result.now c.self.inside.leaves.leaves c.as_slice.ensures.leaves c.args.key.now c.args.key.now refl c.place_of-place.result c.place_of-place.ensures.at c.place_of-place.ensures.row c.row_mut.result.now c.widen.new.self c.row_mut.ensures.value c.widen.ensures.key

pub invariant_of-self-2 : goal.invariant_of-self-2
invariant_of-self-2 c = (sorted_put (flat c.self.inside.leaves.leaves) _ c.self.invariant.0 _ _ (over c), c.self.invariant.1)

pub returns : goal.returns
returns c =
    let cells = flat c.self.inside.leaves.leaves in
    let spare = c.self.inside.spares in
    let key = c.args.key.now in
    let is = found c.as_slice.result.now c.self.inside.leaves.leaves c.as_slice.ensures.leaves key key refl c.place_of-place.result c.place_of-place.ensures.at c.row_mut.result.now c.row_mut.ensures.value in
    let value = value_seen cells spare c.args.self.now c.self.view_is key _ is in
    let room = room_seen cells spare c.args.self.now c.self.view_is key _ is in
    let seen = is_put cells spare c.args.self.now c.self.view_is (flat (with_row_at c.self.inside.leaves.leaves c.place_of-place.result c.widen.new.self)) key c.row_mut.result.now.1.value c.widen.new.self.1 c.widen.ensures.value (over c) in
    record {
      ok = omega (arith, seen.room, c.in_ok-widen.ensures.ok);
      exact = seen.room ∙ c.in_ok-widen.ensures.ok ∙ ap (λ n. max n c.args.room) (sym room);
      enough = λ le. refl;
      readied = record {
        rows = seen.rows ∙ put_same c.args.self.now.rows key c.row_mut.result.now.1.value (order_seen cells spare c.args.self.now c.self.view_is c.self.invariant.0) value;
        rooms = seen.all_rooms (omega (arith, room, c.in_ok-widen.ensures.ok));
        spare = let same = ap (λ o. o.spare) c.self.view_is in omega (arith, same);
        in_order = order_seen (flat (with_row_at c.self.inside.leaves.leaves c.place_of-place.result c.widen.new.self)) c.self.inside.spares (contents_of (flat (with_row_at c.self.inside.leaves.leaves c.place_of-place.result c.widen.new.self)) c.self.inside.spares) refl (sorted_put (flat c.self.inside.leaves.leaves) _ c.self.invariant.0 _ _ (over c));
      };
      spare = ap (λ o. o.spare) c.self.view_is;
      err = tt;
    }

-- after an error the row is what it was
unchanged : (c : goal.After-from_residual) → flat (with_row_at c.self.inside.leaves.leaves c.place_of-place.result c.widen.new.self) ≡ flat c.self.inside.leaves.leaves
unchanged c =
    let ls = c.self.inside.leaves.leaves in
    let place = c.place_of-place.result in
    let row = subst (λ z. IsRow z place) c.as_slice.ensures.leaves c.place_of-place.ensures.row in
    ap (λ w. flat (with_row_at ls place w)) c.in_err-widen.ensures.err ∙ flat-set_same ls place row.leaf c.row_mut.result.now row.row c.row_mut.ensures.value

pub invariant_of-self : goal.invariant_of-self
invariant_of-self c = (ap (is_sorted key_cmp) (unchanged c) ∙ c.self.invariant.0, c.self.invariant.1)

pub returns-in_err-widen-clause-readied : goal.returns-in_err-widen-clause-readied
returns-in_err-widen-clause-readied c = readied (flat c.self.inside.leaves.leaves) c.self.inside.spares c.args.self.now c.self.view_is (flat (with_row_at c.self.inside.leaves.leaves c.place_of-place.result c.widen.new.self)) c.self.inside.spares (unchanged c) (omega arith) c.self.invariant.0

pub returns-in_err-widen-clause-err : goal.returns-in_err-widen-clause-err
returns-in_err-widen-clause-err c =
    let p = err_from_is_err_and c.from_residual.result c.from_residual.ensures.1 in
    rw p.1 (ap (λ z. contents_of z c.self.inside.spares) (unchanged c) ∙ c.self.view_is)

-- a room that is there already takes no memory
pub returns-in_err-widen-clause-enough : goal.returns-in_err-widen-clause-enough
returns-in_err-widen-clause-enough c = λ le.
    let cells = flat c.self.inside.leaves.leaves in
    let is = found c.as_slice.result.now c.self.inside.leaves.leaves c.as_slice.ensures.leaves c.args.key.now c.args.key.now refl c.place_of-place.result c.place_of-place.ensures.at c.row_mut.result.now c.row_mut.ensures.value in
    let room = room_seen cells c.self.inside.spares c.args.self.now c.self.view_is c.args.key.now _ is in
    absurd (let no = c.in_err-widen.ensures.enough (omega (arith, room, le)) in cc no)
