use Rattle.std.proofs.Common.{Some, refl, ap, sym, ◌∙◌, arith}
use Rattle.omap_pages.specs.Leaves.{flat}
use Rattle.omap_pages.proofs.CellLemmas.{value_seen, room_seen, order_seen}
use Rattle.omap_pages.proofs.KeyLemmas.{found, found_none}
use Rattle.omap_pages.proofs.omap.Omap.get.Goals as goal

pub returns-in-Ok : goal.returns-in-Ok
returns-in-Ok c =
    let cells = flat c.self.inside.leaves.leaves in
    let spare = c.self.inside.spares in
    let is = found c.as_slice.result.now c.self.inside.leaves.leaves c.as_slice.ensures.leaves c.args.key.now c.args.key.now refl c.in-Ok.place c.in-Ok.ensures.found c.row.result.now c.row.ensures in
    let room = room_seen cells spare c.args.self.now c.self.view_is c.args.key.now _ is in
    record {
      value = ap (λ v. Some v) c.value.ensures.value ∙ sym (value_seen cells spare c.args.self.now c.self.view_is c.args.key.now _ is);
      fits = omega (arith, room);
      no_room = tt;
      in_order = order_seen cells spare c.args.self.now c.self.view_is c.self.invariant.0;
    }

pub returns-in-Err : goal.returns-in-Err
returns-in-Err c =
    let cells = flat c.self.inside.leaves.leaves in
    let spare = c.self.inside.spares in
    let none = found_none c.as_slice.result.now c.self.inside.leaves.leaves c.as_slice.ensures.leaves c.args.key.now c.args.key.now refl c.in-Err.field-0 c.in-Err.ensures.absent in
    record {
      value = sym (value_seen cells spare c.args.self.now c.self.view_is c.args.key.now _ none);
      fits = tt;
      no_room = room_seen cells spare c.args.self.now c.self.view_is c.args.key.now _ none;
      in_order = order_seen cells spare c.args.self.now c.self.view_is c.self.invariant.0;
    }
