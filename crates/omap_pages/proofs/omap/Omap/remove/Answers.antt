use Rattle.std.proofs.Common.{◌≡◌, not, is_some, ap, sym, ◌∙◌, arith, refl}
use Rattle.std.specs.FinMap.Entries.{where_key}
use Rattle.std.specs.Ordering.{eq_by_cmp}
use Rattle.omap_pages.specs.Cells.{contents_of}
use Rattle.omap_pages.specs.Leaves.{flat}
use Rattle.omap_pages.specs.Rows.{key_cmp}
use Rattle.omap_pages.proofs.CellLemmas.{order_seen, is_kept, sorted_where, is_some_seen, value_seen, same_rows, apart, tied}
use Rattle.omap_pages.proofs.KeyLemmas.{removed, found_some, found_none, kept_all}
use Rattle.omap_pages.proofs.omap.Omap.remove.Goals as goal

kept : (c : goal.After-remove) → flat c.remove.new.self.leaves ≡ where_key key_cmp (λ k. not (eq_by_cmp key_cmp c.args.key.now k)) (flat c.self.inside.leaves.leaves)
kept c = removed c.as_slice.result.now c.self.inside.leaves.leaves c.as_slice.ensures.leaves c.args.key.now c.args.key.now refl c.in-Ok.place c.in-Ok.ensures.found c.remove.new.self.leaves c.remove.ensures.leaves

pub invariant_of-self : goal.invariant_of-self
invariant_of-self c = (sorted_where (flat c.self.inside.leaves.leaves) _ c.self.invariant.0 _ (kept c), omega (arith, c.remove.ensures.free, c.self.invariant.1))

pub returns-in-Ok : goal.returns-in-Ok
returns-in-Ok c =
    let cells = flat c.self.inside.leaves.leaves in
    let spare = c.self.inside.spares in
    let key = c.args.key.now in
    let seen = is_kept cells spare c.args.self.now c.self.view_is (flat c.remove.new.self.leaves) _ (kept c) in
    record {
      found = sym (is_some_seen cells spare c.args.self.now c.self.view_is key ∙ found_some c.as_slice.result.now c.self.inside.leaves.leaves c.as_slice.ensures.leaves key key refl c.in-Ok.place c.in-Ok.ensures.found);
      rows = seen.rows;
      at_key = seen.failing key (ap not (tied key));
      others = λ q ne. seen.passing q (ap not (apart key q (λ e. ne (sym e))));
      other_rooms = λ q ne. seen.rooms q (ap not (apart key q (λ e. ne (sym e))));
      spare = ap (λ o. o.spare) c.self.view_is;
      absent = tt;
      in_order = order_seen (flat c.remove.new.self.leaves) c.self.inside.spares (contents_of (flat c.remove.new.self.leaves) c.self.inside.spares) refl (sorted_where (flat c.self.inside.leaves.leaves) _ c.self.invariant.0 _ (kept c));
    }

pub returns-in-Err : goal.returns-in-Err
returns-in-Err c =
    let ls = c.self.inside.leaves.leaves in
    let cells = flat ls in
    let spare = c.self.inside.spares in
    let key = c.args.key.now in
    let none = value_seen cells spare c.args.self.now c.self.view_is key _ (found_none c.as_slice.result.now ls c.as_slice.ensures.leaves key key refl c.in-Err.field-0 c.in-Err.ensures.absent) in
    let seen = is_kept cells spare c.args.self.now c.self.view_is cells _ (kept_all c.as_slice.result.now ls c.as_slice.ensures.leaves key key refl c.in-Err.field-0 c.in-Err.ensures.absent) in
    record {
      found = sym (ap is_some none);
      rows = sym (same_rows cells spare c.args.self.now c.self.view_is) ∙ seen.rows;
      at_key = none;
      others = λ q ne. refl;
      other_rooms = λ q ne. omega arith;
      spare = refl;
      absent = refl;
      in_order = order_seen (flat c.self.inside.leaves.leaves) c.self.inside.spares c.args.self.now c.self.view_is c.self.invariant.0;
    }
