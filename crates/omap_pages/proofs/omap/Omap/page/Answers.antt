use Rattle.std.proofs.Common.{take, sym, ap, subst, ◌∙◌, arith}
use Rattle.std.specs.Ordering.{is_lt}
use Rattle.omap_pages.specs.Leaves.{flat, position}
use Rattle.omap_pages.specs.Places.{IsPartedAt}
use Rattle.omap_pages.specs.Rows.{IsInOrder, key_cmp}
use Rattle.omap_pages.proofs.PageLemmas.{values_after, length-after, page_order}
use Rattle.omap_pages.proofs.omap.Omap.page.Goals as goal

pub returns : goal.returns
returns c =
    let ls = c.self.inside.leaves.leaves in
    let cells = flat ls in
    let spare = c.self.inside.spares in
    let after = c.args.after.now in
    let start = position ls c.start_after-start.result in
    let parted = subst (λ z. IsPartedAt (λ k. is_lt (key_cmp after k)) (flat z) (position z c.start_after-start.result)) c.as_slice.ensures.leaves c.start_after-start.ensures.parted in
    let rows = c.in_ok-page.ensures.rows ∙ ap (take c.args.limit) (values_after cells spare c.args.self.now c.self.view_is after start parted) in
    let size = length-after cells spare c.args.self.now c.self.view_is after start parted in
    record {
      rows = rows;
      end = (λ e. omega (arith, size, c.in_ok-page.ensures.end.0 e), λ le. c.in_ok-page.ensures.end.1 (omega (arith, size)));
      in_order = subst IsInOrder (sym rows) (page_order cells spare c.args.self.now c.self.view_is after start parted c.self.invariant.0 c.args.limit);
    }
