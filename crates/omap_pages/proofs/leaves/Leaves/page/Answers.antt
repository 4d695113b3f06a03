use Rattle.std.proofs.Common.{◌≡◌, ◌-◌, [], length, take, drop, min, refl, sym, ap, ◌∙◌, arith}
use Rattle.std.proofs.lemmas.List.{get_or_read, take_all, length-map}
use Rattle.omap_pages.specs.Cells.{values_of}
use Rattle.omap_pages.specs.Leaves.{flat, position}
use Rattle.omap_pages.proofs.WalkLemmas.{copy_of, walked, all_walked, leaf_walked, still_few, limit_reached}
use Rattle.omap_pages.proofs.leaves.Leaves.page.Goals as goal

pub loop-leaf-preserved : goal.loop-leaf-preserved
loop-leaf-preserved c =
    let items = take (length c.as_slice.result.now - c.args.start.leaf) (drop c.args.start.leaf c.as_slice.result.now) in
    let all = values_of (drop c.args.start.row (flat items)) in
    let pairs = c.loop-leaf.pairs.items in
    let i = c.loop-leaf.leaf-index in
    let l = c.as_slice-in-loop-leaf.result.now in
    let leaf = c.as_slice-in-loop-leaf.ensures ∙ get_or_read items i c.leaf-item.result c.loop-leaf-test.true c.leaf-item.is [] in
    let skipped = c.loop-leaf.invariant.skipped c.loop-leaf-test.true in
    let count : c.min-count.result ≡ min (length (take (length l - c.loop-leaf.skipped) (drop c.loop-leaf.skipped l))) (c.args.limit - length pairs) = omega (arith, c.min-count.ensures, c.len.ensures) in
    record {
      rows = leaf_walked copy_of items all pairs c.loop-leaf.skipped i c.args.limit c.loop-leaf.invariant.rows c.loop-leaf.invariant.few c.loop-leaf-test.true skipped l leaf c.min-count.result count c.copy_rows.new.pairs.items c.in_ok-copy_rows.ensures c.if-count-rows.false;
      skipped = λ more. omega arith;
      few = still_few copy_of items all pairs c.loop-leaf.skipped i c.args.limit c.loop-leaf.invariant.rows c.loop-leaf.invariant.few c.loop-leaf-test.true skipped l leaf c.min-count.result count c.copy_rows.new.pairs.items c.in_ok-copy_rows.ensures;
    }

-- more rows follow
pub returns-then-count-rows : goal.returns-then-count-rows
returns-then-count-rows c =
    let items = take (length c.as_slice.result.now - c.args.start.leaf) (drop c.args.start.leaf c.as_slice.result.now) in
    let all = values_of (drop c.args.start.row (flat items)) in
    let pairs = c.loop-leaf.pairs.items in
    let i = c.loop-leaf.leaf-index in
    let l = c.as_slice-in-loop-leaf.result.now in
    let leaf = c.as_slice-in-loop-leaf.ensures ∙ get_or_read items i c.leaf-item.result c.loop-leaf-test.true c.leaf-item.is [] in
    let skipped = c.loop-leaf.invariant.skipped c.loop-leaf-test.true in
    let count : c.min-count.result ≡ min (length (take (length l - c.loop-leaf.skipped) (drop c.loop-leaf.skipped l))) (c.args.limit - length pairs) = omega (arith, c.min-count.ensures, c.len.ensures) in
    let first = limit_reached copy_of items all pairs c.loop-leaf.skipped i c.args.limit c.loop-leaf.invariant.rows c.loop-leaf.invariant.few c.loop-leaf-test.true skipped l leaf c.min-count.result count c.copy_rows.new.pairs.items c.in_ok-copy_rows.ensures c.if-count-rows.true in
    let whole = walked copy_of c.as_slice.result.now c.args.self.now.leaves (c.as_slice.ensures.value ∙ ap (λ d. d.leaves) c.self.view_is) c.args.start in
    record {
      rows = c.from_vec.ensures ∙ first.rows ∙ ap (take c.args.limit) whole;
      end = (λ e. absurd (cc e), λ le. absurd (omega (arith, first.size, ap length whole, length-map (drop (position c.args.self.now.leaves c.args.start) (flat c.args.self.now.leaves)) copy_of)));
    }

-- all leaves were walked
pub returns : goal.returns
returns c =
    let items = take (length c.as_slice.result.now - c.args.start.leaf) (drop c.args.start.leaf c.as_slice.result.now) in
    let all = values_of (drop c.args.start.row (flat items)) in
    let whole = walked copy_of c.as_slice.result.now c.args.self.now.leaves (c.as_slice.ensures.value ∙ ap (λ d. d.leaves) c.self.view_is) c.args.start in
    let given = all_walked copy_of items all c.loop-leaf.pairs.items c.loop-leaf.skipped c.loop-leaf.leaf-index c.args.limit c.loop-leaf.invariant.rows c.loop-leaf.invariant.few c.loop-leaf-test.false ∙ whole in
    let size = ap length given ∙ length-map (drop (position c.args.self.now.leaves c.args.start) (flat c.args.self.now.leaves)) copy_of in
    record {
      rows = c.from_vec-2.ensures ∙ given ∙ sym (take_all c.args.limit (values_of (drop (position c.args.self.now.leaves c.args.start) (flat c.args.self.now.leaves))) (omega (arith, ap length given, c.loop-leaf.invariant.few)));
      end = (λ e. omega (arith, size, c.loop-leaf.invariant.few), λ le. refl);
    }
