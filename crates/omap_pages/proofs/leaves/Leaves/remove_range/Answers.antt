use Rattle.std.proofs.Common.{◌≡◌, length, set, take, drop, sym, ap, subst, ◌∙◌, arith, inl, inr}
use Rattle.std.specs.List.{remove_range}
use Rattle.std.specs.Vec.{with_items}
use Rattle.std.proofs.lemmas.Bool.{cases_lt}
use Rattle.std.proofs.lemmas.List.{with_items_is}
use Rattle.omap_pages.specs.Leaves.{flat, leaf_at, AreLeaves}
use Rattle.omap_pages.proofs.CutLemmas.{IsLeft, left_of, length-flat_range, length-flat_le, counted, start_before_end, left_in_two, left_in_one}
use Rattle.omap_pages.proofs.FlatLemmas.{length_front_le}
use Rattle.omap_pages.proofs.LeavesLemmas.{position_le}
use Rattle.omap_pages.proofs.leaves.Leaves.remove_range.Goals as goal

pub count_rows-requires : goal.count_rows-requires
count_rows-requires c =
    let ls = c.self.inside.leaves.items in
    let range = length-flat_range c.deref.result.now c.args.start.leaf c.args.end.leaf c.requires.order.leaf in
    omega (arith, range, length_front_le c.deref.result.now c.args.end.leaf, ap (λ z. length (flat z)) c.deref.ensures.value, length-flat_le ls c.self.invariant.0, c.self.invariant.1)

pub overflow_add-count : goal.overflow_add-count
overflow_add-count c =
    let ls = c.args.self.now.leaves in
    let sum = counted c.deref.result.now ls (c.deref.ensures.value ∙ ap (λ d. d.leaves) c.self.view_is) c.args.start c.args.end c.requires.start c.requires.end_leaf c.requires.order.leaf c.requires.order.row c.count_rows.result c.count_rows.ensures in
    omega (arith, sum, position_le ls c.args.end c.requires.end_leaf c.requires.end.row, ap (λ d. length (flat d.leaves)) c.self.view_is, length-flat_le c.self.inside.leaves.items c.self.invariant.0, c.self.invariant.1)

pub overflow_sub-count : goal.overflow_sub-count
overflow_sub-count c = start_before_end c.deref.result.now c.args.self.now.leaves (c.deref.ensures.value ∙ ap (λ d. d.leaves) c.self.view_is) c.args.start c.args.end c.requires.start c.requires.end_leaf c.requires.order.leaf c.requires.order.row c.count_rows.result c.count_rows.ensures

-- what is left
left : (c : goal.After-drop_emptied) → IsLeft c.args.self.now.leaves c.drop_emptied.new.leaves.items c.args.start c.args.end
left c =
    let ls = c.args.self.now.leaves in
    let inside = c.self.inside.leaves in
    let cut = c.cut.new.leaves in
    let same : inside.items ≡ ls = ap (λ d. d.leaves) c.self.view_is in
    let leaves = subst AreLeaves same c.self.invariant.0 in
    let was = c.as_mut_slice.ensures.value ∙ same in
    let kept : (with_items inside cut).items ≡ cut = with_items_is inside cut (omega (arith, c.cut.auto.leaves, c.as_mut_slice.ensures.len)) in
    let items : c.drop_emptied.new.leaves.items ≡ left_of cut c.args.start c.args.end = c.drop_emptied.ensures.items ∙ ap (λ z. left_of z c.args.start c.args.end) kept in
    subst (λ z. IsLeft ls z c.args.start c.args.end) (sym items) (elim (cases_lt c.args.start.leaf c.args.end.leaf) [
      | inl two ↦ left_in_two ls c.args.start c.args.end leaves c.requires.start c.requires.end c.requires.start_leaf c.requires.end_leaf cut two (c.cut.ensures.two two ∙ ap (λ z. set (set z c.args.start.leaf (take c.args.start.row (leaf_at z c.args.start))) c.args.end.leaf (drop c.args.end.row (leaf_at z c.args.end))) was)
      | inr one ↦
          let order : c.args.start.leaf ≡ c.args.end.leaf = omega (arith, c.requires.order.leaf) in
          left_in_one ls c.args.start c.args.end leaves c.requires.start c.requires.end c.requires.start_leaf c.requires.end_leaf cut order (c.requires.order.row order) (c.cut.ensures.one order ∙ ap (λ z. set z c.args.start.leaf (remove_range (leaf_at z c.args.start) c.args.start.row c.args.end.row)) was)
    ])

pub invariant_of-self : goal.invariant_of-self
invariant_of-self c = ((left c).sizes, omega (arith, c.self.invariant.1, c.drop_emptied.ensures.len))

pub returns-clause-count : goal.returns-clause-count
returns-clause-count c =
    let ls = c.args.self.now.leaves in
    let same = c.deref.ensures.value ∙ ap (λ d. d.leaves) c.self.view_is in
    let sum = counted c.deref.result.now ls same c.args.start c.args.end c.requires.start c.requires.end_leaf c.requires.order.leaf c.requires.order.row c.count_rows.result c.count_rows.ensures in
    let some = start_before_end c.deref.result.now ls same c.args.start c.args.end c.requires.start c.requires.end_leaf c.requires.order.leaf c.requires.order.row c.count_rows.result c.count_rows.ensures in
    omega (arith, sum, some)

pub returns-clause-leaves : goal.returns-clause-leaves
returns-clause-leaves c = (left c).rows
