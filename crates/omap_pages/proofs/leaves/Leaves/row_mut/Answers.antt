use Rattle.std.proofs.Common.{◌≡◌, set, refl, ap}
use Rattle.omap_pages.proofs.LeavesLemmas.{here, row_here}
use Rattle.omap_pages.proofs.leaves.Leaves.row_mut.Goals as goal

pub returns : goal.returns
returns c =
    let ls = c.self.inside.leaves.items in
    let place = c.args.place in
    let same : ls ≡ c.args.self.now.leaves = ap (λ d. d.leaves) c.self.view_is in
    let leaf = here ls c.args.self.now.leaves same place c.requires.leaf c.index_mut-leaf.result.now c.index_mut-leaf.ensures.value in (
      (refl, λ w. λ i. record { leaves = set (same i) place.leaf (set (leaf i) place.row w); free = (c.self.view_is i).free }),
      record {
        lends = tt;
        value = row_here ls c.args.self.now.leaves same place c.requires.leaf c.index_mut-leaf.result.now c.index_mut-leaf.ensures.value c.row_mut.result.now c.requires.row c.row_mut.ensures.value;
      },
    )
