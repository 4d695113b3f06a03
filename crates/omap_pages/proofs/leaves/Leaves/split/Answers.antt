use Rattle.std.proofs.Common.{◌/◌, ap, length}
use Rattle.omap_pages.proofs.LeavesLemmas.{split_here}
use Rattle.omap_pages.proofs.leaves.Leaves.split.Goals as goal

pub returns-clause-leaves : goal.returns-clause-leaves
returns-clause-leaves c =
    let grown = rw c.unwrap.ensures at c.insert.ensures.items in
    split_here c.self.inside.leaves.items c.args.self.now.leaves (ap (λ d. d.leaves) c.self.view_is) c.args.place c.requires.leaf c.index_mut-leaf.result.now c.index_mut-leaf.ensures.value _ c.split-upper.new.self c.split-upper.result (length c.index_mut-leaf.result.now / 2) grown c.split-upper.ensures.lower c.split-upper.ensures.upper
