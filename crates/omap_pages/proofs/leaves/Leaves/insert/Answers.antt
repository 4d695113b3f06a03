use Rattle.std.proofs.Common.{ap}
use Rattle.omap_pages.proofs.LeavesLemmas.{insert_here}
use Rattle.omap_pages.proofs.leaves.Leaves.insert.Goals as goal

pub returns-clause-leaves : goal.returns-clause-leaves
returns-clause-leaves c = insert_here c.self.inside.leaves.items c.args.self.now.leaves (ap (λ d. d.leaves) c.self.view_is) c.args.place c.requires.leaf c.index_mut-leaf.result.now c.index_mut-leaf.ensures.value c.insert.new.self c.args.row c.requires.place.row c.insert.ensures
