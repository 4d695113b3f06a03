use Rattle.std.proofs.Common.{ap}
use Rattle.omap_pages.proofs.LeavesLemmas.{row_here}
use Rattle.omap_pages.proofs.leaves.Leaves.row.Goals as goal

pub returns : goal.returns
returns c = row_here c.self.inside.leaves.items c.args.self.now.leaves (ap (λ d. d.leaves) c.self.view_is) c.args.place c.requires.leaf c.index.result.now c.index.ensures c.row.result.now c.requires.row c.row.ensures
