use Rattle.std.proofs.Common.{sym, ap, ◌∙◌}
use Rattle.omap_pages.specs.Leaves.{flat}
use Rattle.omap_pages.proofs.LeavesLemmas.{remove_here, remove_leaf}
use Rattle.omap_pages.proofs.leaves.Leaves.remove.Goals as goal

-- the leaf goes with its only row
pub returns-then-len-eq1-clause-leaves : goal.returns-then-len-eq1-clause-leaves
returns-then-len-eq1-clause-leaves c = ap flat c.remove.ensures.items ∙ remove_leaf c.self.inside.leaves.items c.args.self.now.leaves (ap (λ d. d.leaves) c.self.view_is) c.args.place c.requires.leaf c.index_mut-leaf.result.now c.index_mut-leaf.ensures.value c.requires.row (sym c.len.ensures ∙ c.if-len-eq1.true)

pub returns-else-len-eq1-clause-leaves : goal.returns-else-len-eq1-clause-leaves
returns-else-len-eq1-clause-leaves c = remove_here c.self.inside.leaves.items c.args.self.now.leaves (ap (λ d. d.leaves) c.self.view_is) c.args.place c.requires.leaf c.index_mut-leaf.result.now c.index_mut-leaf.ensures.value c.remove-else-len-eq1.new.self c.requires.row c.remove-else-len-eq1.ensures
