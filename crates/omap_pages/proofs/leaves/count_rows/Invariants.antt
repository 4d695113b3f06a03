use Rattle.std.proofs.Common.{◌≡◌, length, take}
use Rattle.omap_pages.specs.Leaves.{flat}
use Rattle.omap_pages.proofs.leaves.count_rows.Given as goal

abbrev pub invariant-loop-leaf : goal.invariant-loop-leaf
invariant-loop-leaf l = l.count ≡ length (flat (take l.leaf-index l.leaves))
