use Rattle.std.proofs.Common.{◌≡◌, ◌<◌, ◌≤◌, [], ◌++◌, length, drop, get_or}
use Rattle.omap_pages.specs.Cells.{values_of}
use Rattle.omap_pages.specs.Leaves.{flat}
use Rattle.omap_pages.proofs.leaves.Leaves.page.Given as goal

abbrev pub invariant-loop-leaf : goal.invariant-loop-leaf
invariant-loop-leaf l = record {
  rows : l.pairs.items ++ values_of (drop l.skipped (flat (drop l.leaf-index l.leaf-items))) ≡ values_of (drop l.fn.start.row (flat l.leaf-items));
  skipped : l.leaf-index < length l.leaf-items → l.skipped ≤ length (get_or l.leaf-items l.leaf-index []);
  few : length l.pairs.items ≤ l.limit;
}
