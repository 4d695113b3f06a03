use Rattle.std.proofs.Common.{arith}
use Rattle.omap_pages.proofs.FlatLemmas.{front_and_leaf}
use Rattle.omap_pages.proofs.leaves.count_rows.Goals as goal

pub overflow_add-count : goal.overflow_add-count
overflow_add-count c = omega (arith, front_and_leaf c.args.leaves.now c.loop-leaf.leaf-index c.leaf-item.result c.loop-leaf-test.true c.leaf-item.is)
