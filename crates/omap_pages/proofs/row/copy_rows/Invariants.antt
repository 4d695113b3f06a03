use Rattle.std.proofs.Common.{◌≡◌, ◌++◌, take}
use Rattle.omap_pages.specs.Cells.{values_of}
use Rattle.omap_pages.proofs.row.copy_rows.Given as goal

abbrev pub invariant-loop-row : goal.invariant-loop-row
invariant-loop-row l = l.pairs.items ≡ l.fn.pairs.items ++ values_of (take l.row-index l.rows)
