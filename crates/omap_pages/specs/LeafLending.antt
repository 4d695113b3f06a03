-- What a leaf, and the leaves, are once the borrow of a row has ended.
use Rattle.std.specs.Prelude.{ℕ, List, slice_set}
use Rattle.std.specs.Borrow.{Fml, MutBor, Lends}
use Rattle.omap_pages.specs.Cells.{Cell, Cells}
use Rattle.omap_pages.specs.contracts.leaf.Leaf as leaf
use Rattle.omap_pages.specs.contracts.row.Row as row

abbrev pub LendsRow : MutBor Cells → ℕ → MutBor (List ℕ × Cell) → Fml
LendsRow s at r = Lends leaf.the_row row.the_row s r (slice_set s.now at)
