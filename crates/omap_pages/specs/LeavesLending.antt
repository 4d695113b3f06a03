-- What the leaves are once the borrow of a row has ended.
use Rattle.std.specs.Prelude.{ℕ, List}
use Rattle.std.specs.Borrow.{Fml, MutBor, Lends}
use Rattle.omap_pages.specs.Cells.{Cell}
use Rattle.omap_pages.specs.Leaves.{Directory, with_row_at}
use Rattle.omap_pages.specs.declared.place.Place.{Place}
use Rattle.omap_pages.specs.contracts.leaves.Leaves as leaves
use Rattle.omap_pages.specs.contracts.row.Row as row

abbrev pub LendsRowAt : MutBor Directory → Place → MutBor (List ℕ × Cell) → Fml
LendsRowAt s place r = Lends leaves.the_row row.the_row s r (λ w. record s.now { leaves = with_row_at s.now.leaves place w })
