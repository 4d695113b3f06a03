-- What the parts of an object are once their rows are given back.
use Rattle.std.specs.Borrow.{Fml, MutBor, Lends}
use Rattle.omap_pages.specs.Contents.{Contents}
use Rattle.omap_pages.specs.contracts.omap.Omap as omap
use Rattle.object_pool.specs.Parts.{Parts}
use Rattle.object_pool.specs.contracts.object.ObjectParts.{the_row}

abbrev pub LendsRows : MutBor Parts → MutBor Contents → Fml
LendsRows s r = Lends the_row omap.the_row s r (λ w. record s.now { rows = w })
