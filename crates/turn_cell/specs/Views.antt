-- What a cell and a pass mean.
use Rattle.std.specs.Prelude.{ℕ, List}
use Rattle.atomic_table.specs.Seated.{TableId}

-- which cell it is, and what no event changes
pub record CellView (F : Type 0) : Type 0 where
  pub id : TableId
  pub fixed : F

-- The cell that the pass is of, and what it knows of the cell's one history, which begins with each of both: `seen`, up to its own last event, and `found`, which its last step found in the cell. The numbers from `number` to below `number + room` are its own
pub record PassView (E F : Type 0) : Type 0 where
  pub cell : CellView F
  pub number : ℕ
  pub room : ℕ
  pub seen : List E
  pub found : List E
