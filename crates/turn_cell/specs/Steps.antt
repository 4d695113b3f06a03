-- What a step through a pass finds.
use Rattle.std.specs.Prelude.{◌≡◌, ℕ, List, ◌++◌}
use Rattle.turn_cell.specs.Histories.{NoneBy}
use Rattle.turn_cell.specs.Views.{PassView}

-- The history of the cell that a step finds: what the pass had seen, and then events of others. It is lawful, and goes on from what the pass's last step found
pub record IsFound {E F : Type 0} (by : E → ℕ) (lawful : F → List E → Type 0) (before : PassView E F) (found : List E) : Type 0 where
  pub between : List E
  pub others : NoneBy by before.number between
  pub begins : found ≡ before.seen ++ between
  pub later : List E
  pub goes_on : found ≡ before.found ++ later
  pub legal : lawful before.cell.fixed found
