-- What a spare row takes, and what a row made of one is.
use Rattle.std.specs.Prelude.{◌≡◌, ℕ, ◌+◌, ◌≤◌, List, length}
use Rattle.omap_pages.specs.Cells.{Cell}
use Rattle.omap_pages.specs.declared.spares.TheConstants.{SPARE_KEY_LEN, SPARE_VALUE_LEN}

-- a spare row has room for the key and the value
pub record SuitsSpare (key value : List ℕ) : Type 0 where
  pub key_fits : length key ≤ SPARE_KEY_LEN
  pub value_fits : length value ≤ SPARE_VALUE_LEN

-- the row has the key and the value, and room for it
pub record MadeOfSpare (k v : List ℕ) (row : List ℕ × Cell) : Type 0 where
  pub key : row.0 ≡ k
  pub value : row.1.value ≡ v
  pub fits : length v ≤ row.1.room

-- there is one spare row fewer, and it is this row
pub record TakesSpare (old new : ℕ) (key value : List ℕ) (row : List ℕ × Cell) : Type 0 where
  pub fewer : new + 1 ≡ old
  pub made : MadeOfSpare key value row
