-- What an actor's own swaps did to rows: numbers that they set and cleared, and rows that they took away.
use Rattle.std.specs.Prelude.{◌≡◌, ℕ, ◌+◌, ◌≤◌, true, List, Option, Some}
use Rattle.object_words.specs.declared.bucket.Bucket.{Bucket}
use Rattle.realm_model.specs.Facts.{Home, Instance}
use Rattle.realm_model.specs.Phases.{OwnNumber, OwnWork}
use Rattle.index_law.specs.Tables.{Rows, Instances, Stands}

-- no row of the zone names the instance
abbrev pub IsUnnamed : Rows → ℕ → ℕ → ℕ → Type 0
IsUnnamed rows zone container number = (name : List ℕ) (row : Bucket) → rows zone name ≡ Some row → row.id ≡ container → row.instance ≡ number → ⊥

-- a number that was set is over, or the next that is; and the row that names the instance gave it
pub record IsBegun (instances : Instances) (rows : Rows) (zone container number n : ℕ) : Type 0 where
  pub instance : Instance
  pub placed : instances zone container number ≡ Some instance
  pub low : 1 ≤ n
  pub high : n ≤ instance.over + 1
  pub given : (name : List ℕ) (row : Bucket) → rows zone name ≡ Some row → row.id ≡ container → row.instance ≡ number → n ≤ row.number

-- a number that was cleared is over
pub record IsCleared (instances : Instances) (zone container number n : ℕ) : Type 0 where
  pub instance : Instance
  pub placed : instances zone container number ≡ Some instance
  pub over : n ≤ instance.over

-- an instance whose row was taken away is in no row any more, and its container does not stand
pub record IsRemoved (homes : ℕ → Option Home) (instances : Instances) (rows : Rows) (zone container number : ℕ) : Type 0 where
  pub instance : Instance
  pub placed : instances zone container number ≡ Some instance
  pub unnamed : IsUnnamed rows zone container number
  pub fallen : Stands homes rows container → ⊥

pub record WorkHolds (homes : ℕ → Option Home) (instances : Instances) (rows : Rows) (work : ℕ → ℕ → ℕ → OwnWork) : Type 0 where
  pub begun : (zone container number n : ℕ) (own : OwnNumber) → (work zone container number).begun n ≡ Some own → IsBegun instances rows zone container number n
  pub cleared : (zone container number n : ℕ) → (work zone container number).cleared n ≡ true → IsCleared instances zone container number n
  pub removed : (zone container number shards : ℕ) → (work zone container number).removed ≡ Some shards → IsRemoved homes instances rows zone container number
