-- What each step of a cell tells, and what a pass between two steps is.
use Rattle.std.specs.Prelude.{◌≡◌, ◌≢◌, ℕ, ◌+◌, ◌^◌, ◌<◌, ◌≤◌, true, List, [], ◌∷◌, ◌++◌, length}
use Rattle.atomic_table.specs.Table.{Me, Step, rest}
use Rattle.turn_cell.specs.Histories.{NoneBy, NoneBetween}
use Rattle.turn_cell.specs.declared.knowledge.Knowledge.{Knowledge}
use Rattle.turn_cell.specs.Rule.{resting, holding}

-- The seat has the value, whose history is what the pass had seen and then events of others. It goes on from what the pass found last
pub record Holds {M E F : Type 0} (history : M → List E) (fixed : M → F) (by : E → ℕ) (lawful : F → List E → Type 0) (v : Knowledge E F) (m : M) (w : Knowledge E F) : Type 0 where
  pub between : List E
  pub others : NoneBy by v.number between
  pub later : List E
  pub goes_on : v.seen ++ between ≡ v.found ++ later
  pub view_is : w ≡ holding v.number v.room v.seen (v.seen ++ between) v.fixed
  pub has : history m ≡ v.seen ++ between
  pub same : fixed m ≡ v.fixed
  pub legal : lawful v.fixed (v.seen ++ between)
  pub unused : NoneBetween by (v.number + 1) (v.number + v.room) (v.seen ++ between)

-- the seat has taken the value
abbrev pub HasTaken : {M E F : Type 0} → (M → List E) → (M → F) → (E → ℕ) → (F → List E → Type 0) → Me M (Knowledge E F) → Me M (Knowledge E F) → Type 0
HasTaken {M} history fixed by lawful before after = (m : M) × (after.1 ≡ (0, m) ∷ before.1) × Holds history fixed by lawful before.0 m after.0

module _ {M E F : Type 0} where
  -- the seat took the value where the number was as expected, and nothing changed elsewhere
  abbrev pub Takes : (M → List E) → (M → F) → (E → ℕ) → (F → List E → Type 0) → Step M → Me M (Knowledge E F) → ℕ → Me M (Knowledge E F) → Type 0
  Takes history fixed by lawful s before found after =
      (found ≡ s.first → HasTaken history fixed by lawful before after)
      × (found ≢ s.first → after ≡ before)

  -- the seat gave the value back, and has seen its history
  abbrev pub GivesNext : (M → List E) → Step M → Me M (Knowledge E F) → ℕ → Me M (Knowledge E F) → Type 0
  GivesNext history s before found after =
      (m : M) → before.1 ≡ (0, m) ∷ rest before.1 → after ≡ (resting before.0.number before.0.room (history m) before.0.found before.0.fixed, rest before.1)

  -- the seat gave the value back unchanged, and has seen no more than before
  abbrev pub GivesSame : Step M → Me M (Knowledge E F) → ℕ → Me M (Knowledge E F) → Type 0
  GivesSame s before found after = after ≡ (resting before.0.number before.0.room before.0.seen before.0.found before.0.fixed, rest before.1)

-- The seat of a pass that is not in a step. What it has seen is lawful, and no event there is by one of the numbers that it keeps for splits
pub record IsAtRest {M E F : Type 0} (by : E → ℕ) (lawful : F → List E → Type 0) (number room : ℕ) (me : Me M (Knowledge E F)) : Type 0 where
  pub knows : me.0 ≡ resting number room me.0.seen me.0.found me.0.fixed
  pub empty : me.1 ≡ []
  pub legal : lawful me.0.fixed me.0.seen
  pub unused : NoneBetween by (number + 1) (number + room) me.0.seen
  pub first : 1 ≤ number
  pub some_room : 0 < room
  pub last : number + room ≤ 2 ^ 62 + 1

-- The seat has the value, which has one event more than when it was taken, by the pass
pub record IsChanged {M E F : Type 0} (history : M → List E) (fixed : M → F) (by : E → ℕ) (lawful : F → List E → Type 0) (me : Me M (Knowledge E F)) : Type 0 where
  pub value : M
  pub event : E
  pub out : me.0.has_turn ≡ true
  pub slot : me.1 ≡ (0, value) ∷ []
  pub grows : history value ≡ me.0.found ++ event ∷ []
  pub own : by event ≡ me.0.number
  pub same : fixed value ≡ me.0.fixed
  pub legal : lawful me.0.fixed (history value)
  pub room : length me.0.found < 2 ^ 62

-- The seat has the value, whose history is that with which it was taken
pub record IsUnchanged {M E F : Type 0} (history : M → List E) (fixed : M → F) (lawful : F → List E → Type 0) (me : Me M (Knowledge E F)) : Type 0 where
  pub value : M
  pub out : me.0.has_turn ≡ true
  pub slot : me.1 ≡ (0, value) ∷ []
  pub unchanged : history value ≡ me.0.found
  pub same : fixed value ≡ me.0.fixed
  pub legal : lawful me.0.fixed (history value)
