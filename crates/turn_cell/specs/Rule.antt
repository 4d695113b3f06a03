-- The rule of a cell: one word, one slot, one history.
use Rattle.std.specs.Prelude.{◌≡◌, ◌≢◌, ℕ, ◌+◌, ◌-◌, ◌*◌, ◌<◌, ◌≤◌, ◌⊎◌, Bool, true, false, List, [], ◌∷◌, ◌++◌, length}
use mathlib.Core.Option.{some, none}
use lib.ListN.{get_elem?}
use Rattle.atomic_table.specs.Table.{State}
use Rattle.turn_cell.specs.Histories.{NoneBy, NoneBetween}
use Rattle.turn_cell.specs.declared.knowledge.Knowledge.{Knowledge}

module _ {E F : Type 0} where
  -- what a pass without the value knows
  abbrev pub resting : ℕ → ℕ → List E → List E → F → Knowledge E F
  resting number room seen found fixed = record { number = number; room = room; seen = seen; found = found; has_turn = false; fixed = fixed }

  -- what a pass with the value knows
  abbrev pub holding : ℕ → ℕ → List E → List E → F → Knowledge E F
  holding number room seen found fixed = record { number = number; room = room; seen = seen; found = found; has_turn = true; fixed = fixed }

  -- the numbers of the one end before those of the other begin
  abbrev pub AreApart : Knowledge E F → Knowledge E F → Type 0
  AreApart v w = (v.number + v.room ≤ w.number) ⊎ (w.number + w.room ≤ v.number)

  -- no two passes have one number
  abbrev pub AllApart : List (Knowledge E F) → Type 0
  AllApart views = (i j : ℕ) (v w : Knowledge E F) → get_elem? views i ≡ some v → get_elem? views j ≡ some w → i ≢ j → AreApart v w

-- The history begins with what the pass has seen, and goes on with events of others. It begins with what the pass found last, which is all of it while the pass has the value. No event is by one of the numbers that it keeps for splits
pub record Knows {E F : Type 0} (by : E → ℕ) (fixed : F) (log : List E) (is_out : Bool) (holder seat : ℕ) (v : Knowledge E F) : Type 0 where
  pub rest : List E
  pub begins : log ≡ v.seen ++ rest
  pub others : NoneBy by v.number rest
  pub later : List E
  pub found_before : log ≡ v.found ++ later
  pub unused : NoneBetween by (v.number + 1) (v.number + v.room) log
  pub some_room : 0 < v.room
  pub same : v.fixed ≡ fixed
  pub turn : v.has_turn ≡ true → (is_out ≡ true) × (seat ≡ holder) × (log ≡ v.found)

abbrev pub bit : Bool → ℕ
bit true = 1
bit false = 0

-- twice the number of events since the cell was made, and one more while the value is out
abbrev pub word_of : ℕ → ℕ → Bool → ℕ
word_of before now is_out = 2 * (now - before) + bit is_out

-- There is one history, which is lawful. The value at home has it
pub record HasOneHistory {M E F : Type 0} (history : M → List E) (fixed : M → F) (by : E → ℕ) (lawful : F → List E → Type 0) (first : M) (s : State M (Knowledge E F)) : Type 0 where
  pub log : List E
  pub is_out : Bool
  pub holder : ℕ
  pub longer : length (history first) ≤ length log
  pub words : s.words ≡ word_of (length (history first)) (length log) is_out ∷ []
  pub legal : lawful (fixed first) log
  pub home : is_out ≡ false → (m : M) × (s.homes ≡ some m ∷ []) × (history m ≡ log) × (fixed m ≡ fixed first)
  pub away : is_out ≡ true → s.homes ≡ none ∷ []
  pub each : (seat : ℕ) (v : Knowledge E F) → get_elem? s.views seat ≡ some v → Knows by (fixed first) log is_out holder seat v
  pub apart : AllApart s.views
