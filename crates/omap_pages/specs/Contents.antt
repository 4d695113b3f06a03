-- What an ordered map contains: its rows, the room of each, and how many spare rows it has ready.
use Rattle.std.specs.Prelude.{◌≡◌, ◌≢◌, ℕ, ◌≤◌, false, List, unwrap_or}
use Rattle.std.specs.FinMap.Entries.{find}
use Rattle.omap_pages.specs.Rows.{Rows, key_cmp, is_within, IsInOrder}

pub record Contents : Type 0 where
  pub rows : Rows
  -- at each key of a row, how many bytes its value can have with no memory taken
  pub rooms : List (List ℕ × ℕ)
  pub spare : ℕ

-- the room of the row at the key; 0 where there is none
abbrev pub room_at : List (List ℕ × ℕ) → List ℕ → ℕ
room_at rooms key = unwrap_or (find key_cmp key rooms) 0

-- no room is lowered
abbrev pub KeepsRooms : Contents → Contents → Type 0
KeepsRooms old new = (q : List ℕ) → room_at old.rooms q ≤ room_at new.rooms q

-- no room is lowered but the key's
abbrev pub KeepsOtherRooms : Contents → Contents → List ℕ → Type 0
KeepsOtherRooms old new key = (q : List ℕ) → q ≢ key → room_at old.rooms q ≤ room_at new.rooms q

-- no room of a key outside the range is lowered
abbrev pub KeepsRoomsOutside : Contents → Contents → List ℕ → List ℕ → Type 0
KeepsRoomsOutside old new from to = (q : List ℕ) → is_within from to q ≡ false → room_at old.rooms q ≤ room_at new.rooms q

-- The rows, which are in order, are what they were. No room is lowered, and there are no fewer spare rows.
pub record Readies (old new : Contents) : Type 0 where
  pub rows : new.rows ≡ old.rows
  pub rooms : KeepsRooms old new
  pub spare : old.spare ≤ new.spare
  pub in_order : IsInOrder new.rows
