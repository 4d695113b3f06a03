-- Listings as rows of a map in which each name has what it had at one event of the call (OpenStack Object Storage API v1,
-- show container details and list objects).
use Rattle.std.specs.Prelude.{◌≡◌, ℕ, List, map, take}
use Rattle.std.specs.List.{Contains, filter}
use Rattle.object_words.specs.declared.head.SeenSlot.{SeenSlot}
use Rattle.object_words.specs.Heads.{is_live, row_of}
use Rattle.object_words.specs.Names.{Named, entries}
use Rattle.object_words.specs.Rows.{RowView}
use Rattle.realm_model.specs.Maps.{slot_at, heads}
use Rattle.realm_model.specs.Owns.{OwnEvent}
use Rattle.realm_model.specs.declared.event.Event.{Event}
use Rattle.list_words.specs.declared.command.ListCommand.{ListCommand}
use Rattle.list_words.specs.declared.row.ListedRow.{ListedRow}
use Rattle.list_words.specs.Listings.{rows_of}

-- the live ones, with the rows by which the index shows them
abbrev pub live_of : List (List ℕ × SeenSlot) → List (List ℕ × RowView)
live_of slots = map (λ e. (e.0, row_of e.1)) (filter (λ e. is_live e.1) slots)

-- the live names of a map, by rising name
abbrev pub live_names : Named SeenSlot → List (List ℕ × RowView)
live_names slots = live_of (entries slots)

-- what a container had under a name after so many events of a history
abbrev pub slot_after : List Event → ℕ → ℕ → ℕ → List ℕ → SeenSlot
slot_after history number zone container name = slot_at (heads (take number history) zone container) name

-- the container had this under the name at one of the own events
pub record HadAt (history : List Event) (zone container : ℕ) (name : List ℕ) (slot : SeenSlot) (events : List OwnEvent) : Type 0 where
  pub own : OwnEvent
  pub made : Contains events own
  pub slot_is : slot ≡ slot_after history own.number zone container name

-- the rows are those of a map in which each name has what the container had under it at one of the own events
pub record AreOfMap (history : List Event) (zone : ℕ) (c : ListCommand) (container : ℕ) (rows : List ListedRow) (events : List OwnEvent) : Type 0 where
  pub slots : Named SeenSlot
  pub had : (name : List ℕ) → HadAt history zone container name (slot_at slots name) events
  pub rows_are : rows ≡ rows_of c (live_names slots)
