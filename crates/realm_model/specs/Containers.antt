-- A container in a zone: its row, the entry of a name, and what the entry shows of the name's slot.
use Rattle.std.specs.Prelude.{◌≡◌, ℕ, ◌-◌, ◌==◌, Bool, List, length, Option, Some, None, is_some, if◌then◌else◌}
use Rattle.rgw_types.specs.declared.pool_key.Key.{Key}
use Rattle.object_words.specs.declared.bucket.Bucket.{Bucket}
use Rattle.object_words.specs.declared.head.SeenSlot.{SeenSlot}
use Rattle.object_words.specs.Keys.{shard_key}
use Rattle.object_words.specs.Names.{at}
use Rattle.object_words.specs.Hashes.{shard_of}
use Rattle.object_words.specs.Entries.{EntryView, no_entry}
use Rattle.object_words.specs.Heads.{row_of}
use Rattle.object_words.specs.Shards.{Shard, entry_at}
use Rattle.realm_model.specs.States.{State}
use Rattle.realm_model.specs.Facts.{Home, RowFacts}

-- a row of this container, not of another of its name
abbrev pub with_id : Option Bucket → ℕ → Option Bucket
with_id None container = None
with_id (Some row) container = if row.id == container then Some row else None

-- the row under the name that zone 1 gave
abbrev pub row_at_home : Option Home → State → ℕ → ℕ → Option Bucket
row_at_home None st zone container = None
row_at_home (Some home) st zone container = with_id (at (st.root zone).buckets home.name) container

-- the row of a container in a zone, which has the name under which zone 1 made it
abbrev pub row_in : RowFacts → State → ℕ → ℕ → Option Bucket
row_in rows st zone container = row_at_home (rows.homes container) st zone container

-- a container stands while zone 1 has its row
abbrev pub is_standing : RowFacts → State → ℕ → Bool
is_standing rows st container = is_some (row_in rows st 1 container)

-- the greatest number that was set in the row and is no longer in progress
abbrev pub over_in : Bucket → ℕ
over_in row = if is_some row.busy then row.number - 1 else row.number

-- the shard in which the row puts a name
abbrev pub key_of_name : Bucket → List ℕ → Key
key_of_name row name = shard_key row.id row.instance (shard_of name row.shards)

-- what a shard has of a name; a shard that was never made has nothing
abbrev pub entry_in : Option Shard → List ℕ → EntryView
entry_in None name = no_entry
entry_in (Some s) name = entry_at s name

-- the entry of a name, in the shard where the row puts it; an absent one counts as one that does not exist
abbrev pub entry_of_name : State → ℕ → Bucket → List ℕ → EntryView
entry_of_name st zone row name = entry_in (st.shards zone (key_of_name row name)) name

-- an entry shows a slot: it has the size, stamp, ETag and type of a live one, and does not exist where the slot is not live
abbrev pub Shows : EntryView → SeenSlot → Type 0
Shows e slot = e.row ≡ row_of slot

-- no change of the name is under way
abbrev pub is_settled : EntryView → Bool
is_settled e = length e.tags == 0
