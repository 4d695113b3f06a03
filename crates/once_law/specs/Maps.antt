-- What one zone of a realm has: the rows of its containers, and the slots of their bucket maps.
use Rattle.std.specs.Prelude.{ℕ, List, Option}
use Rattle.rgw_model.specs.declared.slot.Slot.{Slot}
use Rattle.rgw_model.specs.declared.slot.Slot.TheVariants.{Nothing}
use Rattle.object_words.specs.declared.bucket.Bucket.{Bucket}
use Rattle.object_words.specs.Keys.{put}
use Rattle.object_words.specs.Names.{at}
use Rattle.realm_model.specs.Accounts.{slot_now}
use Rattle.realm_model.specs.Histories.{world_of, state_of}
use Rattle.realm_model.specs.Maps.{heads}
use Rattle.realm_model.specs.Settings.{SettingsView}
use Rattle.realm_model.specs.Worlds.{put_name}
use Rattle.realm_model.specs.declared.event.Event.{Event}

-- by the name of a container
abbrev pub Rows : Type 0
Rows = List ℕ → Option Bucket

-- by the id of a container and the name of an object
abbrev pub Slots : Type 0
Slots = ℕ → List ℕ → Slot

-- the rows that a history leaves in a zone
abbrev pub rows_in : SettingsView → List Event → ℕ → Rows
rows_in settings history zone name = at ((state_of settings history).root zone).buckets name

-- the slots that it leaves there, with all their bytes
abbrev pub slots_in : SettingsView → List Event → ℕ → Slots
slots_in settings history zone container name =
    slot_now (heads history) (world_of settings history).stripes.made zone container name

-- no name of a container has anything
abbrev pub no_slots : Slots
no_slots container name = Nothing

-- another slot at one name
abbrev pub with_slot : Slots → ℕ → List ℕ → Slot → Slots
with_slot slots container name slot = put slots container (put_name (slots container) name slot)
