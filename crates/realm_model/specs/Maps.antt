-- The bucket maps of a history: for each zone and container the slots that its head changes left at each name. No index
-- and no log is looked at.
use Rattle.std.specs.Prelude.{ℕ, List, [], ◌∷◌, ◌++◌, flat_map, unwrap_or, Option}
use Rattle.std.specs.List.{range_with_len}
use Rattle.rgw_model.specs.declared.slot.Slot.{Slot}
use Rattle.rgw_model.specs.declared.slot.Slot.TheVariants as Slots
use Rattle.rgw_model.specs.declared.slot.Content.{Content}
use Rattle.rgw_types.specs.Stripes.{tails_of}
use Rattle.object_words.specs.declared.head.NewHead.{NewHead}
use Rattle.object_words.specs.declared.head.SeenSlot.{SeenSlot}
use Rattle.object_words.specs.declared.head.SeenSlot.TheVariants.{Nothing, Live, Mark}
use Rattle.object_words.specs.Keys.{put}
use Rattle.object_words.specs.Names.{Named, none, at, with_name}
use Rattle.realm_model.specs.declared.op.Op.{Op}
use Rattle.realm_model.specs.declared.op.Op.TheVariants.{HeadWrite}
use Rattle.realm_model.specs.declared.event.Reply.{Reply}
use Rattle.realm_model.specs.declared.event.Reply.TheVariants.{Changed}
use Rattle.realm_model.specs.declared.event.Event.{Event}

-- by zone and container
abbrev pub Maps : Type 0
Maps = ℕ → ℕ → Named SeenSlot

-- no name has anything
abbrev pub no_maps : Maps
no_maps zone container = none

-- a name that is not in the map has nothing
abbrev pub slot_at : Named SeenSlot → List ℕ → SeenSlot
slot_at map name = unwrap_or (at map name) Nothing

-- a slot at one name
abbrev pub with_slot : Maps → ℕ → ℕ → List ℕ → SeenSlot → Maps
with_slot maps zone container name slot = put maps zone (put (maps zone) container (with_name (maps zone container) name slot))

-- what an event leaves of the maps
abbrev pub mapped : Maps → Op → Reply → Maps
mapped maps (HeadWrite zone container name guard new when) (Changed change) = with_slot maps zone container name (Live new change.stamp)
mapped maps op reply = maps

-- what events leave of the maps, one after another
abbrev pub mapped_by : Maps → List Event → Maps
mapped_by maps [] = maps
mapped_by maps (e ∷ es) = mapped_by (mapped maps e.op e.reply) es

-- the slots of a zone's container, by name
abbrev pub heads : List Event → ℕ → ℕ → Named SeenSlot
heads history = mapped_by no_maps history

-- ---- with all bytes

-- the bytes of tails as they were made, by zone, write and part
abbrev pub Made : Type 0
Made = ℕ → ℕ → ℕ → Option (List ℕ)

-- the head's bytes and then those of its tails, in order
abbrev pub whole_bytes : Made → ℕ → NewHead → List ℕ
whole_bytes made zone new =
    new.first ++ flat_map (λ part. unwrap_or (made zone new.manifest.write part) []) (range_with_len 1 (tails_of new.manifest))

-- what is stored under a name, with all its bytes
abbrev pub content_of : Made → ℕ → NewHead → Content
content_of made zone new = record { bytes = whole_bytes made zone new; kind = new.kind; meta = new.meta; etag = new.etag }

-- the slot of the bucket map that a head shows
abbrev pub whole_slot : Made → ℕ → SeenSlot → Slot
whole_slot made zone Nothing = Slots.Nothing
whole_slot made zone (Live new stamp) = Slots.Live (content_of made zone new) stamp
whole_slot made zone (Mark stamp) = Slots.Mark stamp
