-- What a head shows of a slot.
use Rattle.std.specs.Prelude.{◌≡◌, ℕ, List, ◌++◌, length}
use Rattle.rgw_model.specs.declared.slot.Content.{Content}
use Rattle.rgw_model.specs.declared.slot.Slot.{Slot}
use Rattle.rgw_model.specs.declared.slot.Slot.TheVariants as Slots
use Rattle.manifest.specs.Ranges.{part_size}
use Rattle.object_words.specs.declared.head.NewHead.{NewHead}
use Rattle.object_words.specs.declared.head.SeenSlot.{SeenSlot}
use Rattle.object_words.specs.declared.head.SeenSlot.TheVariants.{Nothing, Live, Mark}

-- the content with these bytes and the head's attributes
abbrev pub content_with : NewHead → List ℕ → Content
content_with new bytes = record { bytes = bytes; kind = new.kind; meta = new.meta; etag = new.etag }

-- there are as many bytes as the head's manifest says, and the head has the first part of them
pub record HasParts (new : NewHead) (bytes : List ℕ) : Type 0 where
  pub size : length bytes ≡ new.manifest.size
  pub first : length new.first ≡ part_size new.manifest 0
  pub rest : List ℕ
  pub begins : bytes ≡ new.first ++ rest

-- the slot, with all its bytes, is the one that the head shows
abbrev pub IsShownAs : Slot → SeenSlot → Type 0
IsShownAs whole Nothing = whole ≡ Slots.Nothing
IsShownAs whole (Live new stamp) = (bytes : List ℕ) × HasParts new bytes × (whole ≡ Slots.Live (content_with new bytes) stamp)
IsShownAs whole (Mark stamp) = whole ≡ Slots.Mark stamp
