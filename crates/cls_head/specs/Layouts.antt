-- How a head is written into the attributes of its object: what the bytes are, their layout and the kind of the slot in three
-- bytes, then the number of the last change and its stamp, then, of a live object, all but its first bytes. Numbers have their
-- high byte first, and a text comes after its length.
use Rattle.std.specs.Prelude.{◌≡◌, ℕ, ◌^◌, ◌<◌, ◌≤◌, true, List, [], ◌∷◌, ◌++◌, length}
use Rattle.std.specs.List.{AllByRecursion}
use Rattle.std.specs.Str.{IsUtf8}
use Rattle.rgw_types.specs.declared.stamp.Stamp.{Stamp}
use Rattle.rgw_types.specs.Pairs.{is_risen}
use Rattle.rgw_types.specs.Stripes.{IsManifest}
use Rattle.manifest.specs.Layouts.{encoding}
use Rattle.object_words.specs.declared.head.NewHead.{NewHead}
use Rattle.object_words.specs.declared.head.SeenSlot.{SeenSlot}
use Rattle.object_words.specs.declared.head.SeenSlot.TheVariants.{Nothing, Live, Mark}
use Rattle.object_words.specs.Limits.{media_type_limit}
use Rattle.object_words.specs.Heads.{Head}
use Rattle.index_entry.specs.Numbers.{number_bytes}

-- a text after its length
abbrev pub text_bytes : List ℕ → List ℕ
text_bytes text = number_bytes (length text) ++ text

-- pairs of a name and a value
abbrev pub pairs_bytes : List (List ℕ × List ℕ) → List ℕ
pairs_bytes [] = []
pairs_bytes (p ∷ ps) = text_bytes p.0 ++ (text_bytes p.1 ++ pairs_bytes ps)

-- the type and the metadata, after the number of its pairs
abbrev pub texts_bytes : NewHead → List ℕ
texts_bytes new = text_bytes new.kind ++ (number_bytes (length new.meta) ++ pairs_bytes new.meta)

-- a change of this kind, with what comes behind its number and its stamp
abbrev pub change_bytes : ℕ → ℕ → Stamp → List ℕ → List ℕ
change_bytes kind version stamp rest = 235 ∷ 1 ∷ kind ∷ (number_bytes version ++ (number_bytes stamp.micros ++ (stamp.zone ∷ rest)))

-- a live object, without its first bytes
abbrev pub content_bytes : NewHead → List ℕ
content_bytes new = new.etag ++ (encoding new.manifest ++ texts_bytes new)

-- a head that was never changed has no attributes
abbrev pub slot_bytes : ℕ → SeenSlot → List ℕ
slot_bytes version Nothing = []
slot_bytes version (Live new stamp) = change_bytes 1 version stamp (content_bytes new)
slot_bytes version (Mark stamp) = change_bytes 2 version stamp []

-- what a slot says in texts
abbrev pub texts_of : SeenSlot → List ℕ
texts_of (Live new stamp) = texts_bytes new
texts_of slot = []

-- the attributes of a head
abbrev pub head_bytes : Head → List ℕ
head_bytes h = slot_bytes h.version h.slot

-- ---- bounds

-- the bounds of a stamp
abbrev pub IsStamp : Stamp → Type 0
IsStamp stamp = (stamp.micros < 2 ^ 64) × (1 ≤ stamp.zone) × (stamp.zone ≤ 8)

-- a text whose length fits
abbrev pub IsText : List ℕ → Type 0
IsText text = IsUtf8 text × (length text < 2 ^ 64)

abbrev pub IsPair : List ℕ × List ℕ → Type 0
IsPair p = IsText p.0 × IsText p.1

-- the bounds of live content: those of its types
pub record IsContent (new : NewHead) : Type 0 where
  pub manifest : IsManifest new.manifest
  pub kind_high : length new.kind ≤ media_type_limit
  pub kind_text : IsUtf8 new.kind
  pub meta_risen : is_risen new.meta ≡ true
  pub meta_count : length new.meta < 2 ^ 64
  pub meta_texts : AllByRecursion IsPair new.meta
  pub etag_long : length new.etag ≡ 16

-- the bounds of a slot and of the number of its last change; a slot that was never changed has the number 0
abbrev pub IsSlot : ℕ → SeenSlot → Type 0
IsSlot version Nothing = version ≡ 0
IsSlot version (Live new stamp) = (version < 2 ^ 64) × IsStamp stamp × IsContent new
IsSlot version (Mark stamp) = (version < 2 ^ 64) × IsStamp stamp

-- the bounds of a head
abbrev pub IsWritten : Head → Type 0
IsWritten h = IsSlot h.version h.slot
