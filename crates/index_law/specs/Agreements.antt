-- Entry and head agree.
use Rattle.std.specs.Prelude.{◌≡◌, ◌⊎◌, ℕ, ◌<◌, ◌≤◌, true, List, Option, Some}
use Rattle.rgw_types.specs.declared.pool_key.Key.{Key}
use Rattle.object_words.specs.declared.entry.Tag.{Tag}
use Rattle.object_words.specs.Keys.{container_of}
use Rattle.object_words.specs.Tags.{has_tag}
use Rattle.object_words.specs.Entries.{EntryView}
use Rattle.object_words.specs.Heads.{Head}
use Rattle.realm_model.specs.Containers.{Shows}
use Rattle.realm_model.specs.Phases.{OwnChange}
use Rattle.index_law.specs.Tables.{Entries, Heads, Lasts, Instances, IsPlaced}

-- no change under a tag of the list is above the version
abbrev pub Told : (ℕ → Option OwnChange) → ℕ → List Tag → Type 0
Told changes version tags = (tag : ℕ) (change : OwnChange) → has_tag tag tags ≡ true → changes tag ≡ Some change → change.version ≤ version

-- the tag of the last change is in the list
pub record HasLast (last : Option ℕ) (tags : List Tag) : Type 0 where
  pub tag : ℕ
  pub last_is : last ≡ Some tag
  pub there : has_tag tag tags ≡ true

-- the tag of the last change is in the entry, or the entry shows the head
pub record Agreement (changes : ℕ → Option OwnChange) (head : Head) (last : Option ℕ) (e : EntryView) : Type 0 where
  pub agree : HasLast last e.tags ⊎ (Shows e head.slot × Told changes e.version e.tags)
  pub not_above : 0 < head.version → e.version ≤ head.version
  pub same_row : 0 < head.version → e.version ≡ head.version → Shows e head.slot

-- and so each name's entry, in the shard into which it belongs, while its container stands
abbrev pub Agreements : (ℕ → Type 0) → (ℕ → Option OwnChange) → Instances → Entries → Heads → Lasts → Type 0
Agreements stands changes instances entries heads last = (zone : ℕ) (key : Key) (name : List ℕ) → IsPlaced instances zone key name → stands (container_of key)
    → Agreement changes (heads zone (container_of key) name) (last zone (container_of key) name) (entries zone key name)
