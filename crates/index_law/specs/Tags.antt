-- Tags are from their prepare, and open tags are in their entry.
use Rattle.std.specs.Prelude.{◌≡◌, ◌⊎◌, ℕ, ◌<◌, true, false, List, Some}
use Rattle.std.specs.List.{AllByRecursion}
use Rattle.rgw_types.specs.declared.pool_key.Key.{Key}
use Rattle.object_words.specs.declared.entry.Tag.{Tag}
use Rattle.object_words.specs.Keys.{container_of}
use Rattle.object_words.specs.Tags.{has_tag}
use Rattle.object_words.specs.Entries.{no_entry}
use Rattle.realm_model.specs.Facts.{TagNote}
use Rattle.realm_model.specs.Needs.{is_pending}
use Rattle.realm_model.specs.Phases.{ActorId, OwnTag, Phase}
use Rattle.index_law.specs.Tables.{Entries, Notes, Instances, IsPlaced}

-- the tag was prepared for this name in this shard, with its deadline
pub record IsNoted (tags : Notes) (zone : ℕ) (key : Key) (name : List ℕ) (t : Tag) : Type 0 where
  pub note : TagNote
  pub there : tags t.tag ≡ Some note
  pub zone_is : note.zone ≡ zone
  pub key_is : note.key ≡ key
  pub name_is : note.name ≡ name
  pub deadline_is : note.deadline ≡ t.deadline

-- what an actor knows of its tag is noted
pub record IsOwn (tags : Notes) (actor : ActorId) (t : OwnTag) : Type 0 where
  pub note : TagNote
  pub there : tags t.guard.tag ≡ Some note
  pub actor_is : note.actor ≡ actor
  pub zone_is : note.zone ≡ t.zone
  pub key_is : note.key ≡ t.key
  pub name_is : note.name ≡ t.name
  pub deadline_is : note.deadline ≡ t.guard.deadline
  pub change_is : note.change ≡ t.change
  pub not_ended : is_pending t.stage ≡ true → note.ended ≡ false

pub record TagsOfPrepare (tags : Notes) (instances : Instances) (entries : Entries) (phases : ActorId → Phase) : Type 0 where
  pub in_entries : (zone : ℕ) (key : Key) (name : List ℕ) → AllByRecursion (IsNoted tags zone key name) (entries zone key name).tags
  -- a tag was prepared in a shard of a row
  pub placed : (tag : ℕ) (note : TagNote) → tags tag ≡ Some note → IsPlaced instances note.zone note.key note.name
  -- a shard that was never in a row has no entry
  pub held : (zone : ℕ) (key : Key) (name : List ℕ) → (entries zone key name ≡ no_entry) ⊎ IsPlaced instances zone key name
  pub own : (actor : ActorId) (t : OwnTag) → (phases actor).tag ≡ Some t → IsOwn tags actor t

-- a tag that was neither completed nor cancelled, and whose life is not over, is in the entry for which it was prepared, while
-- the container stands
abbrev pub OpenTags : (ℕ → Type 0) → ℕ → Notes → Entries → Type 0
OpenTags stands clock tags entries = (tag : ℕ) (note : TagNote) → tags tag ≡ Some note → stands (container_of note.key) → note.ended ≡ false → clock < note.deadline
    → has_tag tag (entries note.zone note.key note.name).tags ≡ true
