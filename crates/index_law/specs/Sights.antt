-- What was seen of entries and heads: a suggestion from it is safe.
use Rattle.std.specs.Prelude.{◌≡◌, ◌⊎◌, ℕ, ◌<◌, ◌≤◌, true, List, Option, Some}
use Rattle.rgw_types.specs.declared.pool_key.Key.{Key}
use Rattle.object_words.specs.Keys.{container_of}
use Rattle.object_words.specs.Tags.{has_tag, has_due}
use Rattle.object_words.specs.Entries.{EntryView}
use Rattle.object_words.specs.Heads.{Head, row_of}
use Rattle.realm_model.specs.Facts.{TagNote}
use Rattle.realm_model.specs.Phases.{ActorId, OwnChange, Sighting, Phase}
use Rattle.index_law.specs.Tables.{Entries, Heads, Notes, Lasts}

-- the head is the one that was read
pub record Still (head : Head) (read : OwnChange) : Type 0 where
  pub row_is : read.row ≡ row_of head.slot
  pub version_is : 0 < head.version → read.version ≡ head.version

-- the head changed since, under a tag that was not due: it is in the entry, or the entry has a version that is not below
-- the one that was read
pub record Later (tags : Notes) (head : Head) (last : Option ℕ) (e : EntryView) (moment version : ℕ) : Type 0 where
  pub above : version < head.version
  pub tag : ℕ
  pub last_is : last ≡ Some tag
  pub note : TagNote
  pub there : tags tag ≡ Some note
  pub late : moment < note.deadline
  pub stays : (has_tag tag e.tags ≡ true) ⊎ (version ≤ e.version)

-- an entry was seen at a moment; and while its container stands and a tag is there that was due then, a suggestion of what the
-- head showed is safe
pub record IsSafe (stands : Type 0) (count clock : ℕ) (tags : Notes) (head : Head) (last : Option ℕ) (e : EntryView) (s : Sighting) : Type 0 where
  pub past : s.moment ≤ clock
  pub read_below : (read : OwnChange) → s.head ≡ Some read → read.version ≤ count
  pub safe : stands → has_due s.moment e.tags ≡ true → (read : OwnChange) → s.head ≡ Some read → Still head read ⊎ Later tags head last e s.moment read.version

abbrev pub Sights : (ℕ → Type 0) → ℕ → ℕ → Notes → Entries → Heads → Lasts → (ActorId → Phase) → Type 0
Sights stands count clock tags entries heads last phases = (actor : ActorId) (zone : ℕ) (key : Key) (name : List ℕ) (s : Sighting) → (phases actor).seen zone key name ≡ Some s
    → IsSafe (stands (container_of key)) count clock tags (heads zone (container_of key) name) (last zone (container_of key) name) (entries zone key name) s
