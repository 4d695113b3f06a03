-- Reads that stay true: an entry with the revision that was seen and a tag that was due then is unchanged.
use Rattle.std.specs.Prelude.{◌≡◌, ℕ, ◌<◌, ◌≤◌, ◌^◌, true, List, Some}
use Rattle.rgw_types.specs.declared.pool_key.Key.{Key}
use Rattle.object_words.specs.Tags.{has_due}
use Rattle.object_words.specs.Entries.{EntryView}
use Rattle.realm_model.specs.Phases.{ActorId, Sighting, Phase}
use Rattle.index_law.specs.Tables.{Entries}

-- while a tag is there that was due at the moment, the revision is not below the one that was seen, and with it the entry is
-- the one that was seen
pub record StaysTrue (e : EntryView) (s : Sighting) : Type 0 where
  pub not_below : s.entry.revision ≤ e.revision
  pub unchanged : e.revision ≡ s.entry.revision → e ≡ s.entry

-- revisions end with 64 bits, so this is said of histories that are not so long
abbrev pub ReadsStay : ℕ → Entries → (ActorId → Phase) → Type 0
ReadsStay count entries phases = (actor : ActorId) (zone : ℕ) (key : Key) (name : List ℕ) (s : Sighting) → (phases actor).seen zone key name ≡ Some s
    → count < 2 ^ 62 → has_due s.moment (entries zone key name).tags ≡ true → StaysTrue (entries zone key name) s
