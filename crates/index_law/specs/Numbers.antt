-- Numbers are below the next: versions, revisions, tags, ids and instances are at most the number of events.
use Rattle.std.specs.Prelude.{◌≡◌, ℕ, ◌≤◌, ◌^◌, List, Option, Some}
use Rattle.rgw_types.specs.declared.pool_key.Key.{Key}
use Rattle.object_words.specs.Entries.{EntryView}
use Rattle.realm_model.specs.Facts.{TagNote, Home, Instance}
use Rattle.realm_model.specs.Phases.{ActorId, FirstEvent, Phase}
use Rattle.index_law.specs.Tables.{Entries, Heads, Notes, Instances}

-- an entry with numbers that were given
abbrev pub IsNumbered : ℕ → EntryView → Type 0
IsNumbered count e = (e.version ≤ count) × (e.revision ≤ count)

pub record Numbers (count clock : ℕ) (entries : Entries) (heads : Heads) (tags : Notes) (homes : ℕ → Option Home) (instances : Instances) (by : ℕ → ActorId) (phases : ActorId → Phase) : Type 0 where
  -- no moment that counts is later than the end of the year 9999
  pub early : clock ≤ 2 ^ 58
  pub entries_below : (zone : ℕ) (key : Key) (name : List ℕ) → IsNumbered count (entries zone key name)
  pub heads_below : (zone container : ℕ) (name : List ℕ) → (heads zone container name).version ≤ count
  pub tags_below : (tag : ℕ) (note : TagNote) → tags tag ≡ Some note → tag ≤ count
  pub homes_below : (container : ℕ) (home : Home) → homes container ≡ Some home → (container ≤ count) × (home.at ≤ count)
  pub instances_below : (zone container number : ℕ) (instance : Instance) → instances zone container number ≡ Some instance → number ≤ count
  -- no two actors have one first event
  pub firsts_below : (actor : ActorId) (first : FirstEvent) → (phases actor).first ≡ Some first → (first.number ≤ count) × (by first.number ≡ actor)
