-- What an event never lowers: stamps, versions and revisions.
use Rattle.std.specs.Prelude.{◌≡◌, ℕ, ◌<◌, ◌≤◌, ◌⊎◌, List, Option, Some, None, IfSome, IsSomeAnd}
use Rattle.rgw_types.specs.declared.pool_key.Key.{Key}
use Rattle.rgw_types.specs.Stamps.{IsEarlier}
use Rattle.object_words.specs.declared.bucket.Bucket.{Bucket}
use Rattle.object_words.specs.Names.{at}
use Rattle.object_words.specs.Entries.{EntryView, entry_of}
use Rattle.object_words.specs.Shards.{Shard}
use Rattle.object_words.specs.Heads.{Head, seen_stamp}
use Rattle.object_words.specs.Roots.{version_of}
use Rattle.realm_model.specs.States.{State}

-- a head changed: it has a stamp, later than the one that it had, and a greater version
pub record HeadRises (old new : Head) : Type 0 where
  pub version : old.version < new.version
  pub stamp : IsSomeAnd (seen_stamp new.slot) (λ now. IfSome (seen_stamp old.slot) (λ before. IsEarlier before now))

-- an entry that is there has a version and a revision that are not below those of the entry before
abbrev pub EntryRises : Option EntryView → Option EntryView → Type 0
EntryRises old new = IfSome new (λ e. ((entry_of old).version ≤ e.version) × ((entry_of old).revision ≤ e.revision))

-- a row that is there has a version that is not below that of the row before
abbrev pub RowRises : Option Bucket → Option Bucket → Type 0
RowRises old new = IfSome new (λ row. version_of old ≤ row.version)

-- the entry of a name in a shard, if there is one
abbrev pub found_in : Option Shard → List ℕ → Option EntryView
found_in None name = None
found_in (Some s) name = at s.entries name

-- no object falls behind what it was
pub record Rises (old new : State) : Type 0 where
  pub heads : (zone : ℕ) (key : Key) → (new.heads zone key ≡ old.heads zone key) ⊎ HeadRises (old.heads zone key) (new.heads zone key)
  pub entries : (zone : ℕ) (key : Key) (name : List ℕ) → EntryRises (found_in (old.shards zone key) name) (found_in (new.shards zone key) name)
  pub rows : (zone : ℕ) (name : List ℕ) → RowRises (at (old.root zone).buckets name) (at (new.root zone).buckets name)
