-- The shards of rows are there, and a shard keeps no entry without a name or of which nothing is left.
use Rattle.std.specs.Prelude.{◌≡◌, ℕ, ◌<◌, ◌≤◌, Bool, true, false, List, Option, Some, None}
use Rattle.std.specs.List.{AllByRecursion}
use Rattle.rgw_types.specs.declared.pool_key.Key.{Key}
use Rattle.object_words.specs.declared.bucket.Bucket.{Bucket}
use Rattle.object_words.specs.declared.shard.Fate.TheVariants.{Serving}
use Rattle.object_words.specs.declared.shard.Hold.TheVariants.{Free}
use Rattle.object_words.specs.Keys.{shard_key}
use Rattle.object_words.specs.Limits.{is_name}
use Rattle.object_words.specs.Names.{at, entries}
use Rattle.object_words.specs.Entries.{EntryView, is_kept}
use Rattle.object_words.specs.Shards.{Shard}
use Rattle.realm_model.specs.Needs.{object_limit}
use Rattle.realm_model.specs.Phases.{ActorId, FirstEvent, RowRead, Phase}
use Rattle.realm_model.specs.declared.op.Op.{Op}
use Rattle.realm_model.specs.declared.op.Op.TheVariants.{CloseShard, Shut}
use Rattle.realm_model.specs.declared.event.Event.{Event}
use Rattle.index_law.specs.Tables.{Rows}

-- an entry that a shard keeps has a name within the bounds of names, changed, and has a row that exists or a tag
pub record IsHeld (name : List ℕ) (e : EntryView) : Type 0 where
  pub named : is_name object_limit name ≡ true
  pub revision : 1 ≤ e.revision
  pub kept : is_kept e ≡ true

-- and so each entry of a shard
abbrev pub HoldsEntries : Shard → Type 0
HoldsEntries s = (name : List ℕ) (e : EntryView) → at s.entries name ≡ Some e → IsHeld name e

-- the shard takes changes: it was not closed, and nothing holds it
pub record IsServing (s : Shard) : Type 0 where
  pub fate : s.fate ≡ Serving
  pub hold : s.hold ≡ Free

-- the shard was made
pub record IsMade (shards : ℕ → Key → Option Shard) (zone : ℕ) (key : Key) : Type 0 where
  pub shard : Shard
  pub there : shards zone key ≡ Some shard

-- so are the shards of a row
abbrev pub HasShards : (ℕ → Key → Option Shard) → ℕ → Bucket → Type 0
HasShards shards zone row = (number : ℕ) → number < row.shards → IsMade shards zone (shard_key row.id row.instance number)

-- and those of a row that an actor read
abbrev pub ReadHasShards : (ℕ → Key → Option Shard) → ℕ → List ℕ × RowRead → Type 0
ReadHasShards shards zone e = (row : Bucket) → (e.1).row ≡ Some row → HasShards shards zone row

-- the operation closes a shard to writers, or for good
abbrev pub closes : Op → Bool
closes (CloseShard zone key id force) = true
closes (Shut zone key) = true
closes op = false

-- none of the events does
abbrev pub NoneCloses : List Event → Type 0
NoneCloses events = AllByRecursion (λ e. closes e.op ≡ false) events

pub record ShardsServe (shards : ℕ → Key → Option Shard) (rows : Rows) (phases : ActorId → Phase) : Type 0 where
  pub held : (zone : ℕ) (key : Key) (s : Shard) → shards zone key ≡ Some s → HoldsEntries s
  -- own shards were made
  pub own_made : (actor : ActorId) (zone container number : ℕ) (first : FirstEvent) → (phases actor).first ≡ Some first → number < ((phases actor).shards zone container).made → IsMade shards zone (shard_key container first.number number)
  pub none_made : (actor : ActorId) (zone container : ℕ) → (phases actor).first ≡ None → ((phases actor).shards zone container).made ≡ 0
  pub of_rows : (zone : ℕ) (name : List ℕ) (row : Bucket) → rows zone name ≡ Some row → HasShards shards zone row
  pub of_reads : (actor : ActorId) (zone : ℕ) → AllByRecursion (ReadHasShards shards zone) (entries ((phases actor).rows zone))
