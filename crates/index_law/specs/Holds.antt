-- What holds shards: numbers that were set in the rows that name them. A shard of which the row was taken away takes no change
-- any more.
use Rattle.std.specs.Prelude.{◌≡◌, ◌⊎◌, ℕ, ◌+◌, ◌<◌, ◌≤◌, true, List, Option, Some, None}
use Rattle.rgw_types.specs.declared.pool_key.Key.{Key}
use Rattle.object_words.specs.declared.bucket.Bucket.{Bucket}
use Rattle.object_words.specs.declared.bucket.Busy.{Busy}
use Rattle.object_words.specs.declared.shard.Fate.TheVariants as Fates
use Rattle.object_words.specs.declared.shard.Hold.{Hold}
use Rattle.object_words.specs.declared.shard.Hold.TheVariants.{Free, Closing}
use Rattle.object_words.specs.Keys.{shard_key, container_of, instance_of, number_of}
use Rattle.object_words.specs.Names.{at}
use Rattle.object_words.specs.HoldCalls.{hold_number}
use Rattle.object_words.specs.Shards.{Shard}
use Rattle.realm_model.specs.Facts.{Instance}
use Rattle.realm_model.specs.Phases.{ActorId, OwnNumber, Phase}
use Rattle.realm_model.specs.Worlds.{World}
use Rattle.index_law.specs.Tables.{Rows, rows_of, Instances}
use Rattle.index_law.specs.Works.{IsUnnamed}

abbrev pub Pool : Type 0
Pool = ℕ → Key → Option Shard

-- a closing under this number holds the shard
pub record IsClosing (hold : Hold) (most : ℕ) : Type 0 where
  pub number : ℕ
  pub is : hold ≡ Closing number
  pub low : 1 ≤ number
  pub high : number ≤ most

-- nothing holds the shard, or the closing under a number that is over or is the next; and what is fenced is over
pub record IsHeldUpTo (over : ℕ) (s : Shard) : Type 0 where
  pub hold : (s.hold ≡ Free) ⊎ IsClosing s.hold (over + 1)
  pub fence : s.fence ≤ over

-- a shard of an instance that was in no row was not touched by a closing
pub record IsNew (s : Shard) : Type 0 where
  pub hold : s.hold ≡ Free
  pub fence : s.fence ≡ 0

-- the shard was closed for good: its instance was in a row and is no longer
pub record IsShut (instances : Instances) (rows : Rows) (zone : ℕ) (key : Key) (s : Shard) : Type 0 where
  pub fate : s.fate ≡ Fates.Closed
  pub instance : Instance
  pub placed : instances zone (container_of key) (instance_of key) ≡ Some instance
  pub unnamed : IsUnnamed rows zone (container_of key) (instance_of key)

-- the rows of the zone that name the shard's instance gave the number that holds it
abbrev pub IsGiven : Rows → ℕ → Key → Shard → Type 0
IsGiven rows zone key s = (name : List ℕ) (row : Bucket) → rows zone name ≡ Some row → row.id ≡ container_of key → row.instance ≡ instance_of key → hold_number s.hold ≤ row.number

-- the closing under the number holds the shard; in zone 1 no entry is left
pub record IsTaken (o : Option Shard) (zone n : ℕ) : Type 0 where
  pub shard : Shard
  pub there : o ≡ Some shard
  pub hold : shard.hold ≡ Closing n
  pub empty : zone ≡ 1 → (name : List ℕ) → at shard.entries name ≡ None

-- the shard takes no change more: it is closed for good, or held by the number that is not over
pub record IsLeft (o : Option Shard) (over : ℕ) : Type 0 where
  pub shard : Shard
  pub there : o ≡ Some shard
  pub closed : (shard.fate ≡ Fates.Closed) ⊎ (shard.hold ≡ Closing (over + 1))

pub record HoldsStand (instances : Instances) (rows : Rows) (shards : Pool) (phases : ActorId → Phase) : Type 0 where
  pub keyed : (zone : ℕ) (key : Key) (s : Shard) → shards zone key ≡ Some s → key ≡ shard_key (container_of key) (instance_of key) (number_of key)
  pub placed : (zone : ℕ) (key : Key) (s : Shard) (instance : Instance) → shards zone key ≡ Some s → instances zone (container_of key) (instance_of key) ≡ Some instance → IsHeldUpTo instance.over s
  pub new : (zone : ℕ) (key : Key) (s : Shard) → shards zone key ≡ Some s → instances zone (container_of key) (instance_of key) ≡ None → IsNew s
  pub given : (zone : ℕ) (key : Key) (s : Shard) → shards zone key ≡ Some s → IsGiven rows zone key s
  pub fates : (zone : ℕ) (key : Key) (s : Shard) → shards zone key ≡ Some s → (s.fate ≡ Fates.Serving) ⊎ IsShut instances rows zone key s
  -- while the number is in progress, each shard that its actor closed under it is so still
  pub taken : (actor : ActorId) (zone : ℕ) (name : List ℕ) (row : Bucket) (busy : Busy) (own : OwnNumber) (number : ℕ) → rows zone name ≡ Some row → row.busy ≡ Some busy
      → ((phases actor).work zone row.id row.instance).begun busy.number ≡ Some own → own.closing ≡ true → own.closed number ≡ true
      → IsTaken (shards zone (shard_key row.id row.instance number)) zone busy.number
  -- the shards of a row that was taken away
  pub left : (zone container instance : ℕ) (i : Instance) (number : ℕ) → instances zone container instance ≡ Some i → IsUnnamed rows zone container instance → number < i.shards
      → IsLeft (shards zone (shard_key container instance number)) i.over

-- and so in a world
abbrev pub HoldsIn : World → Type 0
HoldsIn w = HoldsStand w.rows.instances (rows_of w.state.root) w.state.shards w.phases
