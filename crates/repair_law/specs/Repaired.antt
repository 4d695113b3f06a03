-- When a repair settles a container: changes that are under way in its shards, and what others do meanwhile (developer
-- documents of the bucket index: pending operations).
use Rattle.std.specs.Prelude.{◌≡◌, ℕ, ◌≤◌, ◌<◌, ◌==◌, ◌&&◌, Bool, false, List, [], bytes_eq, Some}
use Rattle.std.specs.List.{AllByRecursion}
use Rattle.object_words.specs.declared.bucket.Bucket.{Bucket}
use Rattle.object_words.specs.declared.entry.Tag.{Tag}
use Rattle.object_words.specs.declared.shard.Hold.TheVariants.{Free}
use Rattle.object_words.specs.Keys.{shard_key}
use Rattle.object_words.specs.Shards.{Shard}
use Rattle.object_words.specs.Names.{at}
use Rattle.realm_model.specs.Accounts.{has_shard}
use Rattle.realm_model.specs.Containers.{entry_in}
use Rattle.realm_model.specs.Owns.{OwnEvent}
use Rattle.realm_model.specs.Phases.{ActorId}
use Rattle.realm_model.specs.States.{State}
use Rattle.realm_model.specs.Worlds.{same_actor, actor_of}
use Rattle.realm_model.specs.declared.op.Op.{Op}
use Rattle.realm_model.specs.declared.op.Op.TheVariants.{BucketSwap, ShardMake, Prepare, Complete, Cancel, Suggest, CloseShard, Release, Shut}
use Rattle.realm_model.specs.declared.event.Event.{Event}

-- ---- changes under way

-- the changes of a name that are under way, in the shard of this number of the row
abbrev pub tags_in : State → ℕ → Bucket → ℕ → List ℕ → List Tag
tags_in st zone row number name = (entry_in (st.shards zone (shard_key row.id row.instance number)) name).tags

-- no change is under way in the shards that the row names
abbrev pub HasNoTags : State → ℕ → Bucket → Type 0
HasNoTags st zone row = (number : ℕ) (name : List ℕ) → number < row.shards → tags_in st zone row number name ≡ []

-- the clock has come to the change's deadline
abbrev pub IsOverdue : ℕ → Tag → Type 0
IsOverdue clock t = t.deadline ≤ clock

-- the zone has this row under the name, each change under way in the shards that the row names is overdue at this clock, and
-- no number holds one of them
pub record IsDue (st : State) (clock : ℕ) (zone : ℕ) (bucket : List ℕ) (row : Bucket) : Type 0 where
  pub kept : at (st.root zone).buckets bucket ≡ Some row
  pub overdue : (number : ℕ) (name : List ℕ) → number < row.shards → AllByRecursion (IsOverdue clock) (tags_in st zone row number name)
  -- nothing holds a shard that the row names
  pub free : (number : ℕ) (s : Shard) → number < row.shards → st.shards zone (shard_key row.id row.instance number) ≡ Some s → s.hold ≡ Free

-- each of the own events comes when the clock has come so far
abbrev pub ComeFrom : ℕ → List OwnEvent → Type 0
ComeFrom clock events = AllByRecursion (λ e. clock ≤ e.clock) events

-- ---- what others do meanwhile

-- the operation may change the row under the name in the zone, or a shard that the row names
abbrev pub may_change : ℕ → List ℕ → Bucket → Op → Bool
may_change zone bucket row (BucketSwap z name expected new) = z == zone && bytes_eq name bucket
may_change zone bucket row (ShardMake z key) = z == zone && has_shard key row
may_change zone bucket row (Prepare z key name) = z == zone && has_shard key row
may_change zone bucket row (Complete z key name tag version shown) = z == zone && has_shard key row
may_change zone bucket row (Cancel z key name tag) = z == zone && has_shard key row
may_change zone bucket row (Suggest z key name revision seen version shown) = z == zone && has_shard key row
may_change zone bucket row (CloseShard z key id force) = z == zone && has_shard key row
may_change zone bucket row (Release z key id) = z == zone && has_shard key row
may_change zone bucket row (Shut z key) = z == zone && has_shard key row
may_change zone bucket row op = false

-- of the events none by another actor may change the row or its shards
abbrev pub IsLeftAlone : ActorId → ℕ → List ℕ → Bucket → List Event → Type 0
IsLeftAlone actor zone bucket row events =
    AllByRecursion (λ e. same_actor actor (actor_of e) ≡ false → may_change zone bucket row e.op ≡ false) events
