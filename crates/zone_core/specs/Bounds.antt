-- How large the objects of a zone can be after so many events: what leaves room for one event more.
use Rattle.std.specs.Prelude.{◌≡◌, ℕ, ◌*◌, ◌^◌, ◌<◌, ◌≤◌, List, true, IfSome}
use Rattle.std.specs.List.{AllByRecursion}
use Rattle.rgw_types.specs.declared.pool_key.Key.{Key}
use Rattle.object_words.specs.Keys.{is_shard_key}
use Rattle.object_words.specs.Names.{at}
use Rattle.object_words.specs.Shards.{Shard, byte_count, object_count, sum_over, tag_count}
use Rattle.object_pool.specs.Objects.{PoolView}
use Rattle.realm_model.specs.Settings.{SettingsView}
use Rattle.realm_model.specs.States.{State}
use Rattle.realm_model.specs.declared.op.Op.{Op}
use Rattle.realm_model.specs.declared.op.Op.TheVariants.{Complete, Suggest}
use Rattle.zone_core.specs.Stands.{Stands}

-- after so many events a shard's sums, its last position and the numbers of its tags are at most so great
pub record IsSmallBy (count : ℕ) (s : Shard) : Type 0 where
  pub objects : sum_over object_count s ≤ count
  pub bytes : sum_over byte_count s ≤ count * 2 ^ 64
  pub tags : sum_over tag_count s ≤ count
  pub last : s.log.last ≤ count
  pub below : (name : List ℕ) → IfSome (at s.entries name) (λ e. AllByRecursion (λ t. t.tag ≤ count) e.tags)

-- after so many events the objects of a zone are at most so large
pub record AreSmallBy (count zone : ℕ) (st : State) : Type 0 where
  pub root : (st.root zone).log.last ≤ count
  pub changes : (st.changes zone).last ≤ count
  pub shards : (key : Key) → IfSome (st.shards zone key) (IsSmallBy count)

-- the pool has the zone's objects, and they leave room for one event more
pub record IsReady (settings : SettingsView) (zone : ℕ) (pool : PoolView) (st : State) : Type 0 where
  pub stands : Stands settings zone pool st
  pub small : AreSmallBy st.count zone st
  pub few : st.count < 2 ^ 62

-- it has the objects of some zone, with room for one event more
abbrev pub CanStep : PoolView → Type 0
CanStep pool = (settings : SettingsView) × (zone : ℕ) × (st : State) × IsReady settings zone pool st

-- and the key is that of a shard
abbrev pub IsShardReady : Key → PoolView → Type 0
IsShardReady key pool = (is_shard_key key ≡ true) × CanStep pool

-- the sizes that an operation brings are numbers of 64 bits
abbrev pub FitsOp : Op → Type 0
FitsOp (Complete zone key name tag version row) = row.size < 2 ^ 64
FitsOp (Suggest zone key name revision seen version row) = row.size < 2 ^ 64
FitsOp op = Unit {0}
