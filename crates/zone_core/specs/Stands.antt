-- When the pool of a zone has the objects of a state.
use Rattle.std.specs.Prelude.{◌≡◌, ℕ, true, List, []}
use Rattle.rgw_types.specs.declared.pool_key.Key.{Key}
use Rattle.rgw_types.specs.declared.pool_key.Key.TheVariants.{Root, Head, Tail, Changes}
use Rattle.object_pool.specs.Objects.{PoolView, object_at}
use Rattle.object_words.specs.Keys.{is_shard_key}
use Rattle.class_words.specs.Shards.{IsShardOr}
use Rattle.cls_head.specs.Heads.{IsHead}
use Rattle.cls_head.specs.Tails.{IsTail}
use Rattle.cls_log.specs.LogObjects.{IsLogObject}
use Rattle.cls_record.specs.RootObjects.{IsRoot}
use Rattle.realm_model.specs.Settings.{SettingsView}
use Rattle.realm_model.specs.States.{State}

-- the pool has each object of the zone, and as many free frames as the state says
pub record Stands (settings : SettingsView) (zone : ℕ) (pool : PoolView) (st : State) : Type 0 where
  pub root : IsRoot (object_at pool Root) (st.root zone)
  pub shards : (key : Key) → is_shard_key key ≡ true → IsShardOr (object_at pool key) (st.shards zone key)
  pub heads : (container : ℕ) (name : List ℕ) → IsHead (object_at pool (Head container name)) (st.heads zone (Head container name))
  pub tails : (write part : ℕ) → IsTail (object_at pool (Tail write part)) (st.tails zone (Tail write part))
  pub changes : IsLogObject (object_at pool Changes) (st.changes zone)
  pub frame : pool.frame ≡ settings.frame
  pub free : pool.free ≡ st.free zone

-- the pool of a zone before the first event: all frames are free, and there is no object
abbrev pub new_pool : SettingsView → PoolView
new_pool settings = record { frame = settings.frame; frames = settings.frames; free = settings.frames; slots = [] }
