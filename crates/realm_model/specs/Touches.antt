-- Which object a touch names, and what it leaves of the others.
use Rattle.std.specs.Prelude.{◌≡◌, ℕ, ◌==◌, ◌&&◌, Bool, true, false}
use Rattle.rgw_types.specs.declared.pool_key.Key.{Key}
use Rattle.object_words.specs.Keys.{is_key}
use Rattle.realm_model.specs.States.{State, Touch, at_root, at_shard, at_head, at_tail, at_changes}
use Rattle.realm_model.specs.declared.op.Op.{Op}
use Rattle.realm_model.specs.declared.op.Op.TheVariants.{BucketRead, AccountPage, BucketPage, Page, Stats, HeadRead, TailRead}

-- the root of the zone is touched
abbrev pub is_at_root : Touch → ℕ → Bool
is_at_root (at_root zone root) z = zone == z
is_at_root touch z = false

-- the shard is touched
abbrev pub is_at_shard : Touch → ℕ → Key → Bool
is_at_shard (at_shard zone key shard) z k = zone == z && is_key key k
is_at_shard touch z k = false

-- the head is touched
abbrev pub is_at_head : Touch → ℕ → Key → Bool
is_at_head (at_head zone key head) z k = zone == z && is_key key k
is_at_head touch z k = false

-- the tail is touched
abbrev pub is_at_tail : Touch → ℕ → Key → Bool
is_at_tail (at_tail zone key tail) z k = zone == z && is_key key k
is_at_tail touch z k = false

-- the data log of the zone is touched
abbrev pub is_at_changes : Touch → ℕ → Bool
is_at_changes (at_changes zone log) z = zone == z
is_at_changes touch z = false

-- the touch names an object of the zone whose bytes lie in frames
abbrev pub is_at_bytes : Touch → ℕ → Bool
is_at_bytes (at_head zone key head) z = zone == z
is_at_bytes (at_tail zone key tail) z = zone == z
is_at_bytes touch z = false

-- every object but the one that is touched stays, and so do the number of events and the clock
pub record KeepsOthers (touch : Touch) (old new : State) : Type 0 where
  pub root : (zone : ℕ) → is_at_root touch zone ≡ false → new.root zone ≡ old.root zone
  pub shards : (zone : ℕ) (key : Key) → is_at_shard touch zone key ≡ false → new.shards zone key ≡ old.shards zone key
  pub heads : (zone : ℕ) (key : Key) → is_at_head touch zone key ≡ false → new.heads zone key ≡ old.heads zone key
  pub tails : (zone : ℕ) (key : Key) → is_at_tail touch zone key ≡ false → new.tails zone key ≡ old.tails zone key
  pub changes : (zone : ℕ) → is_at_changes touch zone ≡ false → new.changes zone ≡ old.changes zone
  pub free : (zone : ℕ) → is_at_bytes touch zone ≡ false → new.free zone ≡ old.free zone
  pub count : new.count ≡ old.count
  pub clock : new.clock ≡ old.clock

-- the operation only reads
abbrev pub is_read : Op → Bool
is_read (BucketRead zone name) = true
is_read (AccountPage zone account after limit) = true
is_read (BucketPage zone after limit) = true
is_read (Page zone key after limit) = true
is_read (Stats zone key) = true
is_read (HeadRead zone container name) = true
is_read (TailRead zone write part start count) = true
is_read op = false
