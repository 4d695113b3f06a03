-- The objects of all zones, and what becomes of them when an event touches one.
use Rattle.std.specs.Prelude.{ℕ, ◌+◌, ◌-◌, max, List, Option}
use Rattle.rgw_types.specs.declared.pool_key.Key.{Key}
use Rattle.rgw_model.specs.Stamps.{counted_moment}
use Rattle.object_words.specs.Keys.{put, put_key}
use Rattle.object_words.specs.Shards.{Shard, no_shard}
use Rattle.object_words.specs.Heads.{Head, no_head, first_bytes, frames_for}
use Rattle.object_words.specs.Roots.{Root, no_root}
use Rattle.object_words.specs.Tails.{Tail, no_tail}
use Rattle.object_words.specs.Logs.{Log, no_log}
use Rattle.realm_model.specs.Settings.{SettingsView}

-- each kind of object by zone and key; the free frames by zone; the events that were made, and the clock
pub record State : Type 0 where
  pub root : ℕ → Root
  pub shards : ℕ → Key → Option Shard
  pub heads : ℕ → Key → Head
  pub tails : ℕ → Key → Tail
  pub changes : ℕ → Log
  pub free : ℕ → ℕ
  pub count : ℕ
  pub clock : ℕ

-- the realm before its first event: no object exists
abbrev pub opening : SettingsView → State
opening settings = record {
  root = λ zone. no_root;
  shards = λ zone key. no_shard;
  heads = λ zone key. no_head;
  tails = λ zone key. no_tail;
  changes = λ zone. no_log;
  free = λ zone. settings.frames;
  count = 0;
  clock = 0;
}

-- the number of the next event
abbrev pub number_next : State → ℕ
number_next st = st.count + 1

-- the clock is the greatest moment that counts so far
abbrev pub clock_at : ℕ → ℕ → ℕ
clock_at clock moment = max clock (counted_moment moment)

-- the state when the clock has come to a moment
abbrev pub at_moment : State → ℕ → State
at_moment st moment = record st { clock = clock_at st.clock moment }

-- which object an event touches, and what the object is afterwards
pub data Touch : Type 0 where
  nothing : Touch
  at_root : ℕ → Root → Touch
  at_shard : ℕ → Key → Option Shard → Touch
  at_head : ℕ → Key → Head → Touch
  at_tail : ℕ → Key → Tail → Touch
  at_changes : ℕ → Log → Touch

-- a function that has another value at one zone and key
abbrev pub put_in : {A : Type 0} → (ℕ → Key → A) → ℕ → Key → A → ℕ → Key → A
put_in f zone key x = put f zone (put_key (f zone) key x)

-- the frames of an object's bytes are taken, and those of its old bytes given back
abbrev pub free_after : ℕ → ℕ → List ℕ → List ℕ → ℕ
free_after frame free old new = free + frames_for frame old - frames_for frame new

-- what a touch leaves
abbrev pub touched : SettingsView → State → Touch → State
touched settings st nothing = st
touched settings st (at_root zone root) = record st { root = put st.root zone root }
touched settings st (at_shard zone key shard) = record st { shards = put_in st.shards zone key shard }
touched settings st (at_head zone key head) = record st {
  heads = put_in st.heads zone key head;
  free = put st.free zone (free_after settings.frame (st.free zone) (first_bytes (st.heads zone key).slot) (first_bytes head.slot));
}
touched settings st (at_tail zone key tail) = record st {
  tails = put_in st.tails zone key tail;
  free = put st.free zone (free_after settings.frame (st.free zone) (st.tails zone key).bytes tail.bytes);
}
touched settings st (at_changes zone log) = record st { changes = put st.changes zone log }
