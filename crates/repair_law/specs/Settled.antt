-- What is shown of a container that is settled: each name is listed and counted as its head (developer documents of the
-- bucket index: pending operations).
use Rattle.std.specs.Prelude.{◌≡◌, ◌≢◌, ℕ, ◌==◌, ◌&&◌, Bool, false, min, bytes_eq, List, None, is_some}
use Rattle.std.specs.List.{AllByRecursion}
use Rattle.object_words.specs.declared.bucket.Bucket.{Bucket}
use Rattle.object_words.specs.Hashes.{shard_of}
use Rattle.object_words.specs.Heads.{is_live}
use Rattle.object_words.specs.Keys.{shard_key}
use Rattle.object_words.specs.Numbers.{greatest}
use Rattle.object_words.specs.Shards.{stats_of}
use Rattle.realm_model.specs.Accounts.{has_shard}
use Rattle.realm_model.specs.Containers.{key_of_name, entry_of_name, Shows}
use Rattle.realm_model.specs.Counts.{counts_of}
use Rattle.realm_model.specs.Histories.{state_of}
use Rattle.realm_model.specs.Maps.{slot_at, heads}
use Rattle.realm_model.specs.Rises.{found_in}
use Rattle.realm_model.specs.Settings.{SettingsView}
use Rattle.realm_model.specs.declared.op.Op.{Op}
use Rattle.realm_model.specs.declared.op.Op.TheVariants.{BucketSwap, Prepare}
use Rattle.realm_model.specs.declared.event.Event.{Event}
use Rattle.realm_law.specs.Totals.{over_shards}

-- the operation prepares a change of a name in a shard that the row names
abbrev pub prepares : ℕ → Bucket → Op → Bool
prepares zone row (Prepare z key name) = z == zone && has_shard key row
prepares zone row op = false

-- none of the events prepares a change in the shards that the row names
abbrev pub NonePrepares : ℕ → Bucket → List Event → Type 0
NonePrepares zone row events = AllByRecursion (λ e. prepares zone row e.op ≡ false) events

-- the operation swaps the row under the name
abbrev pub swaps : ℕ → List ℕ → Op → Bool
swaps zone bucket (BucketSwap z name expected new) = z == zone && bytes_eq name bucket
swaps zone bucket op = false

-- none of the events does
abbrev pub NoneSwaps : ℕ → List ℕ → List Event → Type 0
NoneSwaps zone bucket events = AllByRecursion (λ e. swaps zone bucket e.op ≡ false) events

-- Each name is listed as its head: its entry shows the slot that the container has under it, is there exactly where that is
-- live, and is in no other shard. And each is counted as its head: the headers of the shards have together as many objects
-- as the container has live names, and as many bytes as these have, up to the greatest number that a header shows.
pub record IsSettled (settings : SettingsView) (history : List Event) (zone container : ℕ) (row : Bucket) : Type 0 where
  pub shown : (name : List ℕ) → Shows (entry_of_name (state_of settings history) zone row name) (slot_at (heads history zone container) name)
  pub listed : (name : List ℕ) → is_some (found_in ((state_of settings history).shards zone (key_of_name row name)) name) ≡ is_live (slot_at (heads history zone container) name)
  pub once : (number : ℕ) (name : List ℕ) → shard_of name row.shards ≢ number → found_in ((state_of settings history).shards zone (shard_key row.id row.instance number)) name ≡ None
  pub objects : over_shards (λ s. (stats_of s).objects) (state_of settings history) zone row ≡ (counts_of (heads history zone container)).objects
  pub bytes : min (over_shards (λ s. (stats_of s).bytes) (state_of settings history) zone row) greatest ≡ min (counts_of (heads history zone container)).bytes greatest
