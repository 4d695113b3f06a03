-- A container in which nothing is under way (developer documents of the bucket index: pending operations).
use Rattle.std.specs.Prelude.{◌≡◌, ℕ, true, List, ◌++◌, Some}
use Rattle.object_words.specs.declared.bucket.Bucket.{Bucket}
use Rattle.object_words.specs.Names.{at}
use Rattle.realm_model.specs.Containers.{is_standing}
use Rattle.realm_model.specs.Histories.{world_of, state_of}
use Rattle.realm_model.specs.Settings.{SettingsView}
use Rattle.realm_model.specs.declared.event.Event.{Event}
use Rattle.repair_law.specs.Repaired.{HasNoTags}
use Rattle.repair_law.specs.Settled.{NonePrepares, NoneSwaps}

-- after these events the zone has this row under the name, and no change is under way in the shards that it names
pub record Rests (settings : SettingsView) (history : List Event) (zone : ℕ) (bucket : List ℕ) (row : Bucket) : Type 0 where
  pub kept : at ((state_of settings history).root zone).buckets bucket ≡ Some row
  pub none : HasNoTags (state_of settings history) zone row

-- so it stays while these events come: none prepares a change there or swaps the row, and the container stands
pub record IsLeftAtRest (settings : SettingsView) (before during : List Event) (zone : ℕ) (bucket : List ℕ) (row : Bucket) : Type 0 where
  pub prepares : NonePrepares zone row during
  pub swaps : NoneSwaps zone bucket during
  pub stands : is_standing (world_of settings (before ++ during)).rows (state_of settings (before ++ during)) row.id ≡ true
