-- What is so where a request removed a container.
use Rattle.std.specs.Prelude.{◌≡◌, ℕ, false, List, ◌∷◌, ◌++◌, Some, None}
use Rattle.object_words.specs.declared.bucket.Bucket.{Bucket}
use Rattle.object_words.specs.Heads.{is_live}
use Rattle.object_words.specs.Names.{at}
use Rattle.realm_model.specs.Histories.{state_of}
use Rattle.realm_model.specs.Maps.{slot_at, heads}
use Rattle.realm_model.specs.Phases.{ActorId}
use Rattle.realm_model.specs.Settings.{SettingsView}
use Rattle.realm_model.specs.Worlds.{actor_of}
use Rattle.realm_model.specs.declared.event.Event.{Event}
use Rattle.realm_model.specs.declared.event.Reply.TheVariants.{Done}
use Rattle.realm_model.specs.declared.op.Op.TheVariants.{BucketSwap}

-- an event of the actor took away the row that zone 1 had of this name, which was of the account; in all of the history no name of
-- that container is live there
pub record IsRemovedEmpty (settings : SettingsView) (history : List Event) (actor : ActorId) (account name : List ℕ) : Type 0 where
  pub before : List Event
  pub removal : Event
  pub later : List Event
  pub stands : history ≡ before ++ removal ∷ later
  pub by : actor_of removal ≡ actor
  pub row : Bucket
  pub had : at ((state_of settings before).root 1).buckets name ≡ Some row
  pub own : row.owner ≡ account
  pub takes : removal.op ≡ BucketSwap 1 name row.version None
  pub done : removal.reply ≡ Done
  pub empty : (object : List ℕ) → is_live (slot_at (heads history 1 row.id) object) ≡ false
