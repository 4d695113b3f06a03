-- Where the event stands that decides the reply to an object request: its actor's last own read of a head, or change of one
-- that was not answered Expired; where it made none, its last bucket read.
use Rattle.std.specs.Prelude.{◌≡◌, ◌+◌, List, [], ◌∷◌, ◌++◌, length}
use Rattle.realm_model.specs.Settings.{SettingsView}
use Rattle.realm_model.specs.States.{clock_at}
use Rattle.realm_model.specs.Phases.{ActorId}
use Rattle.realm_model.specs.Maps.{heads}
use Rattle.realm_model.specs.Accounts.{Decided, slot_now}
use Rattle.realm_model.specs.Worlds.{actor_of}
use Rattle.realm_model.specs.Histories.{world_of, state_of}
use Rattle.realm_model.specs.declared.event.Event.{Event}

-- the event that decides is one of the history and of the actor, and the slots are those of the bucket map just before it
-- and just after it, with the bytes of the tails that were made before it
pub record Stands (settings : SettingsView) (history : List Event) (actor : ActorId) (d : Decided) : Type 0 where
  pub earlier : List Event
  pub event : Event
  pub later : List Event
  pub stands : history ≡ (earlier ++ event ∷ []) ++ later
  pub own : actor_of event ≡ actor
  pub number : d.number ≡ length earlier + 1
  pub clock : d.clock ≡ clock_at (state_of settings earlier).clock event.moment
  pub before : d.before ≡ slot_now (heads earlier) (world_of settings earlier).stripes.made d.zone d.container d.name
  pub after : d.after ≡ slot_now (heads (earlier ++ event ∷ [])) (world_of settings earlier).stripes.made d.zone d.container d.name
