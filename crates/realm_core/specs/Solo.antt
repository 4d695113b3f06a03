-- What a door to a realm tells that nobody else has.
use Rattle.std.specs.Prelude.{◌≡◌, ◌<◌, ◌≤◌, ◌==◌, ◌&&◌, Bool, true, List, length}
use Rattle.std.specs.List.{AllByRecursion, list_any}
use Rattle.realm_model.specs.Doors.{DoorView}
use Rattle.realm_model.specs.Histories.{Legal}
use Rattle.realm_model.specs.Worlds.{actor_of, same_actor}
use Rattle.realm_model.specs.declared.actor.Actor.{Actor}
use Rattle.realm_model.specs.declared.event.Event.{Event}
use Rattle.realm_core.specs.Answers.{id_of}
use Rattle.realm_core.specs.Realms.{RealmView}

-- the actor acts, and all of the realm's history was seen
abbrev pub door_of : RealmView → Actor → DoorView
door_of realm actor = record { pass = actor.pass; count = actor.count; used = actor.used; seen = realm.history }

-- no event is by a later actor of the actor's pass
abbrev pub NoneLater : Actor → List Event → Type 0
NoneLater actor events = AllByRecursion (λ e. e.pass ≡ actor.pass → e.count ≤ actor.count) events

-- some event is by the actor
abbrev pub has_event : Actor → List Event → Bool
has_event actor events = list_any (λ e. same_actor (id_of actor) (actor_of e)) events

-- the actor may act next in the realm
pub record MayEnter (realm : RealmView) (actor : Actor) : Type 0 where
  pub legal : Legal realm.settings realm.history
  pub later : NoneLater actor realm.history
  pub used : actor.used ≡ has_event actor realm.history
  pub few : actor.count ≤ length realm.history
