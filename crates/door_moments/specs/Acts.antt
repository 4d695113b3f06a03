-- The events that an actor makes, and the moments that are asked of a clock for them.
use Rattle.std.specs.Prelude.{◌≡◌, ℕ, Bool, true, false, List, [], ◌∷◌, ◌++◌, map, filter, Option}
use Rattle.std.specs.List.{AllByRecursion}
use Rattle.std.specs.Io.KnownBytes.{Appends}
use Rattle.realm_model.specs.Doors.{DoorView, actor_at}
use Rattle.realm_model.specs.Histories.{Legal}
use Rattle.realm_model.specs.Phases.{ActorId}
use Rattle.realm_model.specs.Settings.{SettingsView}
use Rattle.realm_model.specs.Worlds.{actor_of, same_actor}
use Rattle.realm_model.specs.declared.event.Event.{Event}
use Rattle.realm_door.specs.Steps.{Grows}
use Rattle.realm_door.specs.Turns.{MakesEvent}

-- a task stands where the events of the door's actor bring it
abbrev pub IsUpTo : {A : Type 0} → (A → SettingsView → DoorView → Type 0) → Type 0 → SettingsView → A → DoorView → Type 0
IsUpTo fits tells settings task d = tells → Legal settings d.seen × fits task settings d

-- the events of the door's actor are those of a task that is asked so, as far as it came
abbrev pub IsUnderWay : {A C : Type 0} → (A → C) → (A → SettingsView → DoorView → Type 0) → C → SettingsView → DoorView → Type 0
IsUnderWay {A} command fits asked settings d = (task : A) × (command task ≡ asked) × fits task settings d

-- one event of the present actor at some moment, and none by another of the pass
abbrev pub MakesSome : SettingsView → DoorView → DoorView → Type 0
MakesSome settings d e = (moment : ℕ) × MakesEvent settings moment d e

-- the moments of an actor's events
abbrev pub own_moments : List Event → ActorId → List ℕ
own_moments history actor = map (λ e. e.moment) (filter (λ e. same_actor actor (actor_of e)) history)

-- each event that the history grew by is one of the present actor
pub record OnlyOwn (d e : DoorView) : Type 0 where
  pub more : List Event
  pub grows : e.seen ≡ d.seen ++ more
  pub own : AllByRecursion (λ x. actor_of x ≡ actor_at d) more

-- the actor went on, and its events have these moments; where nobody else makes events, there are no others
pub record Acts (alone : Type 0) (settings : SettingsView) (d e : DoorView) (moments : List ℕ) : Type 0 where
  pub legal : Legal settings e.seen
  pub grows : Grows settings d e
  pub each : own_moments e.seen (actor_at d) ≡ own_moments d.seen (actor_at d) ++ moments
  pub only : alone → OnlyOwn d e

-- these moments were told: one for each event, and one more or not
abbrev pub Tells : Bool → List ℕ → List ℕ → Type 0
Tells true told moments = (last : ℕ) × (told ≡ moments ++ last ∷ [])
Tells false told moments = told ≡ moments

-- the clock was asked once for each event of the actor, and once more or not
pub record Asks (tells alone : Type 0) (settings : SettingsView) (more : Bool) (d e : DoorView) (told told' : Option (List ℕ)) : Type 0 where
  pub moments : List ℕ
  pub clock : List ℕ
  pub asked_clock : Appends told told' clock
  pub each : Tells more clock moments
  pub acts : tells → Acts alone settings d e moments
