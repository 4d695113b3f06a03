-- What a door tells: through which pass its actors act, who acts now, and which front of the one history it has seen.
use Rattle.std.specs.Prelude.{◌≡◌, ◌≢◌, ℕ, ◌==◌, Bool, List, ◌++◌, map, filter}
use Rattle.std.specs.List.{AllByRecursion, enumerate_from}
use Rattle.realm_model.specs.Phases.{ActorId}
use Rattle.realm_model.specs.declared.event.Event.{Event}

-- what a door tells of itself
pub record DoorView : Type 0 where
  pub pass : ℕ
  -- the number of the present actor among those of the pass, and whether it made an event
  pub count : ℕ
  pub used : Bool
  pub seen : List Event

-- who acts through the door now
abbrev pub actor_at : DoorView → ActorId
actor_at d = record { pass = d.pass; count = d.count }

-- what was seen is a front of the history
pub record IsSeen (seen history : List Event) : Type 0 where
  pub later : List Event
  pub is_front : history ≡ seen ++ later

-- the numbers of the pass's own events among those that were seen
abbrev pub mine : ℕ → List Event → List ℕ
mine pass seen = map (λ e. e.0) (filter (λ e. (e.1).pass == pass) (enumerate_from 1 seen))

-- none of the events is by the pass
abbrev pub NoneByPass : ℕ → List Event → Type 0
NoneByPass pass events = AllByRecursion (λ e. e.pass ≢ pass) events
