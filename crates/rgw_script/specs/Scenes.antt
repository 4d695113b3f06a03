-- Where a script stands between two of its lines.
use Rattle.std.specs.Prelude.{ℕ, ◌+◌, Bool, List, if◌then◌else◌}
use Rattle.std.specs.List.{list_any}
use Rattle.std.specs.Str.{bytes_eq}
use Rattle.realm_model.specs.Doors.{DoorView}
use Rattle.realm_model.specs.Phases.{ActorId}
use Rattle.realm_model.specs.Worlds.{actor_of, same_actor}
use Rattle.realm_model.specs.declared.event.Event.{Event}
use Rattle.realm_door.specs.Steps.{actor_of_pass}
use Rattle.swift_auth.specs.Users.{UserView}
use Rattle.task_words.specs.declared.asker.Asker.{Asker}
use Rattle.script_words.specs.declared.line.Verb.{Verb}
use Rattle.script_player.specs.Plays.{Asked}
use Rattle.script_player.specs.Requests.{asker_for}

-- ---- actors

-- an actor of a script is the first one of a pass of its own; in its zone it does this, for who asks
pub record Role : Type 0 where
  pub pass : ℕ
  pub zone : ℕ
  pub asker : Asker
  pub verb : Verb

abbrev pub asked_of : Role → Asked
asked_of role = record { zone = role.zone; asker = role.asker; verb = role.verb }

-- who has a name: nobody had it; its actor plays; or its actor ended or was stopped
pub data Part : Type 0 where
  unused : Part
  plays : Role → Part
  gone : Part

-- who makes the events of a pass
abbrev pub actor_in : ℕ → ActorId
actor_in pass = actor_of_pass pass 0

-- some event is by the actor of the pass
abbrev pub has_acted : ℕ → List Event → Bool
has_acted pass history = list_any (λ e. same_actor (actor_in pass) (actor_of e)) history

-- what a door tells to the actor of a pass
abbrev pub view_of : ℕ → List Event → DoorView
view_of pass history = record { pass = pass; count = 0; used = has_acted pass history; seen = history }

-- ---- scenes

-- the moment that the next events bring, who makes the requests, who has which name, the pass of the next actor, and the history
-- of the realm
pub record Scene : Type 0 where
  pub moment : ℕ
  pub user : UserView
  pub parts : List ℕ → Part
  pub next : ℕ
  pub history : List Event

-- the parts, where this one is the name's
abbrev pub recast : (List ℕ → Part) → List ℕ → Part → List ℕ → Part
recast parts name part other = if bytes_eq name other then part else parts other

-- the scene, where the name has this part
abbrev pub with_part : Scene → List ℕ → Part → Scene
with_part s name part = record s { parts = recast s.parts name part }

-- the scene behind these events
abbrev pub with_history : Scene → List Event → Scene
with_history s history = record s { history = history }

-- the actor that comes next
abbrev pub next_role : Scene → ℕ → Verb → Role
next_role s zone verb = record { pass = s.next; zone = zone; asker = asker_for s.user verb; verb = verb }

-- the scene behind it
abbrev pub with_next : Scene → Scene
with_next s = record s { next = s.next + 1 }
