-- What a door's calls leave of what it tells.
use Rattle.std.specs.Prelude.{◌≡◌, ◌≢◌, ℕ, ◌+◌, ◌^◌, ◌<◌, ◌≤◌, ◌⊎◌, true, false, if◌then◌else◌, List, [], ◌∷◌, ◌++◌, length, Option, Some, None}
use Rattle.realm_model.specs.Settings.{SettingsView}
use Rattle.realm_model.specs.Phases.{ActorId}
use Rattle.realm_model.specs.Allowed.{allowed}
use Rattle.realm_model.specs.Maps.{Maps, slot_at, heads}
use Rattle.realm_model.specs.Histories.{Doings, world_of, state_of, phase_of, doings_of, done, answer_after, Legal}
use Rattle.realm_model.specs.Owns.{OwnEvent, own_events}
use Rattle.realm_model.specs.Doors.{DoorView, actor_at, mine, NoneByPass}
use Rattle.realm_model.specs.declared.op.Op.{Op}
use Rattle.realm_model.specs.declared.op.Op.TheVariants.{HeadRead}
use Rattle.realm_model.specs.declared.event.Reply.{Reply}
use Rattle.realm_model.specs.declared.event.Reply.TheVariants.{No, Head as head_reply}
use Rattle.realm_model.specs.declared.event.Event.{Event}
use Rattle.realm_door.specs.declared.door.Answered.{Answered}

-- ---- actors

-- what the present actor's own events came to
abbrev pub doings_at : SettingsView → DoorView → Doings
doings_at settings d = doings_of settings d.seen (actor_at d)

-- the actor of the pass with this count
abbrev pub actor_of_pass : ℕ → ℕ → ActorId
actor_of_pass pass count = record { pass = pass; count = count }

-- the history is legal, and the operation is one that the present actor may do next
abbrev pub MayStep : SettingsView → DoorView → Op → Type 0
MayStep settings d op = Legal settings d.seen × (allowed settings (phase_of settings d.seen (actor_at d)) op ≡ true)

-- the count of the next actor: where the present one made no event, it stays
abbrev pub next_count : DoorView → ℕ
next_count d = if d.used then d.count + 1 else d.count

-- the next actor acts, and made no event
abbrev pub begun : DoorView → DoorView
begun d = record { pass = d.pass; count = next_count d; used = false; seen = d.seen }

-- there are hardly more actors than events, and no more events than there may be
pub record IsCounted (d : DoorView) : Type 0 where
  pub few : next_count d ≤ length d.seen + 1
  pub room : length d.seen ≤ 2 ^ 62

-- neither the next actor of the pass nor a later one made an event
abbrev pub IsUnused : DoorView → Type 0
IsUnused d = (count : ℕ) → next_count d ≤ count → own_events d.seen (actor_of_pass d.pass count) ≡ []

-- ---- steps

-- the present actor's event
abbrev pub event_at : DoorView → Op → ℕ → Reply → Event
event_at d op moment reply = record { pass = d.pass; count = d.count; op = op; moment = moment; reply = reply }

-- the present actor made events, and the history is this one
abbrev pub view_after : DoorView → List Event → DoorView
view_after d history = record { pass = d.pass; count = d.count; used = true; seen = history }

-- the event, as its actor's own
abbrev pub own_event : Op → Answered → OwnEvent
own_event op a = record { op = op; reply = a.reply; number = a.number; clock = a.clock }

-- an operation that was refused comes back
abbrev pub back_of : Op → Reply → Option Op
back_of op (No why) = Some op
back_of op reply = None

-- a read of a head shows the slot that the bucket map has
abbrev pub Shows : Maps → Op → Reply → Type 0
Shows maps (HeadRead zone container name) (head_reply head clock) = head.slot ≡ slot_at (maps zone container) name
Shows maps op reply = Unit {0}

-- the present actor made events, and the history is longer
pub record IsLater (d e : DoorView) : Type 0 where
  pub used : e.used ≡ true
  pub longer : length d.seen < length e.seen
  pub room : length e.seen ≤ 2 ^ 62

-- what both histories say of the actor is the same: the events that it made, and what they came to
pub record IsSame (settings : SettingsView) (history later : List Event) (actor : ActorId) : Type 0 where
  pub events : own_events later actor ≡ own_events history actor
  pub doings : doings_of settings later actor ≡ doings_of settings history actor

-- the same actor, whose history grew; what the other actors of the pass did is as it was
pub record Grows (settings : SettingsView) (d e : DoorView) : Type 0 where
  pub pass : e.pass ≡ d.pass
  pub count : e.count ≡ d.count
  pub later : IsLater d e ⊎ (e ≡ d)
  pub more : List Event
  pub grows : e.seen ≡ d.seen ++ more
  pub rest : (count : ℕ) → count ≢ d.count → IsSame settings d.seen e.seen (actor_of_pass d.pass count)

-- events of others may come, none by the pass, and then the present actor's event with the step's answer, which ends the
-- history. Its number is the history's length
pub record Extends (settings : SettingsView) (d : DoorView) (op : Op) (moment : ℕ) (a : Answered) (e : DoorView) : Type 0 where
  pub between : List Event
  pub others : NoneByPass d.pass between
  pub ends : e.seen ≡ (d.seen ++ between) ++ event_at d op moment a.reply ∷ []
  pub answer : a.reply ≡ answer_after settings (d.seen ++ between) op moment
  pub number : a.number ≡ length e.seen
  pub clock : a.clock ≡ (state_of settings e.seen).clock
  pub legal : Legal settings e.seen
  pub grows : Grows settings d e
  pub events : own_events e.seen (actor_at d) ≡ own_events d.seen (actor_at d) ++ own_event op a ∷ []
  pub own : doings_at settings e ≡ done (doings_at settings d) (heads (d.seen ++ between)) (world_of settings (d.seen ++ between)).stripes.made op a.reply a.number a.clock
  pub numbers : mine d.pass e.seen ≡ mine d.pass d.seen ++ a.number ∷ []
  pub shows : Shows (heads (d.seen ++ between)) op a.reply
