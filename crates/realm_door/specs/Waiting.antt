-- An actor that waits while others make events.
use Rattle.std.specs.Prelude.{◌≡◌, Option, Some, None}
use Rattle.realm_door.specs.Steps.{IsSame}
use Rattle.realm_model.specs.Doors.{DoorView, IsSeen, actor_at}
use Rattle.realm_model.specs.Settings.{SettingsView}
use Rattle.turn_cell.specs.declared.machine.DoorFault.{DoorFault}

-- the same actor is told a longer history, in which its own events, and what they came to, are as they were
pub record Waited (settings : SettingsView) (d e : DoorView) : Type 0 where
  pub pass : e.pass ≡ d.pass
  pub count : e.count ≡ d.count
  pub used : e.used ≡ d.used
  pub front : IsSeen d.seen e.seen
  pub same : IsSame settings d.seen e.seen (actor_at d)

-- what an actor is told once it acts again
abbrev pub waiting_at : DoorView → DoorView → DoorView
waiting_at waiting e = record { pass = waiting.pass; count = waiting.count; used = waiting.used; seen = e.seen }

-- after a fault a task stands nowhere
abbrev pub UnlessFaulted : Option DoorFault → Type 0 → Type 0
UnlessFaulted None Stands = Stands
UnlessFaulted (Some fault) Stands = Unit {0}
