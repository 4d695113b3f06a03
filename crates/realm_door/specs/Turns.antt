-- What a turn of a task makes.
use Rattle.std.specs.Prelude.{◌≡◌, ℕ, ◌+◌, ◌^◌, ◌<◌, ◌≤◌, List, [], length}
use Rattle.realm_model.specs.Accounts.{blank}
use Rattle.realm_model.specs.Doors.{DoorView, actor_at}
use Rattle.realm_model.specs.Histories.{Legal, account_of}
use Rattle.realm_model.specs.Owns.{own_events}
use Rattle.realm_model.specs.Settings.{SettingsView}
use Rattle.realm_model.specs.declared.op.Op.{Op}
use Rattle.realm_door.specs.declared.door.Answered.{Answered}
use Rattle.realm_door.specs.declared.task.TaskTurn.{TaskTurn}
use Rattle.realm_door.specs.declared.task.TaskTurn.TheVariants.{More, Wants, Gives, Done}
use Rattle.realm_door.specs.Steps.{Extends}

-- where the door tells something, that is a legal history, and the task fits it
abbrev pub FitsTold : Type 0 → SettingsView → DoorView → (SettingsView → DoorView → Type 0) → Type 0
FitsTold tells settings d fits = tells → Legal settings d.seen × fits settings d

-- a task of a zone fits what an actor is told that made no event
abbrev pub FitsAtFirst : ℕ → (SettingsView → DoorView → Type 0) → Type 0
FitsAtFirst zone fits = (settings : SettingsView) (d : DoorView) → 1 ≤ zone → zone ≤ settings.zones
    → account_of settings d.seen (actor_at d) ≡ blank → own_events d.seen (actor_at d) ≡ [] → fits settings d

-- one event of the present actor at this moment, and none by another of the pass
pub record MakesEvent (settings : SettingsView) (moment : ℕ) (d e : DoorView) : Type 0 where
  pub op : Op
  pub answered : Answered
  pub extends : Extends settings d op moment answered e

-- a turn that goes on, or gives bytes, makes one event; another makes none
abbrev pub Turned : SettingsView → TaskTurn → ℕ → DoorView → DoorView → Type 0
Turned settings More moment d e = MakesEvent settings moment d e
Turned settings Gives moment d e = MakesEvent settings moment d e
Turned settings Wants moment d e = e ≡ d
Turned settings Done moment d e = e ≡ d

-- at most one event came, of whomever
abbrev pub IsOneMore : DoorView → DoorView → Type 0
IsOneMore d e = length e.seen ≤ length d.seen + 1

-- the turn makes an event
abbrev pub IsActing : TaskTurn → Type 0
IsActing More = Unit {0}
IsActing Gives = Unit {0}
IsActing Wants = ⊥
IsActing Done = ⊥

-- a turn that makes an event has a greater number than any event before
abbrev pub Counts : TaskTurn → ℕ → ℕ → Type 0
Counts More last next = (last < next) × (next ≤ 2 ^ 62)
Counts Gives last next = (last < next) × (next ≤ 2 ^ 62)
Counts Wants last next = next ≡ last
Counts Done last next = next ≡ last

-- a turn that gives bytes has at least one, and they follow those given before
abbrev pub Given : TaskTurn → ℕ → List ℕ → ℕ → Type 0
Given Gives before piece after = (1 ≤ length piece) × (after ≡ before + length piece)
Given turn before piece after = after ≡ before
