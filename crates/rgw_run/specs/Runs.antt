-- What a run of the program comes to: a new realm, with a container or not, and a connection that is served to it.
use Rattle.std.specs.Prelude.{◌≡◌, ◌≢◌, ◌⊎◌, ℕ, ◌^◌, Bool, List, [], ◌∷◌, length, true, false, All, IfSome, Option, None, Some, unwrap_or, slice_get, Result, Ok, Err}
use Rattle.std.specs.Io.KnownBytes.{Appends}
use Rattle.gw_io.specs.Ends.{EndsState}
use Rattle.gw_io.specs.Memory.{moment_at}
use Rattle.gw_io.specs.Outside.{Rose}
use Rattle.turn_cell.specs.declared.machine.DoorFault.{DoorFault}
use Rattle.turn_cell.specs.declared.machine.DoorFault.TheVariants as Door
use Rattle.swift_auth.specs.Users.{UserView, standard_user, account_of}
use Rattle.realm_model.specs.Doors.{DoorView, actor_at}
use Rattle.realm_model.specs.Settings.{SettingsView, IsSettings}
use Rattle.realm_model.specs.declared.event.Event.{Event}
use Rattle.realm_core.specs.Realms.{RealmView}
use Rattle.container_preset.specs.Presets.{preset, Stops}
use Rattle.gateway.specs.Calls.{place_of}
use Rattle.gateway.specs.Serving.{ServesConnection}
use Rattle.gateway.specs.declared.serve.ConnEnd.{ConnEnd}
use Rattle.gateway.specs.declared.serve.ConnEnd.TheVariants.{Clean, Closed, Cut, Refused}
use Rattle.gateway.specs.declared.serve.Served.{Served}
use Rattle.call_service.specs.declared.fault.ServeFault.{ServeFault}
use Rattle.call_service.specs.declared.fault.ServeFault.TheVariants as Fault
use Rattle.rgw_run.specs.declared.once_end.OnceEnd.{OnceEnd}
use Rattle.rgw_run.specs.declared.once_end.OnceEnd.TheVariants.{Unmade, Unbegun, Ended, Stopped}
use Rattle.rgw_words.specs.declared.run_words.RunWords.{RunWords}
use Rattle.rgw_run.specs.Scripted.{RunsScripted}

-- ---- the realm

abbrev pub realm_of : SettingsView → List Event → RealmView
realm_of settings history = record { settings = settings; history = history }

-- a door of the first actor of the first pass, behind this history
abbrev pub door_at : Bool → List Event → DoorView
door_at used history = record { pass = 1; count = 0; used = used; seen = history }

-- the door before the first event
abbrev pub first_door : DoorView
first_door = door_at false []

-- the account of the first of the users, of whom there is one at least
abbrev pub owner_in : List UserView → List ℕ
owner_in users = account_of (unwrap_or (slice_get users 0) standard_user)

-- the events that make the container under that account, all at one moment
abbrev pub making : SettingsView → List UserView → List ℕ → ℕ → List Event
making settings users bucket moment = preset settings (actor_at first_door) bucket (owner_in users) 1 moment

-- before the connection the container was made that the words name, at one moment that the clock told; or none is named, and
-- nothing was
abbrev pub Prepares : SettingsView → List UserView → Option (List ℕ) → List ℕ → DoorView → Type 0
Prepares settings users None moments d = (moments ≡ []) × (d ≡ first_door)
Prepares settings users (Some bucket) moments d =
    (moment : ℕ) × (moments ≡ moment ∷ []) × (d ≡ door_at true (making settings users bucket moment))

-- ---- statuses

abbrev pub end_status : ConnEnd → ℕ
end_status Clean = 0
end_status Closed = 0
end_status Cut = 5
end_status Refused = 5

-- no stripe of a realm that nobody else changes is gone, so the last of these never comes
abbrev pub fault_status : ServeFault → ℕ
fault_status Fault.OutOfMemory = 4
fault_status Fault.ReadFault = 2
fault_status Fault.WriteFault = 3
fault_status Fault.Worn = 7
fault_status (Fault.Late read_at clock) = 5

abbrev pub door_status : DoorFault → ℕ
door_status Door.OutOfMemory = 4
door_status Door.Worn = 7

-- the status by how a run of `once` ended
abbrev pub status_by : OnceEnd → ℕ
status_by Unmade = 4
status_by (Unbegun fault) = door_status fault
status_by (Ended served) = end_status served.end
status_by (Stopped fault) = fault_status fault

-- how it ended, by what the connection came to
abbrev pub end_of : Result Served ServeFault → OnceEnd
end_of (Ok served) = Ended served
end_of (Err fault) = Stopped fault

-- ---- what a run of `once` leaves

-- these moments were told, and nothing was read or written
pub record TellsOnly (old new : EndsState) (moments : List ℕ) : Type 0 where
  pub told : Appends old.told new.told moments
  pub other : new ≡ record old { told = new.told }

-- the container was not made whole
pub record LeavesUnbegun (settings : SettingsView) (users : List UserView) (bucket : List ℕ) (old new : EndsState) (realm : Option RealmView) (fault : DoorFault) : Type 0 where
  pub moment : ℕ
  pub tells : TellsOnly old new (moment ∷ [])
  pub door : DoorView
  pub left : realm ≡ Some (realm_of settings door.seen)
  pub stops : Stops settings (Unit {0}) first_door door bucket moment
  pub worn : fault ≡ Door.Worn → length door.seen ≡ 2 ^ 62

-- the container was made that the words name, if they name one, and then the connection came to that, which the history of
-- the realm that is left bears out
pub record LeavesServed (settings : SettingsView) (users : List UserView) (bucket : Option (List ℕ)) (old new : EndsState) (realm : Option RealmView) (result : Result Served ServeFault) : Type 0 where
  pub bounds : IsSettings settings
  pub moments : List ℕ
  pub ready : DoorView
  pub prepares : Prepares settings users bucket moments ready
  pub middle : EndsState
  pub tells : TellsOnly old middle moments
  pub door : DoorView
  pub left : realm ≡ Some (realm_of settings door.seen)
  pub serves : ServesConnection (Unit {0}) (Unit {0}) (place_of settings 1 users) door.seen ready door middle new result

-- the container was not made that the words name
abbrev pub LeavesUnmade : SettingsView → List UserView → Option (List ℕ) → EndsState → EndsState → Option RealmView → DoorFault → Type 0
LeavesUnmade settings users None old new realm fault = ⊥
LeavesUnmade settings users (Some bucket) old new realm fault = LeavesUnbegun settings users bucket old new realm fault

-- memory was wanting before there was a realm; the container was not made; the connection was served to its end; or left at
-- a fault
abbrev pub Leaves : SettingsView → List UserView → Option (List ℕ) → EndsState → EndsState → Option RealmView → OnceEnd → Type 0
Leaves settings users bucket old new realm Unmade = (realm ≡ None) × (new ≡ old)
Leaves settings users bucket old new realm (Unbegun fault) = LeavesUnmade settings users bucket old new realm fault
Leaves settings users bucket old new realm (Ended served) = LeavesServed settings users bucket old new realm (Ok served)
Leaves settings users bucket old new realm (Stopped fault) = LeavesServed settings users bucket old new realm (Err fault)

-- no reply broke off since a stripe was gone
abbrev pub IsInTime : OnceEnd → Type 0
IsInTime (Stopped (Fault.Late read_at clock)) = ⊥
IsInTime end = Unit {0}

-- ---- what a run comes to

-- Each count of faults rose where the status says so, and stayed at every other one; the clock keeps its plan.
pub record HasRunCause (old new : EndsState) (status : ℕ) : Type 0 where
  pub plan : new.plan ≡ old.plan
  pub read_rose : status ≡ 2 → Rose old.read_faults new.read_faults
  pub read_kept : status ≢ 2 → new.read_faults ≡ old.read_faults
  pub write_rose : status ≡ 3 → Rose old.write_faults new.write_faults
  pub write_kept : status ≢ 3 → new.write_faults ≡ old.write_faults

-- a run whose moments the clock tells
pub record RunsByClock (settings : SettingsView) (users : List UserView) (bucket : Option (List ℕ)) (old new : EndsState) (realm : Option RealmView) (status : ℕ) : Type 0 where
  pub end : OnceEnd
  pub in_time : IsInTime end
  pub leaves : Leaves settings users bucket old new realm end
  pub ended : status ≡ status_by end
  pub cause : HasRunCause old new status

-- the ends with a clock of their own, which has told this and tells the moment at each call
abbrev pub with_clock : EndsState → ℕ → List ℕ → EndsState
with_clock ends moment told = record ends { told = Some told; plan = Some (moment_at moment 0) }

-- A run at one moment is one with a clock that tells it each time; the clock that was handed in has no part in it.
pub record RunsAt (settings : SettingsView) (users : List UserView) (bucket : Option (List ℕ)) (moment : ℕ) (old new : EndsState) (realm : Option RealmView) (status : ℕ) : Type 0 where
  pub told : List ℕ
  pub each : All (λ m. m ≡ moment) told
  pub runs : RunsByClock settings users bucket (with_clock old moment []) (with_clock new moment told) realm status
  pub plan : new.plan ≡ old.plan

abbrev pub RunsBy : Option ℕ → SettingsView → List UserView → Option (List ℕ) → EndsState → EndsState → Option RealmView → ℕ → Type 0
RunsBy None settings users bucket old new realm status = RunsByClock settings users bucket old new realm status
RunsBy (Some moment) settings users bucket old new realm status = RunsAt settings users bucket moment old new realm status

-- what a run comes to whose words ask that
abbrev pub RunsOnce : RunWords → EndsState → EndsState → Option RealmView → ℕ → Type 0
RunsOnce once old new realm status = RunsBy once.now once.settings once.users once.bucket old new realm status

-- What a run with such words comes to, which ask to serve one connection, or to run a script, or neither, and then nothing
-- happens. Those that ask for neither are refused; but memory may be wanting to read the text of their users.
pub record RunsAlone (once : Option RunWords) (script : Option RunWords) (may_ask : Bool) (old new : EndsState) (realm : Option RealmView) (status : ℕ) : Type 0 where
  pub refused : status ≡ 1 → (once ≡ None) × (script ≡ None)
  pub neither : once ≡ None → script ≡ None → (status ≡ 1) ⊎ ((status ≡ 4) × (may_ask ≡ true))
  pub nothing : once ≡ None → script ≡ None → (realm ≡ None) × (new ≡ old)
  pub once_runs : IfSome once (λ asked. RunsOnce asked old new realm status)
  pub script_runs : IfSome script (λ asked. RunsScripted asked old new realm status)
