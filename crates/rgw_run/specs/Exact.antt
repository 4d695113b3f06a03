-- What a run of `once` at one moment replies: the replies of one bucket map, folded over the calls from the empty container, or
-- from no container.
use Rattle.std.specs.Prelude.{◌≡◌, ℕ, ◌+◌, ◌≤◌, List, [], ◌++◌, bytes_eq, Option, Some, None, Result, Ok, Err, IfSome, refl, if◌then◌else◌}
use Rattle.gw_io.specs.Ends.{EndsState}
use Rattle.rgw_model.specs.Stamps.{counted_moment}
use Rattle.realm_core.specs.Realms.{RealmView}
use Rattle.swift_auth.specs.Users.{UserView}
use Rattle.realm_model.specs.Doors.{DoorView}
use Rattle.realm_model.specs.Settings.{SettingsView}
use Rattle.realm_model.specs.declared.event.Event.{Event}
use Rattle.container_preset.specs.Presets.{made_row}
use Rattle.call_words.specs.Calls.{Call}
use Rattle.http_intake.specs.Intake.{fresh}
use Rattle.call_service.specs.Serving.{Side, side}
use Rattle.call_service.specs.declared.fault.ServeFault.{ServeFault}
use Rattle.call_service.specs.declared.fault.ServeFault.TheVariants as faults
use Rattle.gateway.specs.Calls.{place_of}
use Rattle.gateway.specs.Serving.{LeavesAt, ServesConnection}
use Rattle.gateway.specs.declared.serve.Served.{Served}
use Rattle.once_law.specs.Maps.{Rows, no_slots}
use Rattle.once_law.specs.Folds.{Fixed, AreOfObjects, AreFolded, AreRepliedOrFull, AreReplied}
use Rattle.room_law.specs.Rooms.{frames_together}
use Rattle.rgw_run.specs.declared.once_end.OnceEnd.{OnceEnd}
use Rattle.rgw_run.specs.declared.once_end.OnceEnd.TheVariants.{Unmade, Unbegun, Ended, Stopped}
use Rattle.rgw_words.specs.declared.run_words.RunWords.{RunWords}
use Rattle.rgw_run.specs.Runs.{owner_in, with_clock, Leaves, RunsAt}

-- ---- the calls

-- the calls that were replied whole before a fault
abbrev pub calls_before : (settings : SettingsView) (users : List UserView) (found : List Event) (x y : Side) (fault : ServeFault) → LeavesAt (Unit {0}) (Unit {0}) (place_of settings 1 users) 1 found x y fault → List Call
calls_before settings users found x y faults.ReadFault left = left.calls
calls_before settings users found x y faults.OutOfMemory left = left.calls
calls_before settings users found x y faults.WriteFault left = left.calls
calls_before settings users found x y faults.Worn left = left.calls
calls_before settings users found x y (faults.Late read_at clock) left = left.calls

-- the calls of a connection whose replies were written whole
abbrev pub calls_in : (settings : SettingsView) (users : List UserView) (found : List Event) (d e : DoorView) (old new : EndsState) (result : Result Served ServeFault) → ServesConnection (Unit {0}) (Unit {0}) (place_of settings 1 users) found d e old new result → List Call
calls_in settings users found d e old new (Ok served) serves = serves.served.calls
calls_in settings users found d e old new (Err fault) serves =
    let left = serves.left fault refl in
    calls_before settings users found (side d (fresh settings.largest) old) (side e left.0 new) fault left.1

-- ---- the bucket map

-- the one row, of a container that the first events of the realm make: a read of its name, its shards, and the row; none where
-- none was made
abbrev pub one_row : SettingsView → List UserView → Option (List ℕ) → Rows
one_row settings users None name = None
one_row settings users (Some bucket) name =
    if bytes_eq name bucket then Some (made_row settings (owner_in users) 1 (settings.shards + 2)) else None

-- what stays the same from call to call of a run at one moment
abbrev pub fixed_at : SettingsView → List UserView → Option (List ℕ) → ℕ → Fixed
fixed_at settings users bucket moment = record {
  zone = 1;
  rows = one_row settings users bucket;
  clocks = λ actor. counted_moment moment;
}

-- The calls are replied as the map of the one container says, which has no name at first; but where a body broke off, or there
-- is no room, which leaves the map as it was. There is room where the frames that all bodies of PUTs take together are no more
-- than the zone's.
pub record AreExact (settings : SettingsView) (users : List UserView) (bucket : Option (List ℕ)) (moment : ℕ) (calls : List Call) : Type 0 where
  pub folded : AreFolded (fixed_at settings users bucket moment) no_slots calls
  pub full : AreRepliedOrFull calls
  pub found : frames_together settings.frame settings.stripe calls ≤ settings.frames → AreReplied calls

-- The first calls are so replied, up to one on a container or an account: such a call reads or changes rows, which the fold keeps
-- as they are.
abbrev pub AreExactFirst : SettingsView → List UserView → Option (List ℕ) → ℕ → List Call → Type 0
AreExactFirst settings users bucket moment calls =
    (front others : List Call) → calls ≡ front ++ others → AreOfObjects front → AreExact settings users bucket moment front

-- ---- a run

-- the calls whose replies were written whole are so replied, however the run ended
abbrev pub IsExactEnd : (settings : SettingsView) (users : List UserView) (bucket : Option (List ℕ)) (moment : ℕ) (old new : EndsState) (realm : Option RealmView) (end : OnceEnd) → Leaves settings users bucket old new realm end → Type 0
IsExactEnd settings users bucket moment old new realm Unmade leaves = Unit {0}
IsExactEnd settings users bucket moment old new realm (Unbegun fault) leaves = Unit {0}
IsExactEnd settings users bucket moment old new realm (Ended served) leaves =
    AreExactFirst settings users bucket moment (calls_in settings users leaves.door.seen leaves.ready leaves.door leaves.middle new (Ok served) leaves.serves)
IsExactEnd settings users bucket moment old new realm (Stopped fault) leaves =
    AreExactFirst settings users bucket moment (calls_in settings users leaves.door.seen leaves.ready leaves.door leaves.middle new (Err fault) leaves.serves)

-- a run at one moment, with the replies of the bucket map
pub record RunsExactly (settings : SettingsView) (users : List UserView) (bucket : Option (List ℕ)) (moment : ℕ) (old new : EndsState) (realm : Option RealmView) (status : ℕ) : Type 0 where
  pub runs : RunsAt settings users bucket moment old new realm status
  pub exact : IsExactEnd settings users bucket moment (with_clock old moment []) (with_clock new moment runs.told) realm runs.runs.end runs.runs.leaves

-- where the words say the moment
abbrev pub RunsExactlyIf : Option RunWords → EndsState → EndsState → Option RealmView → ℕ → Type 0
RunsExactlyIf words old new realm status =
    IfSome words (λ asked. IfSome asked.now (λ moment. RunsExactly asked.settings asked.users asked.bucket moment old new realm status))
