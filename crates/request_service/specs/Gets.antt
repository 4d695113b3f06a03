-- The bytes of a GET.
use Rattle.std.specs.Prelude.{ℕ, List, [], Option, Some, None}
use Rattle.realm_model.specs.Accounts.{Decided}
use Rattle.realm_model.specs.Doors.{DoorView}
use Rattle.realm_model.specs.Settings.{SettingsView}
use Rattle.task_get.specs.declared.request.GetRequest.{GetRequest}
use Rattle.task_get.specs.Gets.{shown_at}
use Rattle.task_get.specs.Pieces.{brought}
use Rattle.task_get.specs.Tasks.{account_at, events_at}

-- what the own events of the door's actor brought of the bytes that are wanted
abbrev pub brought_at : GetRequest → DoorView → List ℕ
brought_at r d = brought r.get (events_at d)

-- the bytes that are shown at the event that decided, if one did
abbrev pub whole_by : GetRequest → Option Decided → List ℕ
whole_by r None = []
whole_by r (Some event) = shown_at r event

abbrev pub whole_at : GetRequest → SettingsView → DoorView → List ℕ
whole_at r settings d = whole_by r (account_at settings d).decided
