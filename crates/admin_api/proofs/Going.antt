-- The own events of a job so far.
use Rattle.std.proofs.Common.{◌≡◌, ◌∙◌, ℕ, ◌≤◌, List, refl}
use Rattle.realm_model.specs.Settings.{SettingsView}
use Rattle.realm_model.specs.Doors.{DoorView}
use Rattle.door_moments.specs.Acts.{IsUnderWay}
use Rattle.task_words.specs.declared.job.Job.{Job}
use Rattle.task_words.specs.declared.job.Job.TheVariants.{Check}
use Rattle.task_repair.specs.declared.stage.Stage.TheVariants.{Look}
use Rattle.task_repair.specs.declared.request.RepairRequest.{RepairRequest}
use Rattle.task_repair.specs.Tasks.{known_at, request_of, fits}
use Rattle.task_repair.proofs.Turning.{fits_first}
use Rattle.admin_api.specs.Jobs.{repair_of, IsNew, GoesOn}

-- none was made
pub goes_on_first : (zone : ℕ) (job : Job) (settings : SettingsView) (d : DoorView) → 1 ≤ zone → zone ≤ settings.zones → IsNew settings d → GoesOn zone job settings d
goes_on_first zone (Check container) settings d low high new = (
  record { request = repair_of zone container; stage = Look; applied = 0 },
  refl,
  (low, high, fits_first (repair_of zone container) (known_at settings d) new.account new.events),
)

-- as far as its repair came
pub goes_on_so_far : (zone : ℕ) (job : Job) (settings : SettingsView) (d : DoorView) (r : RepairRequest) → ((container : List ℕ) → job ≡ Check container → r ≡ repair_of zone container)
    → IsUnderWay request_of fits r settings d → GoesOn zone job settings d
goes_on_so_far zone (Check container) settings d r is_asked under = (under.0, under.1 ∙ is_asked container refl, under.2)
