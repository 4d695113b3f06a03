-- What running a job comes to: its outcome, the events that it rests on, the moments that were told for them, and what a
-- fault leaves.
use Rattle.std.specs.Prelude.{◌≡◌, ℕ, ◌^◌, Bool, List, [], length, Option}
use Rattle.turn_cell.specs.declared.machine.DoorFault.{DoorFault}
use Rattle.turn_cell.specs.declared.machine.DoorFault.TheVariants.{Worn}
use Rattle.realm_model.specs.Accounts.{blank}
use Rattle.realm_model.specs.Doors.{DoorView, actor_at}
use Rattle.realm_model.specs.Histories.{Legal, account_of}
use Rattle.realm_model.specs.Owns.{own_events}
use Rattle.realm_model.specs.Settings.{SettingsView}
use Rattle.realm_model.specs.declared.event.Event.{Event}
use Rattle.door_moments.specs.Acts.{Asks, IsUnderWay}
use Rattle.task_words.specs.declared.job.Job.{Job}
use Rattle.task_words.specs.declared.job.Job.TheVariants.{Check}
use Rattle.task_words.specs.declared.job.JobOutcome.{JobOutcome}
use Rattle.task_repair.specs.declared.request.RepairRequest.{RepairRequest}
use Rattle.task_repair.specs.Repairs.{IsRepairOutcome}
use Rattle.task_repair.specs.Tasks.{request_of, fits}

-- ---- what is asked, and how it ended

-- a check repairs
abbrev pub repair_of : ℕ → List ℕ → RepairRequest
repair_of zone container = record { zone = zone; bucket = container }

-- what the outcome of a job in a zone says of the own events of the door's actor
abbrev pub JobMeans : ℕ → Job → JobOutcome → SettingsView → DoorView → Type 0
JobMeans zone (Check container) outcome settings d =
    IsRepairOutcome (repair_of zone container) outcome (account_of settings d.seen (actor_at d)) (own_events d.seen (actor_at d))

-- ---- events

-- the present actor made no event
pub record IsNew (settings : SettingsView) (d : DoorView) : Type 0 where
  pub legal : Legal settings d.seen
  pub account : account_of settings d.seen (actor_at d) ≡ blank
  pub events : own_events d.seen (actor_at d) ≡ []

-- ---- faults

-- the own events of the door's actor are those of the job so far
abbrev pub GoesOn : ℕ → Job → SettingsView → DoorView → Type 0
GoesOn zone (Check container) settings d = IsUnderWay request_of fits (repair_of zone container) settings d

-- the events up to a fault, those of the job so far, and the moments for them; the clock may have been asked for the event
-- that did not come. The realm is worn only where the door's last step found as many events as there may be
pub record StopsJob (tells alone : Type 0) (settings : SettingsView) (zone : ℕ) (job : Job) (found : List Event) (d e : DoorView) (told told' : Option (List ℕ)) (fault : DoorFault) : Type 0 where
  pub more : Bool
  pub asks : Asks tells alone settings more d e told told'
  pub goes_on : tells → GoesOn zone job settings e
  pub worn : tells → fault ≡ Worn → length found ≡ 2 ^ 62
