-- A listing as a request: what it is asked, and where it stands.
use Rattle.std.specs.Prelude.{◌≡◌, List, [], ◌∷◌, None}
use Rattle.realm_model.specs.Doors.{DoorView, actor_at}
use Rattle.realm_model.specs.Owns.{OwnEvent, own_events}
use Rattle.realm_model.specs.Settings.{SettingsView}
use Rattle.swift_reply.specs.declared.reply.ListingForm.{ListingForm}
use Rattle.task_list.specs.declared.request.ListRequest.{ListRequest}
use Rattle.task_list.specs.declared.stage.Stage.TheVariants.{Look}
use Rattle.task_list.specs.declared.task.ListTask.{ListTask}
use Rattle.task_list.specs.Listed.{asks_row, AreOfListing}
use Rattle.task_list.specs.Tasks.{request_of, stage_of, fits}
use Rattle.request_service.specs.declared.listing.Listing.{Listing}

abbrev pub task_of : Listing → ListTask
task_of t = t.task

-- what is listed, and how its rows are written
abbrev pub command_of : Listing → ListRequest × ListingForm
command_of t = (request_of t.task, t.listing)

-- the row of the container was read first, or comes next
abbrev pub BeginsAtRow : ListTask → List OwnEvent → Type 0
BeginsAtRow t [] = stage_of t ≡ Look None
BeginsAtRow t (e ∷ events) = e.op ≡ asks_row (request_of t).zone (request_of t).command

-- The task stands where the own events of the door's actor bring it. Whatever became of it, also for want of memory, they are
-- those of a listing, the row first.
pub record Fits (t : Listing) (settings : SettingsView) (d : DoorView) : Type 0 where
  pub stands : fits (task_of t) settings d
  pub reads : AreOfListing (own_events d.seen (actor_at d))
  pub at_row : BeginsAtRow (task_of t) (own_events d.seen (actor_at d))
