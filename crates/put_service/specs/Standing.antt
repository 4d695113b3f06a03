-- Where the task of a PUT stands, and where it pauses.
use Rattle.std.specs.Prelude.{◌≡◌, ℕ, ◌<◌, ◌≤◌, Bool, true, false, [], Option, Some, None, Result}
use Rattle.call_words.specs.Bodies.{Fate, broken_off, IsWrong}
use Rattle.call_words.specs.Ends.{on_object}
use Rattle.http_intake.specs.Intake.{IntakeState}
use Rattle.http_model.specs.declared.reply.ReplyForm.{ReplyForm}
use Rattle.realm_model.specs.Settings.{SettingsView}
use Rattle.realm_model.specs.Doors.{DoorView}
use Rattle.realm_model.specs.Histories.{Legal}
use Rattle.task_words.specs.declared.command.BodyEnd.{BodyEnd}
use Rattle.task_words.specs.declared.command.BodyEnd.TheVariants.{Whole, Failed}
use Rattle.task_words.specs.declared.outcome.Outcome.{Outcome}
use Rattle.task_words.specs.declared.outcome.Outcome.TheVariants.{Done, BodyFailed, Busy, MovedOften, LateTag, NoSpace}
use Rattle.task_words.specs.declared.reply.MapReply.TheVariants.{Stored, Refused}
use Rattle.task_words.specs.declared.reply.Refusal.TheVariants.{OtherEtag}
use Rattle.realm_door.specs.declared.stepping.Stepping.{Stepping}
use Rattle.task_put.specs.declared.stage.PutRequest.{PutRequest}
use Rattle.task_put.specs.declared.stage.Draft.{Draft}
use Rattle.task_put.specs.declared.stage.Stage.{Stage}
use Rattle.task_put.specs.declared.stage.Stage.TheVariants.{Looking, Feeding, Changing, Ended}
use Rattle.task_put.specs.declared.task.PutTask.{PutTask}
use Rattle.task_put.specs.Bodies.{most_bytes}
use Rattle.task_put.specs.Stages.{IsOver}
use Rattle.task_put.specs.Taking.{WantsBytes}
use Rattle.task_put.specs.Tasks.{request_of as stages_request}
use Rattle.task_put.specs.Runs.{request_of, stage_of, fault_of, fits}
use Rattle.index_update.specs.Refusals.{OnlyRowsRefuse}
use Rattle.index_update.specs.Stages.{IsReady as IsUpdateReady}
use Rattle.call_service.specs.Bodies.{ReadsAtFault, most_due}
use Rattle.call_service.specs.declared.fault.ServeFault.{ServeFault}
use Rattle.call_service.specs.Serving.{Side, Around, Outside, is_by_end, outside}
use Rattle.put_service.specs.declared.stepping.Pause.{Pause}
use Rattle.put_service.specs.declared.stepping.Pause.TheVariants as pauses

-- ---- by what the door tells

-- the task stands where the events of the door's actor bring it
abbrev pub IsUp : Type 0 → SettingsView → Stepping PutTask → DoorView → Type 0
IsUp tells settings task d = tells → Legal settings d.seen × fits task settings d

-- ---- whatever the door tells

-- a PUT whose body was read whole, or did not end, ends so
abbrev pub IsEnd : Outcome → Type 0
IsEnd (Done (Stored etag stamp)) = Unit {0}
IsEnd (Done (Refused why)) = Unit {0}
IsEnd (Busy id) = Unit {0}
IsEnd MovedOften = Unit {0}
IsEnd LateTag = Unit {0}
IsEnd (NoSpace free needed) = Unit {0}
IsEnd outcome = ⊥

-- a PUT ends so, whose body was read whole, or failed
abbrev pub IsEndBy : Outcome → BodyEnd → Type 0
IsEndBy BodyFailed Failed = Unit {0}
IsEndBy outcome end = IsEnd outcome

-- a PUT ends so, whose body has that fate
abbrev pub IsEndAt : Outcome → Fate → Type 0
IsEndAt BodyFailed (broken_off why) = IsWrong why
IsEndAt outcome fate = IsEnd outcome

-- an event brings this end: the end of the body does not
abbrev pub IsByEvent : Outcome → Type 0
IsByEvent outcome = IsEnd outcome × (is_by_end (on_object outcome) ≡ false)

-- the end of the body brings the stage's end
abbrev pub IsByBody : Option BodyEnd → Stage → Type 0
IsByBody (Some Whole) (Ended (Done (Refused OtherEtag))) = Unit {0}
IsByBody (Some Failed) (Ended BodyFailed) = Unit {0}
IsByBody end stage = ⊥

-- the draft is of the body as it came
pub record IsOf (r : PutRequest) (draft : Draft) : Type 0 where
  pub bytes : draft.body.bytes ≡ r.bytes
  pub end : draft.body.end ≡ r.end

-- the draft is of the body as it came, and only an event brings the end, that of an update too
abbrev pub IsSteadyAt : PutRequest → Stage → Type 0
IsSteadyAt r (Looking draft) = IsOf r draft
IsSteadyAt r (Feeding write key draft) = IsOf r draft
IsSteadyAt r (Changing etag update) = IsUpdateReady update.stage × OnlyRowsRefuse update.stage
IsSteadyAt r (Ended outcome) = IsByEvent outcome

abbrev pub IsSteady : PutTask → Type 0
IsSteady stages = IsSteadyAt (stages_request stages) stages.stage

-- no step stopped with a fault, and it stands where the events of the door's actor bring it
pub record IsGoing (tells : Type 0) (settings : SettingsView) (task : Stepping PutTask) (d : DoorView) : Type 0 where
  pub sound : fault_of task ≡ None
  pub steady : IsSteady task.stages
  pub up : IsUp tells settings task d

-- the task met no fault, took no byte of its body, and did not see its end
abbrev pub IsFresh : Stepping PutTask → Type 0
IsFresh task = (fault_of task ≡ None) × IsSteady task.stages × ((request_of task).bytes ≡ []) × ((request_of task).end ≡ None)

-- the intake met no fault, and no more of the body is due than a PUT may have
abbrev pub IsReadable : IntakeState → Type 0
IsReadable intake = (intake.failed ≡ None) × (most_due intake ≤ most_bytes)

-- a task that took no byte yet may be served: the reply may have a body, and the buffer for pieces has room
pub record IsReady (tells : Type 0) (around : Around) (task : Stepping PutTask) (side : Side) (form : ReplyForm) : Type 0 where
  pub room : 0 < around.buffer
  pub fresh : IsFresh task
  pub readable : IsReadable side.intake
  pub bodied : form.bodiless ≡ false
  pub up : IsUp tells around.settings task side.door

-- the row of the container is to be read
abbrev pub IsLooking : Stage → Type 0
IsLooking (Looking draft) = Unit {0}
IsLooking stage = ⊥

-- ---- what stays

-- the door's settings and home, the clock's plan, the source's count of faults, and how long the buffer for pieces is
pub record Reading : Type 0 where
  pub outside : Outside
  pub faults : ℕ
  pub buffer : ℕ

abbrev pub reading : SettingsView → ℕ → Option (ℕ → ℕ) → ℕ → ℕ → Reading
reading settings home plan faults buffer = record { outside = outside settings home plan; faults = faults; buffer = buffer }

-- the count rose where a read failed, and all else stays
pub record StaysReading {T : Type 0} (old new : Reading) (result : Result T ServeFault) : Type 0 where
  pub cause : ReadsAtFault old.faults new.faults result
  pub settings : new.outside.settings ≡ old.outside.settings
  pub home : new.outside.home ≡ old.outside.home
  pub plan : new.outside.plan ≡ old.outside.plan
  pub kept : new.buffer ≡ old.buffer

-- ---- pauses

-- the task stands so at a pause
abbrev pub PausesAt : Pause → Stepping PutTask → Type 0
PausesAt pauses.Wants task = IsSteady task.stages × WantsBytes (stage_of task)
PausesAt pauses.Over task = IsSteady task.stages × IsOver (stage_of task)
PausesAt pauses.ByEnd task = IsByBody (request_of task).end (stage_of task)

-- a step made an event, or paused
abbrev pub StandsAfter : Option Pause → Stepping PutTask → Type 0
StandsAfter None task = IsSteady task.stages
StandsAfter (Some pause) task = PausesAt pause task

-- the clock is asked without an event
abbrev pub is_untold : Pause → Bool
is_untold pauses.ByEnd = true
is_untold pause = false

abbrev pub is_untold_at : Option Pause → Bool
is_untold_at None = false
is_untold_at (Some pause) = is_untold pause
