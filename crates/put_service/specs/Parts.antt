-- What each part of the service of a PUT comes to, before its reply is written.
use Rattle.std.specs.Prelude.{◌≡◌, ℕ, ◌^◌, Bool, true, false, List, [], ◌++◌, length, Option, None}
use Rattle.std.specs.Io.KnownBytes.{IsAtEnd}
use Rattle.realm_model.specs.Settings.{SettingsView}
use Rattle.realm_model.specs.Doors.{DoorView, actor_at}
use Rattle.realm_model.specs.Histories.{account_of}
use Rattle.realm_model.specs.Owns.{own_events}
use Rattle.realm_model.specs.declared.event.Event.{Event}
use Rattle.http_intake.specs.Intake.{IntakeState}
use Rattle.task_words.specs.declared.command.BodyEnd.{BodyEnd as TaskBodyEnd}
use Rattle.task_words.specs.declared.command.BodyEnd.TheVariants.{Whole, Failed}
use Rattle.task_words.specs.declared.outcome.Outcome.{Outcome}
use Rattle.task_words.specs.declared.outcome.Outcome.TheVariants.{BodyFailed}
use Rattle.task_words.specs.Cuts.{AreCut}
use Rattle.task_words.specs.Outcomes.{Body, IsPutOutcome}
use Rattle.http_model.specs.declared.reply.ReplyForm.{ReplyForm}
use Rattle.http_chunks.specs.declared.body.BodyEnd.{BodyEnd}
use Rattle.http_chunks.specs.declared.body.BodyEnd.TheVariants as End
use Rattle.call_words.specs.Bodies.{Fate, read_whole, broken_off}
use Rattle.call_words.specs.Ends.{on_object}
use Rattle.swift_requests.specs.declared.asked.Asked.TheVariants.{Put}
use Rattle.call_words.specs.Calls.{body_at}
use Rattle.call_words.specs.Texts.{told_reply, text_if}
use Rattle.call_words.specs.Events.{AreOfPut}
use Rattle.realm_door.specs.declared.stepping.Stepping.{Stepping}
use Rattle.task_put.specs.declared.stage.PutRequest.{PutRequest}
use Rattle.task_put.specs.declared.stage.Stage.TheVariants.{Ended}
use Rattle.task_put.specs.declared.task.PutTask.{PutTask}
use Rattle.task_put.specs.Orders.{path_of, IsFinished}
use Rattle.task_put.specs.Stages.{IsOver}
use Rattle.task_put.specs.Fits.{body_of as taken_of}
use Rattle.task_put.specs.Taking.{WantsBytes, fed_request}
use Rattle.task_put.specs.Runs.{request_of, stage_of, fault_of}
use Rattle.call_service.specs.Bodies.{HasGiven, ReadsTo, FallsBehind, HasFate, HasComeTo}
use Rattle.call_service.specs.Serving.{Site, is_by_end, body_of, BearsOutSoFar}
use Rattle.door_moments.specs.Acts.{Asks}
use Rattle.call_service.specs.declared.fault.ServeFault.{ServeFault}
use Rattle.call_service.specs.declared.fault.ServeFault.TheVariants as faults
use Rattle.call_service.specs.declared.served.Served.{Served}
use Rattle.call_service.specs.declared.served.Served.TheVariants as services
use Rattle.put_service.specs.declared.feeding.Taken.{Taken}
use Rattle.put_service.specs.declared.feeding.Taken.TheVariants as takens
use Rattle.put_service.specs.Standing.{IsEndBy, IsEndAt, IsSteady}

-- where the task is served
abbrev pub site_at : SettingsView → PutRequest → Site
site_at settings r = record { settings = settings; zone = r.zone }

-- what the door tells of its actor is what the PUT did so far, of whose body so much came
abbrev pub DoesSo : SettingsView → PutRequest → Body → DoorView → Type 0
DoesSo settings r body d = BearsOutSoFar (site_at settings r) (Put r.asker r.command) body d

-- of whose body the task took so much
abbrev pub HasDone : Type 0 → SettingsView → PutRequest → DoorView → Type 0
HasDone tells settings r d = tells → DoesSo settings r (taken_of r) d

-- ---- the body

-- what stands at one moment while a body is read: what the door tells, the intake, what the source has left, and the moments
-- that the clock told
pub record Place : Type 0 where
  pub door : DoorView
  pub intake : IntakeState
  pub left : Option (List ℕ)
  pub told : Option (List ℕ)

abbrev pub place : DoorView → IntakeState → Option (List ℕ) → Option (List ℕ) → Place
place door intake left told = record { door = door; intake = intake; left = left; told = told }

-- the clock was asked so between two moments
abbrev pub AsksAt : Type 0 → Type 0 → SettingsView → Bool → Place → Place → Type 0
AsksAt tells alone settings more x y = Asks tells alone settings more x.door y.door x.told y.told

-- the task took all of these bytes, and wants more; or a front of them alone, and its outcome was there
abbrev pub TakesBytes : Stepping PutTask → Stepping PutTask → List ℕ → Bool → Type 0
TakesBytes old new bytes true = IsSteady new.stages × WantsBytes (stage_of new) × (request_of new ≡ fed_request (request_of old) bytes)
TakesBytes old new bytes false =
    IsSteady new.stages × IsOver (stage_of new) × (front : List ℕ) × (rest : List ℕ) × (bytes ≡ front ++ rest)
    × (request_of new ≡ fed_request (request_of old) front)

-- the body was read so far, and the task took it so
abbrev pub TakesBody : Stepping PutTask → Stepping PutTask → Place → Place → Taken → Type 0
TakesBody old new x y (takens.Ended end) =
    (given : List ℕ) × ReadsTo x.intake y.intake x.left y.left given end × TakesBytes old new given true
TakesBody old new x y takens.Over =
    (given : List ℕ) × HasGiven x.intake y.intake x.left y.left given × TakesBytes old new given false

-- a step was refused when so much of the body had come
pub record IsRefusedStep (tells alone : Type 0) (settings : SettingsView) (r : PutRequest) (x y : Place) : Type 0 where
  pub body : Body
  pub came : HasComeTo body.end x.intake y.intake x.left y.left body.bytes
  pub more : Bool
  pub asks : AsksAt tells alone settings more x y
  pub so_far : tells → DoesSo settings r body y.door

-- the body fell short behind these bytes
pub record RunsShort (tells alone : Type 0) (settings : SettingsView) (r : PutRequest) (x y : Place) : Type 0 where
  pub given : List ℕ
  pub falls : FallsBehind x.intake x.left y.left given
  pub asks : AsksAt tells alone settings false x y
  pub so_far : tells → DoesSo settings r (body_of given) y.door

-- a read failed inside the body, or a step of the task was refused
abbrev pub StopsBody : Type 0 → Type 0 → SettingsView → PutRequest → List Event → Place → Place → ServeFault → Type 0
StopsBody tells alone settings r found x y faults.ReadFault = RunsShort tells alone settings r x y
StopsBody tells alone settings r found x y faults.OutOfMemory = IsRefusedStep tells alone settings r x y
StopsBody tells alone settings r found x y faults.Worn = (tells → length found ≡ 2 ^ 62) × IsRefusedStep tells alone settings r x y
StopsBody tells alone settings r found x y fault = ⊥

-- ---- the task as a whole

-- the task ended so between two moments, behind a body that ended so
pub record EndsSo (tells alone : Type 0) (settings : SettingsView) (task : Stepping PutTask) (end : TaskBodyEnd) (d e : DoorView) (told told' : Option (List ℕ)) : Type 0 where
  pub outcome : Outcome
  pub ended : stage_of task ≡ Ended outcome
  pub is_end : IsEndBy outcome end
  pub asks : Asks tells alone settings (is_by_end (on_object outcome)) d e told told'

-- the body had that fate, and the task ended so
pub record HasEnded (tells alone : Type 0) (settings : SettingsView) (r : PutRequest) (task : Stepping PutTask) (fate : Fate) (x y : Place) : Type 0 where
  pub body : List ℕ
  pub has_fate : HasFate fate x.intake y.intake x.left y.left body
  pub outcome : Outcome
  pub ended : stage_of task ≡ Ended outcome
  pub sound : fault_of task ≡ None
  pub is_end : IsEndAt outcome fate
  pub right : tells → IsPutOutcome r.zone r.asker r.command (body_at fate body) outcome
      (account_of settings y.door.seen (actor_at y.door)) (own_events y.door.seen (actor_at y.door))
  pub of_put : tells → AreOfPut (own_events y.door.seen (actor_at y.door))
  pub finished : tells → IsFinished (path_of (own_events y.door.seen (actor_at y.door)))
  pub cut : tells → AreCut r.zone settings.stripe body (own_events y.door.seen (actor_at y.door))
  pub so_far : tells → DoesSo settings r (body_at fate body) y.door
  pub asks : AsksAt tells alone settings (is_by_end (on_object outcome)) x y

-- what became of a body that ended so
abbrev pub fate_of : BodyEnd → Fate
fate_of End.Whole = read_whole
fate_of end = broken_off end

-- how the task is told that a body ended so
abbrev pub task_end : BodyEnd → TaskBodyEnd
task_end End.Whole = Whole
task_end end = Failed

-- the body ended so, and the task did; unless the input ended inside the body
abbrev pub RunsTask : Type 0 → Type 0 → SettingsView → PutRequest → Stepping PutTask → Place → Place → BodyEnd → Type 0
RunsTask tells alone settings r task x y End.Cut = RunsShort tells alone settings r x y × IsAtEnd y.left
RunsTask tells alone settings r task x y end = HasEnded tells alone settings r task (fate_of end) x y

-- ---- the reply

-- its text behind a body that ended so
abbrev pub text_of : ReplyForm → BodyEnd → Outcome → List ℕ
text_of form end outcome = text_if form (told_reply None (fate_of end) outcome) []

-- how the request was served then
abbrev pub served_so : BodyEnd → Outcome → Served
served_so End.Whole outcome = services.Replied
served_so end BodyFailed = services.Refused
served_so end outcome = services.Closed
