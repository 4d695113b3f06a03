-- The task of a PUT, as `Stepping` runs it: the words for its stages, said of the task.
use Rattle.std.specs.Prelude.{ℕ, List, Option}
use Rattle.turn_cell.specs.declared.machine.DoorFault.{DoorFault}
use Rattle.realm_model.specs.Doors.{DoorView}
use Rattle.realm_model.specs.Settings.{SettingsView}
use Rattle.realm_model.specs.declared.event.Reply.{Reply}
use Rattle.realm_door.specs.Waiting.{UnlessFaulted}
use Rattle.realm_door.specs.declared.stepping.Stepping.{Stepping}
use Rattle.task_words.specs.declared.command.BodyEnd.{BodyEnd}
use Rattle.task_put.specs.declared.stage.PutRequest.{PutRequest}
use Rattle.task_put.specs.declared.stage.Stage.{Stage}
use Rattle.task_put.specs.declared.task.PutTask.{PutTask}
use Rattle.task_put.specs.Stepped.{stepped as next_stages}
use Rattle.task_put.specs.Tasks as stages

-- what it is asked
abbrev pub request_of : Stepping PutTask → PutRequest
request_of t = stages.request_of t.stages

-- where it stands
abbrev pub stage_of : Stepping PutTask → Stage
stage_of t = stages.stage_of t.stages

-- the fault with which a step stopped
abbrev pub fault_of : Stepping PutTask → Option DoorFault
fault_of t = t.fault

-- it stands where its actor's own events bring it; after a fault nowhere
abbrev pub fits : Stepping PutTask → SettingsView → DoorView → Type 0
fits t settings d = UnlessFaulted t.fault (stages.fits t.stages settings d)

-- the task with other stages
abbrev pub with_stages : Stepping PutTask → PutTask → Stepping PutTask
with_stages t s = record { stages = s; fault = t.fault }

-- where the end of its body has decided if that was next
abbrev pub decided : Stepping PutTask → Stepping PutTask
decided t = with_stages t (stages.decided t.stages)

-- its body took more bytes
abbrev pub fed : Stepping PutTask → List ℕ → Stepping PutTask
fed t more = with_stages t (stages.fed t.stages more)

-- its body ended so
abbrev pub body_ended : Stepping PutTask → BodyEnd → Stepping PutTask
body_ended t end = with_stages t (stages.body_ended t.stages end)

-- the event of this number answered the operation that came next so
abbrev pub stepped : Stepping PutTask → ℕ → Reply → Stepping PutTask
stepped t number reply = with_stages t (next_stages t.stages number reply)
