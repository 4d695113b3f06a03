-- A PUT whose client waits: the read of the row, its first event, and a body that is left where that refuses it.
use Rattle.std.specs.Prelude.{◌≡◌, ℕ, true, false, List, [], None}
use Rattle.realm_model.specs.Doors.{DoorView, actor_at}
use Rattle.realm_model.specs.Owns.{own_events}
use Rattle.realm_door.specs.declared.stepping.Stepping.{Stepping}
use Rattle.swift_auth.specs.declared.policy.Deed.TheVariants.{ChangeThing}
use Rattle.http_model.specs.declared.reply.ReplyForm.{ReplyForm}
use Rattle.task_put.specs.declared.stage.Stage.{Stage}
use Rattle.task_put.specs.declared.stage.Stage.TheVariants.{Ended}
use Rattle.task_put.specs.declared.task.PutTask.{PutTask}
use Rattle.task_put.specs.Runs.{request_of, stage_of}
use Rattle.task_put.specs.Stages.{IsOver}
use Rattle.call_words.specs.Bodies.{unread}
use Rattle.call_words.specs.Calls.{ReadsRowAlone, first_refuses}
use Rattle.call_words.specs.Texts.{told_reply, text_if}
use Rattle.call_service.specs.Serving.{form_at}

-- the text of its reply
abbrev pub left_text : ReplyForm → Stage → List ℕ
left_text form (Ended outcome) = text_if (form_at form unread) (told_reply None unread outcome) []
left_text form stage = []

-- the one event of the task was the read of the row: it refuses the PUT where the outcome is there, and grants it elsewhere
pub record HasLooked (tells : Type 0) (task : Stepping PutTask) (d : DoorView) : Type 0 where
  pub refuses : IsOver (stage_of task) → tells → first_refuses (request_of task).asker ChangeThing (own_events d.seen (actor_at d)) ≡ true
  pub grants : (IsOver (stage_of task) → ⊥) → tells → first_refuses (request_of task).asker ChangeThing (own_events d.seen (actor_at d)) ≡ false
  pub looks : tells → ReadsRowAlone (request_of task).zone (request_of task).command.container (own_events d.seen (actor_at d))
