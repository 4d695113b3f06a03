-- How the task of a request ended.
use Rattle.std.specs.Prelude.{Bool, true, false}
use Rattle.task_words.specs.declared.outcome.Outcome.{Outcome}
use Rattle.task_words.specs.declared.outcome.Outcome.TheVariants.{Done, BodyFailed}
use Rattle.task_words.specs.declared.reply.MapReply.TheVariants.{Refused as Refuses}
use Rattle.task_words.specs.declared.reply.Refusal.TheVariants.{Unauthorized, Denied, NoContainer}
use Rattle.task_container.specs.declared.outcome.ContainerOutcome.{ContainerOutcome}
use Rattle.task_container.specs.declared.outcome.ContainerOutcome.TheVariants as container
use Rattle.task_container.specs.declared.outcome.ContainerReply.TheVariants as container_reply
use Rattle.task_container.specs.declared.outcome.ContainerRefusal.TheVariants.{ByRow, NotYours}
use Rattle.task_account.specs.declared.reply.AccountOutcome.{AccountOutcome}

-- the end of a request on an object or of a listing, of one on a container, and of one on an account
pub data TaskEnd : Type 0 where
  on_object : Outcome → TaskEnd
  on_container : ContainerOutcome → TaskEnd
  on_account : AccountOutcome → TaskEnd

-- the body broke off, and the reply says so
abbrev pub body_failed : TaskEnd
body_failed = on_object BodyFailed

-- the row of the container refused the request: it is not there, or another account's, or denies it, or is being changed
abbrev pub is_by_row : TaskEnd → Bool
is_by_row (on_object (Done (Refuses Unauthorized))) = true
is_by_row (on_object (Done (Refuses (Denied rule)))) = true
is_by_row (on_object (Done (Refuses NoContainer))) = true
is_by_row (on_container (container.Done (container_reply.Refused (ByRow refusal)))) = true
is_by_row (on_container (container.Done (container_reply.Refused NotYours))) = true
is_by_row (on_container (container.Busy id)) = true
is_by_row end = false
