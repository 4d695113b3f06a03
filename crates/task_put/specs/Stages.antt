-- Where a PUT stands, and how an answer brings it on.
use Rattle.std.specs.Prelude.{◌≡◌, ℕ, ◌+◌, true, false, List, [], length, Option, Some, None, IsSome, if◌then◌else◌}
use Rattle.std.specs.declared.result.Result.{Result}
use Rattle.std.specs.declared.result.Result.TheVariants.{Ok, Err}
use Rattle.md5.specs.Md5.{md5}
use Rattle.rgw_types.specs.declared.pool_key.Key.{Key}
use Rattle.object_words.specs.declared.head.NewHead.{NewHead}
use Rattle.object_words.specs.declared.why.Why.TheVariants as whys
use Rattle.realm_model.specs.declared.op.Op.{Op}
use Rattle.realm_model.specs.declared.op.Op.TheVariants as ops
use Rattle.realm_model.specs.declared.event.Reply.{Reply}
use Rattle.realm_model.specs.declared.event.Reply.TheVariants as replies
use Rattle.realm_model.specs.Shown.{row_shown}
use Rattle.task_words.specs.declared.command.BodyEnd.{BodyEnd}
use Rattle.task_words.specs.declared.command.BodyEnd.TheVariants as ends
use Rattle.task_words.specs.declared.reply.MapReply.TheVariants.{Stored, Refused}
use Rattle.task_words.specs.declared.reply.Refusal.{Refusal}
use Rattle.task_words.specs.declared.reply.Refusal.TheVariants.{NotMet, OtherEtag}
use Rattle.task_words.specs.declared.outcome.Outcome.{Outcome}
use Rattle.task_words.specs.declared.outcome.Outcome.TheVariants.{Done, BodyFailed, Busy, MovedOften, LateTag, NoSpace}
use Rattle.task_words.specs.Answers.{is_other_etag}
use Rattle.task_words.specs.Cuts.{first_bytes, tail_bytes}
use Rattle.index_update.specs.declared.head_change.HeadChange.TheVariants.{Write}
use Rattle.index_update.specs.declared.stage.Stage.{Stage as UpdateStage}
use Rattle.index_update.specs.declared.stage.Stage.TheVariants as ups
use Rattle.index_update.specs.declared.stage.Updated.{Updated}
use Rattle.index_update.specs.declared.stage.Updated.TheVariants as updated
use Rattle.index_update.specs.declared.update.IndexUpdate.{IndexUpdate}
use Rattle.index_update.specs.Stages.{place_of, IsOver as IsUpdateOver, IsReady as IsUpdateReady}
use Rattle.index_update.specs.Updates.{begun, next_op, stepped as update_stepped}
use Rattle.task_put.specs.Bodies.{without_tail, has_tail}
use Rattle.task_put.specs.declared.stage.Draft.{Draft}
use Rattle.task_put.specs.declared.stage.Stage.{Stage}
use Rattle.task_put.specs.declared.stage.Stage.TheVariants.{Looking, Feeding, Changing, Ended}

-- ---- stages

-- the outcome is there
abbrev pub IsOver : Stage → Type 0
IsOver (Ended outcome) = Unit {0}
IsOver stage = ⊥

-- an operation comes next: where bytes are taken, only while a tail waits
abbrev pub IsReady : Stage → Type 0
IsReady (Ended outcome) = ⊥
IsReady (Feeding write key draft) = has_tail draft.body ≡ true
IsReady (Changing etag update) = IsUpdateReady update.stage
IsReady stage = Unit {0}

-- something is to be decided: the body has ended and no tail waits, or the update has ended
abbrev pub IsDecided : Stage → Type 0
IsDecided (Feeding write key draft) = (has_tail draft.body ≡ false) × IsSome draft.body.end
IsDecided (Changing etag update) = IsUpdateOver update.stage
IsDecided stage = ⊥

-- its body was read whole
abbrev pub IsWhole : Stage → Type 0
IsWhole (Feeding write key draft) = draft.body.end ≡ Some ends.Whole
IsWhole stage = ⊥

-- it is one of the body
abbrev pub IsBody : Stage → Type 0
IsBody (Looking draft) = Unit {0}
IsBody (Feeding write key draft) = has_tail draft.body ≡ true
IsBody stage = ⊥

-- ---- the update's end

-- what a PUT ends with
abbrev pub outcome_of : List ℕ → Updated → Outcome
outcome_of etag (updated.Changed stamp old) = Done (Stored etag stamp)
outcome_of etag (updated.Refused refusal) = Done (Refused refusal)
outcome_of etag updated.NotMet = Done (Refused NotMet)
outcome_of etag (updated.Busy id) = Busy id
outcome_of etag updated.MovedOften = MovedOften
outcome_of etag updated.LateTag = LateTag
outcome_of etag (updated.NoSpace free needed) = NoSpace free needed

-- where there is an outcome, the PUT has ended
abbrev pub ended_or : Stage → Option Outcome → Stage
ended_or stage None = stage
ended_or stage (Some outcome) = Ended outcome

-- where the update ended, the PUT does
abbrev pub after_stage : List ℕ → IndexUpdate → UpdateStage → Stage
after_stage etag update (ups.Ended end) = Ended (outcome_of etag end)
after_stage etag update stage = Changing etag update

abbrev pub after_update : List ℕ → IndexUpdate → Stage
after_update etag update = after_stage etag update update.stage

-- ---- the body's end

-- the body as the content of a head, whose tails the write of this number made
abbrev pub head_of : ℕ → Draft → NewHead
head_of write draft = record {
  manifest = record { write = write; stripe = draft.body.stripe; size = length draft.body.bytes };
  first = first_bytes draft.body.stripe draft.body.bytes;
  kind = draft.kind;
  meta = draft.meta;
  etag = md5 draft.body.bytes;
}

-- the head is to be given that content
abbrev pub update_of : ℕ → Key → Draft → IndexUpdate
update_of write key draft =
    begun draft.target (ups.Preparing key (Write (head_of write draft) draft.when))

abbrev pub changing : ℕ → Key → Draft → Stage
changing write key draft = Changing (md5 draft.body.bytes) (update_of write key draft)

-- the body was read whole, and all its tails were made: the ETag that was sent is compared
abbrev pub taken : ℕ → Key → Draft → Stage
taken write key draft =
    if is_other_etag draft.etag draft.body.bytes then Ended (Done (Refused OtherEtag)) else changing write key draft

-- no tail waits: more bytes come, or the body's end decides
abbrev pub closed : ℕ → Key → Draft → Option BodyEnd → Stage
closed write key draft None = Feeding write key draft
closed write key draft (Some ends.Failed) = Ended BodyFailed
closed write key draft (Some ends.Whole) = taken write key draft

-- the body's end decides once no tail waits
abbrev pub settled : Stage → Stage
settled (Feeding write key draft) =
    if has_tail draft.body then Feeding write key draft else closed write key draft draft.body.end
settled (Changing etag update) = after_update etag update
settled stage = stage

-- ---- operations

-- the operation that comes next
abbrev pub op_of : Stage → Op
op_of (Looking draft) = ops.BucketRead draft.target.zone draft.target.container
op_of (Feeding write key draft) =
    ops.TailMake draft.target.zone write (draft.body.tails + 1) (tail_bytes draft.body.stripe draft.body.bytes (draft.body.tails + 1))
op_of (Changing etag update) = next_op update
op_of (Ended outcome) = ops.BucketRead 0 []

-- the draft, one of whose tails was taken out
abbrev pub draft_rest : Draft → Draft
draft_rest draft = record { target = draft.target; body = without_tail draft.body; kind = draft.kind; meta = draft.meta; etag = draft.etag; when = draft.when }

-- what is left of a stage of the body meanwhile
abbrev pub left_of : Stage → Stage
left_of (Feeding write key draft) = Feeding write key (draft_rest draft)
left_of stage = stage

-- ---- answers

-- the first read of the row has this number
abbrev pub by_first_place : ℕ → Draft → Result Key Refusal → Stage
by_first_place number draft (Err refusal) = Ended (Done (Refused refusal))
by_first_place number draft (Ok key) = Feeding number key draft

-- what a PUT ends with whose tail found no room
abbrev pub no_room : Reply → Option Outcome
no_room (replies.No (whys.NoSpace free needed)) = Some (NoSpace free needed)
no_room reply = None

-- a tail was made, or found no room
abbrev pub by_tail : ℕ → Key → Draft → Reply → Stage
by_tail write key draft reply = ended_or (Feeding write key draft) (no_room reply)

-- the stage of a body, of which this was left, after an answer with this number
abbrev pub resumed : Stage → ℕ → Reply → Stage
resumed (Looking draft) number reply = by_first_place number draft (place_of draft.target (row_shown reply))
resumed (Feeding write key draft) number reply = by_tail write key draft reply
resumed stage number reply = stage

-- the stage after an answer to its operation
abbrev pub step_of : Stage → ℕ → Reply → Stage
step_of (Looking draft) number reply = by_first_place number draft (place_of draft.target (row_shown reply))
step_of (Feeding write key draft) number reply = by_tail write key (draft_rest draft) reply
step_of (Changing etag update) number reply = after_update etag (update_stepped update reply)
step_of stage number reply = stage
