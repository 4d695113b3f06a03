-- An event of a PUT: where its task then stands, whatever the door tells.
use Rattle.std.proofs.Common.{◌≡◌, ℕ, List, Option, Some, None, refl, sym, subst}
use Rattle.object_words.specs.declared.bucket.Bucket.{Bucket}
use Rattle.object_words.specs.declared.why.Why.TheVariants as whys
use Rattle.realm_model.specs.declared.event.Reply.{Reply}
use Rattle.realm_model.specs.declared.event.Reply.TheVariants as replies
use Rattle.realm_model.specs.Shown.{row_shown}
use Rattle.rgw_types.specs.declared.pool_key.Key.{Key}
use Rattle.swift_auth.specs.declared.policy.Deed.TheVariants.{ChangeThing}
use Rattle.swift_auth.specs.declared.policy.Verdict.{Verdict}
use Rattle.swift_auth.specs.declared.policy.Verdict.TheVariants.{Granted, Unknown, Denied}
use Rattle.swift_auth.specs.Policies.{found_under, verdict_of}
use Rattle.task_words.specs.declared.reply.Refusal.TheVariants.{Unauthorized, NoContainer}
use Rattle.task_words.specs.declared.reply.Refusal.TheVariants as refusals
use Rattle.task_words.specs.Rows.{refusal_by}
use Rattle.index_update.specs.declared.stage.Stage.{Stage as UpdateStage}
use Rattle.index_update.specs.declared.stage.Stage.TheVariants as ups
use Rattle.index_update.specs.declared.stage.Updated.{Updated}
use Rattle.index_update.specs.declared.stage.Updated.TheVariants as ends
use Rattle.index_update.specs.declared.update.IndexUpdate.{IndexUpdate}
use Rattle.index_update.specs.Refusals.{IsEndOfRow, OnlyRowsRefuse}
use Rattle.index_update.specs.Stages.{IsReady as IsUpdateReady, place_by, tried_after}
use Rattle.index_update.specs.Updates.{stepped as update_stepped}
use Rattle.index_update.proofs.Refusing.{refused_by_rows}
use Rattle.task_put.specs.declared.stage.PutRequest.{PutRequest}
use Rattle.task_put.specs.declared.stage.Draft.{Draft}
use Rattle.task_put.specs.declared.stage.Stage.{Stage}
use Rattle.task_put.specs.declared.stage.Stage.TheVariants.{Looking, Feeding, Changing, Ended}
use Rattle.task_put.specs.declared.task.PutTask.{PutTask}
use Rattle.task_put.specs.Stages.{IsReady, outcome_of, after_stage, draft_rest, by_first_place, by_tail, step_of}
use Rattle.task_put.specs.Tasks.{request_of, stage_of}
use Rattle.task_put.specs.Stepped.{stepped}
use Rattle.put_service.specs.Standing.{IsOf, IsByEvent, IsSteadyAt, IsSteady}

-- what an update ends with
by_update : (etag : List ℕ) (end : Updated) → IsEndOfRow end → IsByEvent (outcome_of etag end)
by_update etag (ends.Changed stamp old) only = (tt, refl)
by_update etag (ends.Refused Unauthorized) only = (tt, refl)
by_update etag (ends.Refused (refusals.Denied rule)) only = (tt, refl)
by_update etag (ends.Refused NoContainer) only = (tt, refl)
by_update etag (ends.Refused refusal) only = absurd only
by_update etag end only = (tt, refl)

module _ (r : PutRequest) where
  first_row : (number : ℕ) (draft : Draft) (v : Verdict) (found row : Option Bucket) (name : List ℕ) → IsOf r draft → IsSteadyAt r (by_first_place number draft (place_by (refusal_by v found) row name))
  first_row number draft Unknown found row name s = (tt, refl)
  first_row number draft Granted None row name s = (tt, refl)
  first_row number draft (Denied rule) None row name s = (tt, refl)
  first_row number draft (Denied rule) (Some b) row name s = (tt, refl)
  first_row number draft Granted (Some b) None name s = (tt, refl)
  first_row number draft Granted (Some b) (Some row) name s = s

  tail_made : (write : ℕ) (key : Key) (draft : Draft) (reply : Reply) → IsOf r draft → IsSteadyAt r (by_tail write key draft reply)
  tail_made write key draft (replies.No (whys.NoSpace free needed)) s = (tt, refl)
  tail_made write key draft reply s = s

  update_made : (etag : List ℕ) (u : IndexUpdate) (stage : UpdateStage) → u.stage ≡ stage → OnlyRowsRefuse stage → IsSteadyAt r (after_stage etag u stage)
  update_made etag u (ups.Ended end) is only = by_update etag end only
  update_made etag u stage is only = (subst IsUpdateReady (sym is) tt, subst OnlyRowsRefuse (sym is) only)

  steady_step : (stage : Stage) (number : ℕ) (reply : Reply) → IsReady stage → IsSteadyAt r stage → IsSteadyAt r (step_of stage number reply)
  steady_step (Looking draft) number reply ready s =
      let t = draft.target in
      let row = row_shown reply in
      first_row number draft (verdict_of t.asker.user t.asker.account row ChangeThing) (found_under t.asker.account row) row t.name s
  steady_step (Feeding write key draft) number reply ready s = tail_made write key (draft_rest draft) reply (record { bytes = s.bytes; end = s.end })
  steady_step (Changing etag u) number reply ready s =
      update_made etag (update_stepped u reply) (update_stepped u reply).stage refl (refused_by_rows u.target (tried_after u.tried reply) u.stage reply s.1)
  steady_step (Ended outcome) number reply ready s = absurd ready

-- the task stands steady behind an event
pub steady_after : (t u : PutTask) → IsReady (stage_of t) → IsSteady t → (number : ℕ) × (reply : Reply) × (u ≡ stepped t number reply) → IsSteady u
steady_after t u ready s (number, reply, is) = subst IsSteady (sym is) (steady_step (request_of t) t.stage number reply ready s)
