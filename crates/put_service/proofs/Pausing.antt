-- Where the task of a PUT pauses.
use Rattle.std.proofs.Common.{◌≡◌, ℕ, ◌<◌, ◌≤◌, true, false, List, ◌++◌, length, Option, Some, None, refl, sym, ap, ◌∙◌, subst}
use Rattle.task_words.specs.Answers.{is_other_etag}
use Rattle.task_words.specs.declared.command.BodyEnd.{BodyEnd}
use Rattle.task_words.specs.declared.command.BodyEnd.TheVariants as ends
use Rattle.task_put.specs.Bodies.{most_bytes, has_tail, first_end}
use Rattle.task_put.specs.Stages.{IsOver, IsReady, settled, closed, taken}
use Rattle.task_put.specs.Taking.{WantsBytes, room_at, fed_request, fed_stage, ended_request, ended_stage}
use Rattle.task_put.specs.Tasks.{request_of, stage_of, decided, fed, body_ended, fits as stages_fit}
use Rattle.task_put.specs.Runs.{fits, with_stages}
use Rattle.task_put.proofs.Readying.{still_changing}
use Rattle.task_put.proofs.Running.{lifted, settled_run}
use Rattle.index_update.specs.declared.stage.Stage.{Stage as UpdateStage}
use Rattle.index_update.specs.declared.stage.Stage.TheVariants as ups
use Rattle.index_update.specs.Stages.{IsOver as IsUpdateOver, IsReady as IsUpdateReady}
use Rattle.realm_door.specs.declared.stepping.Stepping.{Stepping}
use Rattle.realm_model.specs.Settings.{SettingsView}
use Rattle.realm_model.specs.Doors.{DoorView}
use Rattle.task_put.specs.declared.stage.PutRequest.{PutRequest}
use Rattle.task_put.specs.declared.stage.Stage.{Stage}
use Rattle.task_put.specs.declared.stage.Stage.TheVariants.{Looking, Feeding, Changing, Ended}
use Rattle.task_put.specs.declared.task.PutTask.{PutTask}
use Rattle.put_service.specs.Standing.{IsUp, IsByBody, IsSteadyAt, IsSteady}

pub wants_open : (stage : Stage) → WantsBytes stage → IsOver stage → ⊥
wants_open (Ended outcome) w o = w
wants_open (Looking draft) w o = o
wants_open (Feeding write key draft) w o = o
wants_open (Changing etag u) w o = o

pub ready_open : (stage : Stage) → IsReady stage → IsOver stage → ⊥
ready_open (Ended outcome) w o = w
ready_open (Looking draft) w o = o
ready_open (Feeding write key draft) w o = o
ready_open (Changing etag u) w o = o

update_open : (stage : UpdateStage) → IsUpdateReady stage → IsUpdateOver stage → ⊥
update_open (ups.Ended end) ready over = ready
update_open stage ready over = over

-- ---- the end of the body

-- as long as the body's end does not decide, the task stands steady
steady_settled : (r : PutRequest) (stage : Stage) → (IsOver (settled stage) → ⊥) → IsSteadyAt r stage → IsSteadyAt r (settled stage)
steady_settled r (Feeding write key draft) going s = by (has_tail draft.body) refl
  where
    by_etag : (b : _) → is_other_etag draft.etag draft.body.bytes ≡ b → (IsOver (taken write key draft) → ⊥) → IsSteadyAt r (taken write key draft)
    by_etag true is going = let clash = rw is at going in absurd (clash tt)
    by_etag false is going = rw is (tt, tt)

    by_close : (end : Option BodyEnd) → (IsOver (closed write key draft end) → ⊥) → IsSteadyAt r (closed write key draft end)
    by_close None going = s
    by_close (Some ends.Failed) going = absurd (going tt)
    by_close (Some ends.Whole) going = by_etag (is_other_etag draft.etag draft.body.bytes) refl going

    by : (b : _) → has_tail draft.body ≡ b → IsSteadyAt r (settled (Feeding write key draft))
    by true is = rw is s
    by false is = let still = rw is at going in rw is (by_close draft.body.end still)
steady_settled r (Looking draft) going s = s
steady_settled r (Changing etag u) going s = subst (IsSteadyAt r) (sym (still_changing etag u (update_open u.stage s.0))) s
steady_settled r (Ended outcome) going s = s

-- where no event brought the outcome, the body's end did
settled_by_body : (r : PutRequest) (stage : Stage) → (IsOver stage → ⊥) → IsSteadyAt r stage → IsOver (settled stage) → IsByBody r.end (settled stage)
settled_by_body r (Feeding write key draft) going s over = subst (λ e. IsByBody e (settled (Feeding write key draft))) s.end (by (has_tail draft.body) refl)
  where
    by_etag : (b : _) → is_other_etag draft.etag draft.body.bytes ≡ b → IsOver (taken write key draft) → IsByBody (Some ends.Whole) (taken write key draft)
    by_etag true is over = rw is tt
    by_etag false is over = let clash = rw is at over in absurd clash

    by_close : (end : Option BodyEnd) → IsOver (closed write key draft end) → IsByBody end (closed write key draft end)
    by_close None over = absurd over
    by_close (Some ends.Failed) over = tt
    by_close (Some ends.Whole) over = by_etag (is_other_etag draft.etag draft.body.bytes) refl over

    by : (b : _) → has_tail draft.body ≡ b → IsByBody draft.body.end (settled (Feeding write key draft))
    by true is = let clash = rw is at over in absurd clash
    by false is = let closes = rw is at over in rw is (by_close draft.body.end closes)
settled_by_body r (Looking draft) going s over = absurd over
settled_by_body r (Changing etag u) going s over = absurd (subst IsOver (still_changing etag u (update_open u.stage s.0)) over)
settled_by_body r (Ended outcome) going s over = absurd (going over)

pub steady_wanting : (t u : PutTask) → u ≡ decided t → IsSteady t → WantsBytes (stage_of u) → IsSteady u
steady_wanting t u is s w =
    let wants : WantsBytes (settled t.stage) = subst (λ (x : PutTask). WantsBytes x.stage) is w in
    subst IsSteady (sym is) (steady_settled (request_of t) t.stage (wants_open (settled t.stage) wants) s)

pub steady_ready : (t u : PutTask) → u ≡ decided t → IsSteady t → IsReady (stage_of u) → IsSteady u
steady_ready t u is s w =
    let ready : IsReady (settled t.stage) = subst (λ (x : PutTask). IsReady x.stage) is w in
    subst IsSteady (sym is) (steady_settled (request_of t) t.stage (ready_open (settled t.stage) ready) s)

pub by_body : (t u : PutTask) → u ≡ decided t → (IsOver (stage_of t) → ⊥) → IsSteady t → IsOver (stage_of u) → IsByBody (request_of u).end (stage_of u)
by_body t u is going s o =
    let over : IsOver (settled t.stage) = subst (λ (x : PutTask). IsOver x.stage) is o in
    subst (λ (x : PutTask). IsByBody (request_of x).end x.stage) (sym is) (settled_by_body (request_of t) t.stage going s over)

-- the door's events bring it there
pub up_decided : (tells : Type 0) (settings : SettingsView) (t : Stepping PutTask) (u : PutTask) (d : DoorView) → u ≡ decided t.stages → IsUp tells settings t d → IsUp tells settings (with_stages t u) d
up_decided tells settings t u d is up =
    λ told. ((up told).0, subst (λ (x : PutTask). fits (with_stages t x) settings d) (sym is) (settled_run settings d t (up told).1))

-- so they do where its stages fit as they did
pub up_stages : (tells : Type 0) (settings : SettingsView) (t : Stepping PutTask) (u : PutTask) (d : DoorView) → ((other : SettingsView) (e : DoorView) → stages_fit t.stages other e → stages_fit u other e)
    → IsUp tells settings t d → IsUp tells settings (with_stages t u) d
up_stages tells settings t u d on up =
    λ told. ((up told).0, lifted t.fault (stages_fit t.stages settings d) (stages_fit u settings d) (on settings d) (up told).1)

-- ---- bytes

fed_steady : (r : PutRequest) (stage : Stage) (more : List ℕ) → IsSteadyAt r stage → IsSteadyAt (fed_request r more) (fed_stage stage more)
fed_steady r (Looking draft) more s = record { bytes = ap (λ l. l ++ more) s.bytes; end = s.end }
fed_steady r (Feeding write key draft) more s = record { bytes = ap (λ l. l ++ more) s.bytes; end = s.end }
fed_steady r (Changing etag u) more s = s
fed_steady r (Ended outcome) more s = s

ended_steady : (r : PutRequest) (stage : Stage) (end : BodyEnd) → IsSteadyAt r stage → IsSteadyAt (ended_request r end) (ended_stage stage end)
ended_steady r (Looking draft) end s = record { bytes = s.bytes; end = ap (λ e. first_end e end) s.end }
ended_steady r (Feeding write key draft) end s = record { bytes = s.bytes; end = ap (λ e. first_end e end) s.end }
ended_steady r (Changing etag u) end s = s
ended_steady r (Ended outcome) end s = s

pub steady_fed : (t u : PutTask) (more : List ℕ) → u ≡ fed t more → IsSteady t → IsSteady u
steady_fed t u more is s = subst IsSteady (sym is) (fed_steady (request_of t) t.stage more s)

pub steady_ended : (t u : PutTask) (end : BodyEnd) → u ≡ body_ended t end → IsSteady t → IsSteady u
steady_ended t u end is s = subst IsSteady (sym is) (ended_steady (request_of t) t.stage end s)

-- bytes that are wanted are taken, as long as the body is not the largest
pub wants_room : (r : PutRequest) (stage : Stage) → IsSteadyAt r stage → WantsBytes stage → length r.bytes < most_bytes → 1 ≤ room_at stage
wants_room r (Feeding write key draft) s w few = w.1 (subst (λ l. length l < most_bytes) (sym s.bytes) few)
wants_room r (Looking draft) s w few = absurd w
wants_room r (Changing etag u) s w few = absurd w
wants_room r (Ended outcome) s w few = absurd w

-- bytes are wanted only of a body that has not ended
pub wants_unended : (r : PutRequest) (stage : Stage) → IsSteadyAt r stage → WantsBytes stage → r.end ≡ None
wants_unended r (Feeding write key draft) s w = sym s.end ∙ w.0
wants_unended r (Looking draft) s w = absurd w
wants_unended r (Changing etag u) s w = absurd w
wants_unended r (Ended outcome) s w = absurd w
