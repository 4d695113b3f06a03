-- A PUT whose client waits for a 100.
use Rattle.std.proofs.Common.{◌≡◌, ℕ, inl, inr, Bool, true, false, List, [], None, refl, sym, ap, ◌∙◌, subst}
use Rattle.std.specs.Io.KnownBytes.{Consumes, Appends}
use Rattle.std.proofs.KnownBytes.{Appends-nil}
use Rattle.http_model.specs.declared.reply.ReplyForm.{ReplyForm}
use Rattle.realm_model.specs.Doors.{actor_at}
use Rattle.realm_model.specs.Owns.{OwnEvent, own_events}
use Rattle.realm_model.specs.Settings.{SettingsView}
use Rattle.realm_model.specs.declared.event.Event.{Event}
use Rattle.swift_auth.specs.declared.policy.Deed.TheVariants.{ChangeThing}
use Rattle.swift_requests.specs.declared.asked.Asked.TheVariants.{Put}
use Rattle.swift_requests.specs.declared.body.BodyUse.TheVariants.{Fed, Unread}
use Rattle.task_words.specs.declared.asker.Asker.{Asker}
use Rattle.task_words.specs.declared.command.PutCommand.{PutCommand}
use Rattle.task_words.specs.declared.outcome.Outcome.{Outcome}
use Rattle.task_words.specs.declared.outcome.Outcome.TheVariants.{Done, Busy, MovedOften, LateTag, NoSpace}
use Rattle.task_words.specs.declared.reply.MapReply.TheVariants.{Stored, Refused}
use Rattle.realm_door.specs.declared.stepping.Stepping.{Stepping}
use Rattle.task_put.specs.Stages.{IsOver}
use Rattle.task_put.specs.Runs.{request_of, stage_of, fault_of}
use Rattle.task_put.specs.Tasks.{IsPutEnd}
use Rattle.task_put.specs.declared.stage.PutRequest.{PutRequest}
use Rattle.task_put.specs.declared.stage.Stage.{Stage}
use Rattle.task_put.specs.declared.stage.Stage.TheVariants.{Ended}
use Rattle.task_put.specs.declared.task.PutTask.{PutTask}
use Rattle.call_words.specs.Bodies.{unread}
use Rattle.call_words.specs.Ends.{TaskEnd, on_object, body_failed}
use Rattle.call_words.specs.Calls.{ReadsRowAlone, ReadsRowFirst, first_refuses}
use Rattle.call_words.specs.Texts.{HasReply, told_reply, outcome_reply, front_if}
use Rattle.call_service.specs.Serving.{Site, Side, is_by_end, AppendsFront, LeavesText, BearsOutSoFar, body_of, IsNew, LeavesUnwritten, IsServed, IsStopped}
use Rattle.door_moments.specs.Acts.{Asks}
use Rattle.call_service.specs.declared.fault.ServeFault.{ServeFault}
use Rattle.call_service.specs.declared.fault.ServeFault.TheVariants as faults
use Rattle.call_service.specs.declared.served.Served.TheVariants as services
use Rattle.call_service.specs.Waiting.{Answers, IsServedWaiting, IsStoppedWaiting, IsPutStopped}
use Rattle.call_service.specs.declared.served.Served.{Served}
use Rattle.call_words.specs.Texts.{continue_text}
use Rattle.door_moments.proofs.Asking.{none_asks}
use Rattle.call_service.proofs.Passing.{none_come}
use Rattle.put_service.specs.Leaving.{left_text, HasLooked}
use Rattle.task_put.proofs.Running.{run_means}
use Rattle.put_service.specs.Parts.{site_at, DoesSo}
use Rattle.put_service.proofs.Doing.{has_done, done_of, nothing_done}
use Rattle.put_service.proofs.Joining.{fed_none}
use Rattle.put_service.proofs.Serving.{first_is}
use Rattle.put_service.specs.Standing.{IsUp, IsSteady, IsSteadyAt, IsEnd, IsByEvent}
use Rattle.put_service.proofs.Ending.{by_event}
use Rattle.put_service.proofs.Orders.{of_put}

-- ---- where it does not

-- such an end has a reply, which shows no bytes
pub left_has_reply : (outcome : Outcome) → IsEnd outcome → HasReply (outcome_reply None outcome)
left_has_reply (Done (Stored etag stamp)) is = tt
left_has_reply (Done (Refused why)) is = tt
left_has_reply (Busy id) is = tt
left_has_reply MovedOften is = tt
left_has_reply LateTag is = tt
left_has_reply (NoSpace free needed) is = tt
left_has_reply (Done reply) is = absurd is
left_has_reply outcome is = absurd is

pub left_front : (form : ReplyForm) (outcome : Outcome) → IsEnd outcome → front_if (record form { close = true }) (outcome_reply None outcome) ≡ left_text form (Ended outcome)
left_front form (Done (Stored etag stamp)) is = refl
left_front form (Done (Refused why)) is = refl
left_front form (Busy id) is = refl
left_front form MovedOften is = refl
left_front form LateTag is = refl
left_front form (NoSpace free needed) is = refl
left_front form (Done reply) is = absurd is
left_front form outcome is = absurd is

-- where the first pause is the end of the task, it is such an end
pub ended_end : (t : Stepping PutTask) (outcome : Outcome) → stage_of t ≡ Ended outcome → IsSteady t.stages → IsEnd outcome
ended_end t outcome ended steady = (subst (IsSteadyAt (request_of t)) ended steady).0

told_unread : (outcome : Outcome) → IsEnd outcome → HasReply (told_reply None unread outcome)
told_unread (Done (Stored etag stamp)) is = tt
told_unread (Done (Refused why)) is = tt
told_unread (Busy id) is = tt
told_unread MovedOften is = tt
told_unread LateTag is = tt
told_unread (NoSpace free needed) is = tt
told_unread (Done reply) is = absurd is
told_unread outcome is = absurd is

abbrev object_in : TaskEnd → Outcome
object_in (on_object outcome) = outcome
object_in end = MovedOften

not_failed : (outcome : Outcome) → IsEnd outcome → on_object outcome ≡ body_failed → ⊥
not_failed outcome is failed = subst IsEnd (ap object_in failed) is

module _ (tells alone : Type 0) (site : Site) (form : ReplyForm) (asker : Asker) (c : PutCommand) (found : List Event) (x y : Side) (same : (y.intake) ≡ x.intake) (left : Consumes x.ends.left y.ends.left [])
    (asks : Asks tells alone site.settings false x.door y.door x.ends.told y.ends.told) (so_far : tells → BearsOutSoFar site (Put asker c) (body_of []) y.door) where
  module _ (outcome : Outcome) (is : IsByEvent outcome) (right : tells → IsPutEnd (record { zone = site.zone; asker = asker; command = c; bytes = []; end = None }) outcome site.settings y.door) where
    asks_so : Asks tells alone site.settings (is_by_end (on_object outcome)) x.door y.door x.ends.told y.ends.told
    asks_so = subst (λ b. Asks tells alone site.settings b x.door y.door x.ends.told y.ends.told) (sym is.1) asks

    -- the reply was written, and the body left
    pub left_served : Appends x.ends.taken y.ends.taken (left_text form (Ended outcome)) → IsServed tells alone site form (Put asker c) Unread x y services.Closed
    left_served written = (
      unread,
      tt,
      refl,
      record {
        body = [];
        has_fate = (refl, same, left);
        outcome = on_object outcome;
        shown = [];
        written = written;
        right = λ told. ((right told).0, told_unread outcome is.0, refl, of_put (own_events y.door.seen (actor_at y.door)) (right told).1, (right told).2 [] tt, (right told).1);
        asks = asks_so;
      },
      not_failed outcome is.0,
    )

    pub left_stops : (fault : ServeFault) → LeavesText x.ends.taken y.ends.taken (left_text form (Ended outcome)) fault → IsStopped tells alone site form (Put asker c) Unread found x y fault
    left_stops faults.OutOfMemory leaves = inl (body_of [], ((refl, same, left), refl), is_by_end (on_object outcome), record { unwritten = leaves; asks = asks_so; so_far = so_far })
    left_stops faults.WriteFault leaves = (
      record {
        fate = unread;
        suits = tt;
        body = [];
        has_fate = (refl, same, left);
        outcome = on_object outcome;
        shown = [];
        written = leaves;
        right = λ told. ((right told).0, told_unread outcome is.0, refl, of_put (own_events y.door.seen (actor_at y.door)) (right told).1, (right told).2 [] tt, (right told).1);
        more = is_by_end (on_object outcome);
        asks = asks_so;
      },
      refl,
    )
    left_stops fault leaves = absurd leaves

-- memory was wanting before anything was done
nothing_left : (tells alone : Type 0) (site : Site) (asker : Asker) (c : PutCommand) (x : Side) → (tells → IsNew site.settings x.door) → LeavesUnwritten tells alone site (Put asker c) (body_of []) false x x
nothing_left tells alone site asker c x new = record {
  unwritten = Appends-nil x.ends.taken;
  asks = none_asks tells alone site.settings x.door x.ends.told (λ told. (new told).legal);
  so_far = λ told. nothing_done site asker c x.door (new told).account (new told).events;
}

pub nothing_stops : (waits : Bool) (tells alone : Type 0) (site : Site) (form : ReplyForm) (asker : Asker) (c : PutCommand) (found : List Event) (x : Side) → (x.intake).failed ≡ None → (tells → IsNew site.settings x.door)
    → IsPutStopped waits tells alone site form asker c found x x faults.OutOfMemory
nothing_stops false tells alone site form asker c found x sound new = inl (body_of [], none_come Fed x.intake x.ends.left sound, false, nothing_left tells alone site asker c x new)
nothing_stops true tells alone site form asker c found x sound new = inl (inl (body_of [], none_come Unread x.intake x.ends.left sound, false, nothing_left tells alone site asker c x new))

-- ---- behind the read of the row

reads_first : {zone : ℕ} {container : List ℕ} {events : List OwnEvent} → ReadsRowAlone zone container events → ReadsRowFirst zone container events
reads_first reads = record { look = reads.look; others = []; begins = reads.alone; op = reads.op }

module _ (tells alone : Type 0) (settings : SettingsView) (form : ReplyForm) (r : PutRequest) (none : r.bytes ≡ []) (unended : r.end ≡ None) (t : Stepping PutTask) (x y : Side)
    (same : (y.intake) ≡ x.intake) (left : Consumes x.ends.left y.ends.left []) (asks : Asks tells alone settings false x.door y.door x.ends.told y.ends.told)
    (is_request : request_of t ≡ r) (sound : fault_of t ≡ None) (up : IsUp tells settings t y.door) (looked : HasLooked tells t y.door) where
  so_far : tells → DoesSo settings r (body_of []) y.door
  so_far = done_of tells settings r (request_of t) y.door none unended [] [] [] None refl (is_request ∙ sym (fed_none r)) (has_done tells settings t y.door sound (λ told. (up told).1))

  row_alone : tells → ReadsRowAlone r.zone r.command.container (own_events y.door.seen (actor_at y.door))
  row_alone told = subst (λ (q : PutRequest). ReadsRowAlone q.zone q.command.container (own_events y.door.seen (actor_at y.door))) is_request (looked.looks told)

  -- the outcome was there
  module _ (steady : IsSteady t.stages) (over : IsOver (stage_of t)) (found : List Event) where
    right_at : (outcome : Outcome) → stage_of t ≡ Ended outcome → tells → IsPutEnd (record { zone = r.zone; asker = r.asker; command = r.command; bytes = []; end = None }) outcome settings y.door
    right_at outcome ended told =
        subst (λ (q : PutRequest). IsPutEnd q outcome settings y.door) (is_request ∙ first_is r none unended) (run_means t settings y.door outcome ended sound (up told).1)

    pub over_served : (s : Served) → (s ≡ services.Closed) × Appends x.ends.taken y.ends.taken (left_text form (stage_of t)) → IsServedWaiting tells alone (site_at settings r) form r.asker r.command x y s
    over_served s (is, written) =
        let by = by_event (request_of t) (stage_of t) steady over in
        inl (
          is,
          left_served tells alone (site_at settings r) form r.asker r.command found x y same left asks so_far by.0 by.2 (right_at by.0 by.1)
              (subst (λ (stage : Stage). Appends x.ends.taken y.ends.taken (left_text form stage)) by.1 written),
          λ told. (reads_first (row_alone told), subst (λ (q : PutRequest). first_refuses q.asker ChangeThing (own_events y.door.seen (actor_at y.door)) ≡ true) is_request (looked.refuses over told)),
        )

    pub over_stops : (fault : ServeFault) → LeavesText x.ends.taken y.ends.taken (left_text form (stage_of t)) fault
        → IsStoppedWaiting tells alone (site_at settings r) form r.asker r.command found x y fault
    over_stops fault leaves =
        let by = by_event (request_of t) (stage_of t) steady over in
        inl (left_stops tells alone (site_at settings r) form r.asker r.command found x y same left asks so_far by.0 by.2 (right_at by.0 by.1) fault
        (subst (λ (stage : Stage). LeavesText x.ends.taken y.ends.taken (left_text form stage) fault) by.1 leaves))

  -- the body is wanted
  module _ (wants : IsOver (stage_of t) → ⊥) where
    answers : (grown : List ℕ → Type 0) → grown continue_text → Answers tells alone (site_at settings r) r.asker r.command x y grown
    answers grown written = record {
      written = written;
      intake = same;
      unread = left;
      asks = asks;
      looks = row_alone;
      granted = λ told. subst (λ (q : PutRequest). first_refuses q.asker ChangeThing (own_events y.door.seen (actor_at y.door)) ≡ false) is_request (looked.grants wants told);
      so_far = so_far;
    }

    -- the 100 was not written whole
    pub halted : (found : List Event) (fault : ServeFault) → fault ≡ faults.WriteFault → AppendsFront x.ends.taken y.ends.taken continue_text → IsStoppedWaiting tells alone (site_at settings r) form r.asker r.command found x y fault
    halted found fault is front = inr (inl (is, answers (AppendsFront x.ends.taken y.ends.taken) front))

    module _ (went : Appends x.ends.taken y.ends.taken continue_text) (z : Side) where
      pub further_served : (s : Served) → IsServed tells alone (site_at settings r) form (Put r.asker r.command) Fed y z s → IsServedWaiting tells alone (site_at settings r) form r.asker r.command x z s
      further_served s goes = inr (record { between = y; continues = answers (Appends x.ends.taken y.ends.taken) went; goes = goes })

      pub further_stops : (found : List Event) (fault : ServeFault) → IsStopped tells alone (site_at settings r) form (Put r.asker r.command) Fed found y z fault → IsStoppedWaiting tells alone (site_at settings r) form r.asker r.command found x z fault
      further_stops found fault goes = inr (inr (record { between = y; continues = answers (Appends x.ends.taken y.ends.taken) went; goes = goes }))
