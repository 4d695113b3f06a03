-- A PUT as a whole: what its parts come to, beside what was written.
use Rattle.std.proofs.Common.{◌≡◌, ℕ, inl, Bool, true, false, List, [], ◌++◌, Option, None, refl, sym, ap, ◌∙◌, subst}
use Rattle.std.specs.Io.KnownBytes.{Appends}
use Rattle.gw_io.specs.Ends.{EndsState}
use Rattle.http_model.specs.declared.reply.ReplyForm.{ReplyForm}
use Rattle.http_intake.specs.Intake.{IntakeState}
use Rattle.http_intake.specs.Grammar.{GoesWrongBy}
use Rattle.realm_model.specs.Doors.{DoorView}
use Rattle.realm_model.specs.declared.event.Event.{Event}
use Rattle.swift_requests.specs.declared.asked.Asked.TheVariants.{Put}
use Rattle.swift_requests.specs.declared.body.BodyUse.TheVariants.{Fed}
use Rattle.call_words.specs.Bodies.{read_whole, broken_off, Suits}
use Rattle.call_words.specs.Ends.{on_object}
use Rattle.call_words.specs.Calls.{body_at}
use Rattle.task_words.specs.declared.asker.Asker.{Asker}
use Rattle.task_words.specs.declared.command.PutCommand.{PutCommand}
use Rattle.task_words.specs.declared.outcome.Outcome.{Outcome}
use Rattle.task_words.specs.declared.outcome.Outcome.TheVariants.{Done, BodyFailed, Busy, MovedOften, RacedOften, LateTag, LateRead, NoSpace}
use Rattle.http_chunks.specs.declared.body.BodyEnd.{BodyEnd}
use Rattle.http_chunks.specs.declared.body.BodyEnd.TheVariants as Body
use Rattle.realm_door.specs.declared.stepping.Stepping.{Stepping}
use Rattle.task_put.specs.Bodies.{no_bytes}
use Rattle.task_put.specs.Tasks.{request_of as stages_request}
use Rattle.task_put.specs.Runs.{stage_of}
use Rattle.task_put.specs.declared.stage.PutRequest.{PutRequest}
use Rattle.task_put.specs.declared.stage.Draft.{Draft}
use Rattle.task_put.specs.declared.stage.Stage.{Stage}
use Rattle.task_put.specs.declared.stage.Stage.TheVariants.{Looking, Ended}
use Rattle.task_put.specs.declared.task.PutTask.{PutTask}
use Rattle.call_service.specs.Bodies.{HasFate}
use Rattle.call_service.proofs.Passing.{fate_come}
use Rattle.call_service.specs.Serving.{Site, Side, side, is_by_end, AppendsFront, form_at, IsServed, IsReplied, StopsShort, IsCutOff, IsLeft, IsStopped, LeavesText}
use Rattle.call_service.specs.declared.fault.ServeFault.{ServeFault}
use Rattle.call_service.specs.declared.fault.ServeFault.TheVariants as faults
use Rattle.put_service.specs.Standing.{IsSteady, IsSteadyAt, IsEndAt}
use Rattle.put_service.specs.Parts.{Place, place, IsRefusedStep, RunsShort, StopsBody, HasEnded, fate_of, RunsTask, text_of, served_so}
use Rattle.put_service.proofs.Replying.{end_has_reply}

abbrev outcome_in : Stage → Outcome
outcome_in (Ended outcome) = outcome
outcome_in stage = MovedOften

-- a new task stands steady
pub steady_new : (t : PutTask) (r : PutRequest) (stripe : ℕ) → stages_request t ≡ r → r.bytes ≡ [] → r.end ≡ None → (draft : Draft) × (t.stage ≡ Looking draft) × (draft.body ≡ no_bytes stripe) → IsSteady t
steady_new t r stripe request none unended (draft, looks, new) =
    subst (IsSteadyAt (stages_request t)) (sym looks) (record {
      bytes = ap (λ b. b.bytes) new ∙ sym (ap (λ q. q.bytes) request ∙ none);
      end = ap (λ b. b.end) new ∙ sym (ap (λ q. q.end) request ∙ unended);
    })

-- what a task of a PUT is asked at first
abbrev pub first_request : ℕ → Asker → PutCommand → PutRequest
first_request zone asker c = record { zone = zone; asker = asker; command = c; bytes = []; end = None }

-- a request whose body has no byte and no end yet is that
pub first_is : (r : PutRequest) → r.bytes ≡ [] → r.end ≡ None → r ≡ record { zone = r.zone; asker = r.asker; command = r.command; bytes = []; end = None }
first_is r none unended = λ i. record { zone = r.zone; asker = r.asker; command = r.command; bytes = none i; end = unended i }

-- chunks do not go wrong so
never_cut : (chunked : Bool) (intake : IntakeState) (bytes came : List ℕ) → GoesWrongBy chunked intake bytes Body.Cut came → ⊥
never_cut false intake bytes came goes = goes
never_cut true intake bytes came goes = goes.0

-- the ends of a connection
abbrev pub ends_with : (left taken told : Option (List ℕ)) (plan : Option (ℕ → ℕ)) (read_faults write_faults : ℕ) → EndsState
ends_with left taken told plan read_faults write_faults =
    record { left = left; taken = taken; told = told; plan = plan; read_faults = read_faults; write_faults = write_faults }

module _ (tells alone : Type 0) (site : Site) (form : ReplyForm) (asker : Asker) (c : PutCommand) (d e : DoorView) (i j : IntakeState) (old new : EndsState) where
  abbrev from : Side
  from = side d i old

  abbrev to : Side
  to = side e j new

  abbrev Ran : Stepping PutTask → BodyEnd → Type 0
  Ran t end = HasEnded tells alone site.settings (first_request site.zone asker c) t (fate_of end) (place d i old.left old.told) (place e j new.left new.told)

  by_run : (t : Stepping PutTask) (end : BodyEnd) → (end ≡ Body.Cut → ⊥) → RunsTask tells alone site.settings (first_request site.zone asker c) t (place d i old.left old.told) (place e j new.left new.told) end → Ran t end
  by_run t Body.Whole not ran = ran
  by_run t Body.Cut not ran = absurd (not refl)
  by_run t Body.BadChunk not ran = ran
  by_run t Body.TooLarge not ran = ran

  pub has_run : (t : Stepping PutTask) (r : PutRequest) (end : BodyEnd) → r ≡ first_request site.zone asker c → (end ≡ Body.Cut → ⊥) → RunsTask tells alone site.settings r t (place d i old.left old.told) (place e j new.left new.told) end → Ran t end
  has_run t r end request not ran =
      by_run t end not (subst (λ (q : PutRequest). RunsTask tells alone site.settings q t (place d i old.left old.told) (place e j new.left new.told) end) request ran)

  abbrev there : Place
  there = place d i old.left old.told

  abbrev here : Place
  here = place e j new.left new.told

  -- nothing was written
  unwritten : IsRefusedStep tells alone site.settings (first_request site.zone asker c) there here → Appends old.taken new.taken [] → IsLeft tells alone site form (Put asker c) Fed from to
  unwritten x none = inl (x.body, x.came, x.more, record { unwritten = none; asks = x.asks; so_far = x.so_far })

  short_unwritten : RunsShort tells alone site.settings (first_request site.zone asker c) there here → Appends old.taken new.taken [] → StopsShort tells alone site (Put asker c) Fed from to
  short_unwritten x none = record {
    is_read = refl;
    given = x.given;
    falls = x.falls;
    leaves = record { unwritten = none; asks = x.asks; so_far = x.so_far };
  }

  stops_so : (found : List Event) (fault : ServeFault) → Appends old.taken new.taken [] → StopsBody tells alone site.settings (first_request site.zone asker c) found there here fault → IsStopped tells alone site form (Put asker c) Fed found from to fault
  stops_so found faults.ReadFault none stops = short_unwritten stops none
  stops_so found faults.OutOfMemory none stops = unwritten stops none
  stops_so found faults.Worn none (worn, stops) = (worn, unwritten stops none)
  stops_so found fault none stops = absurd stops

  pub stops_unwritten : (r : PutRequest) (found : List Event) (fault : ServeFault) → r ≡ first_request site.zone asker c → Appends old.taken new.taken [] → StopsBody tells alone site.settings r found there here fault
      → IsStopped tells alone site form (Put asker c) Fed found from to fault
  stops_unwritten r found fault request none stops = stops_so found fault none (subst (λ (q : PutRequest). StopsBody tells alone site.settings q found there here fault) request stops)

  pub cut_unwritten : (t : Stepping PutTask) (r : PutRequest) (end : BodyEnd) → r ≡ first_request site.zone asker c → end ≡ Body.Cut → Appends old.taken new.taken [] → RunsTask tells alone site.settings r t there here end → IsCutOff tells alone site (Put asker c) Fed from to
  cut_unwritten t r end request is none ran =
      let cut = subst (RunsTask tells alone site.settings r t there here) is ran in
      (short_unwritten (subst (λ (q : PutRequest). RunsShort tells alone site.settings q there here) request cut.0) none, cut.1)

  suits_of : (end : BodyEnd) (body : List ℕ) → HasFate (fate_of end) i j old.left new.left body → Suits Fed (fate_of end)
  suits_of Body.Whole body has = tt
  suits_of Body.Cut body has = absurd (never_cut i.chunked i (i.buffer ++ has.more) body has.wrong)
  suits_of Body.BadChunk body has = tt
  suits_of Body.TooLarge body has = tt

  -- the reply was written
  abbrev reply_is : (t : Stepping PutTask) (end : BodyEnd) (outcome : Outcome) → Ran t end → stage_of t ≡ Ended outcome → Appends old.taken new.taken (text_of (form_at form (fate_of end)) end outcome) → IsReplied tells alone site form (Put asker c) (fate_of end) from to
  reply_is t end outcome ran ended written = record {
    body = ran.body;
    has_fate = ran.has_fate;
    outcome = on_object ran.outcome;
    shown = [];
    written = subst (λ o. Appends old.taken new.taken (text_of (form_at form (fate_of end)) end o)) (ap outcome_in (sym ended ∙ ran.ended)) written;
    right = λ told. (ran.right told, end_has_reply ran.outcome (fate_of end) ran.is_end, refl, ran.of_put told, ran.cut told, ran.finished told);
    asks = ran.asks;
  }

  by_end : (end : BodyEnd) (o : Outcome) → (end ≡ Body.Cut → ⊥) → IsEndAt o (fate_of end) → (r : IsReplied tells alone site form (Put asker c) (fate_of end) from to) → r.outcome ≡ on_object o → IsServed tells alone site form (Put asker c) Fed from to (served_so end o)
  by_end Body.Cut o not ends r is = absurd (not refl)
  by_end Body.Whole BodyFailed not ends r is = absurd ends
  by_end Body.BadChunk BodyFailed not ends r is = (Body.BadChunk, tt, r, is)
  by_end Body.TooLarge BodyFailed not ends r is = (Body.TooLarge, tt, r, is)
  by_end Body.BadChunk (Done reply) not ends r is = (broken_off Body.BadChunk, tt, refl, r, λ e. let clash = sym is ∙ e in cc)
  by_end Body.BadChunk (Busy id) not ends r is = (broken_off Body.BadChunk, tt, refl, r, λ e. let clash = sym is ∙ e in cc)
  by_end Body.BadChunk MovedOften not ends r is = (broken_off Body.BadChunk, tt, refl, r, λ e. let clash = sym is ∙ e in cc)
  by_end Body.BadChunk RacedOften not ends r is = (broken_off Body.BadChunk, tt, refl, r, λ e. let clash = sym is ∙ e in cc)
  by_end Body.BadChunk LateTag not ends r is = (broken_off Body.BadChunk, tt, refl, r, λ e. let clash = sym is ∙ e in cc)
  by_end Body.BadChunk (LateRead read_at clock) not ends r is = (broken_off Body.BadChunk, tt, refl, r, λ e. let clash = sym is ∙ e in cc)
  by_end Body.BadChunk (NoSpace free needed) not ends r is = (broken_off Body.BadChunk, tt, refl, r, λ e. let clash = sym is ∙ e in cc)
  by_end Body.TooLarge (Done reply) not ends r is = (broken_off Body.TooLarge, tt, refl, r, λ e. let clash = sym is ∙ e in cc)
  by_end Body.TooLarge (Busy id) not ends r is = (broken_off Body.TooLarge, tt, refl, r, λ e. let clash = sym is ∙ e in cc)
  by_end Body.TooLarge MovedOften not ends r is = (broken_off Body.TooLarge, tt, refl, r, λ e. let clash = sym is ∙ e in cc)
  by_end Body.TooLarge RacedOften not ends r is = (broken_off Body.TooLarge, tt, refl, r, λ e. let clash = sym is ∙ e in cc)
  by_end Body.TooLarge LateTag not ends r is = (broken_off Body.TooLarge, tt, refl, r, λ e. let clash = sym is ∙ e in cc)
  by_end Body.TooLarge (LateRead read_at clock) not ends r is = (broken_off Body.TooLarge, tt, refl, r, λ e. let clash = sym is ∙ e in cc)
  by_end Body.TooLarge (NoSpace free needed) not ends r is = (broken_off Body.TooLarge, tt, refl, r, λ e. let clash = sym is ∙ e in cc)
  by_end Body.Whole (Done reply) not ends r is = (read_whole, tt, refl, r, λ e. let clash = sym is ∙ e in cc)
  by_end Body.Whole (Busy id) not ends r is = (read_whole, tt, refl, r, λ e. let clash = sym is ∙ e in cc)
  by_end Body.Whole MovedOften not ends r is = (read_whole, tt, refl, r, λ e. let clash = sym is ∙ e in cc)
  by_end Body.Whole RacedOften not ends r is = (read_whole, tt, refl, r, λ e. let clash = sym is ∙ e in cc)
  by_end Body.Whole LateTag not ends r is = (read_whole, tt, refl, r, λ e. let clash = sym is ∙ e in cc)
  by_end Body.Whole (LateRead read_at clock) not ends r is = (read_whole, tt, refl, r, λ e. let clash = sym is ∙ e in cc)
  by_end Body.Whole (NoSpace free needed) not ends r is = (read_whole, tt, refl, r, λ e. let clash = sym is ∙ e in cc)

  pub replied : (t : Stepping PutTask) (end : BodyEnd) (outcome : Outcome) → (end ≡ Body.Cut → ⊥) → Ran t end → stage_of t ≡ Ended outcome → Appends old.taken new.taken (text_of (form_at form (fate_of end)) end outcome)
      → IsServed tells alone site form (Put asker c) Fed from to (served_so end outcome)
  replied t end outcome not ran ended written =
      by_end end outcome not (subst (λ o. IsEndAt o (fate_of end)) (ap outcome_in (sym ran.ended ∙ ended)) ran.is_end) (reply_is t end outcome ran ended written) (ap (λ s. on_object (outcome_in s)) (sym ran.ended ∙ ended))

  -- or not, or a front of it
  pub stops_reply : (found : List Event) (t : Stepping PutTask) (end : BodyEnd) (outcome : Outcome) (fault : ServeFault) → i.failed ≡ None → Ran t end → stage_of t ≡ Ended outcome → LeavesText old.taken new.taken (text_of (form_at form (fate_of end)) end outcome) fault
      → IsStopped tells alone site form (Put asker c) Fed found from to fault
  stops_reply found t end outcome faults.OutOfMemory unfailed ran ended leaves = inl (
    body_at (fate_of end) ran.body,
    fate_come Fed (fate_of end) i j old.left new.left ran.body (suits_of end ran.body ran.has_fate) unfailed ran.has_fate,
    is_by_end (on_object ran.outcome),
    record { unwritten = leaves; asks = ran.asks; so_far = ran.so_far },
  )
  stops_reply found t end outcome faults.WriteFault unfailed ran ended leaves = (
    record {
      fate = fate_of end;
      suits = suits_of end ran.body ran.has_fate;
      body = ran.body;
      has_fate = ran.has_fate;
      outcome = on_object ran.outcome;
      shown = [];
      written = subst (λ o. AppendsFront old.taken new.taken (text_of (form_at form (fate_of end)) end o)) (ap outcome_in (sym ended ∙ ran.ended)) leaves;
      right = λ told. (ran.right told, end_has_reply ran.outcome (fate_of end) ran.is_end, refl, ran.of_put told, ran.cut told, ran.finished told);
      more = is_by_end (on_object ran.outcome);
      asks = ran.asks;
    },
    refl,
  )
  stops_reply found t end outcome fault unfailed ran ended leaves = absurd leaves
