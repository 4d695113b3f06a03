-- How the task of a PUT ended.
use Rattle.std.proofs.Common.{◌≡◌, ℕ, true, false, List, [], ◌++◌, Option, Some, None, refl, sym, ◌∙◌, ap, subst, append_assoc}
use Rattle.std.proofs.lemmas.List.{append-nil}
use Rattle.realm_model.specs.Accounts.{Account}
use Rattle.realm_model.specs.Owns.{OwnEvent, own_events}
use Rattle.realm_model.specs.Settings.{SettingsView}
use Rattle.realm_model.specs.Doors.{DoorView, actor_at}
use Rattle.realm_model.specs.Histories.{account_of}
use Rattle.task_words.specs.declared.asker.Asker.{Asker}
use Rattle.task_words.specs.declared.command.PutCommand.{PutCommand}
use Rattle.task_words.specs.declared.command.BodyEnd.{BodyEnd}
use Rattle.task_words.specs.declared.command.BodyEnd.TheVariants.{Whole, Failed}
use Rattle.task_words.specs.declared.outcome.Outcome.{Outcome}
use Rattle.task_words.specs.declared.outcome.Outcome.TheVariants.{Done, BodyFailed, Busy, MovedOften, RacedOften, LateTag, LateRead, NoSpace}
use Rattle.task_words.specs.declared.reply.MapReply.TheVariants.{Stored, Refused}
use Rattle.task_words.specs.declared.reply.Refusal.TheVariants.{Unauthorized, Denied, NoContainer, NotMet, OtherEtag}
use Rattle.task_words.specs.Cuts.{AreCut}
use Rattle.task_words.specs.Outcomes.{Body, IsPutOutcome}
use Rattle.realm_door.specs.declared.stepping.Stepping.{Stepping}
use Rattle.task_put.specs.declared.stage.PutRequest.{PutRequest}
use Rattle.task_put.specs.declared.stage.Stage.{Stage}
use Rattle.task_put.specs.declared.stage.Stage.TheVariants.{Looking, Feeding, Changing, Ended}
use Rattle.task_put.specs.declared.task.PutTask.{PutTask}
use Rattle.task_put.specs.Bodies.{first_end}
use Rattle.task_put.specs.Cuts.{CutBody}
use Rattle.task_put.specs.Orders.{path_of, IsFinished}
use Rattle.task_put.specs.Stages.{IsOver}
use Rattle.task_put.specs.Taking.{fed_request, ended_request}
use Rattle.task_put.specs.Runs.{request_of, stage_of, fault_of, fits}
use Rattle.task_put.specs.Fits.{body_of as taken_of}
use Rattle.task_put.proofs.Running.{run_means}
use Rattle.http_chunks.specs.declared.body.BodyEnd.{BodyEnd as HttpEnd}
use Rattle.http_chunks.specs.declared.body.BodyEnd.TheVariants as End
use Rattle.call_words.specs.Bodies.{Fate, read_whole, broken_off, IsWrong}
use Rattle.call_words.specs.Ends.{on_object}
use Rattle.call_words.specs.Calls.{body_at}
use Rattle.call_words.specs.Events.{AreOfPut}
use Rattle.http_intake.specs.Intake.{IntakeState}
use Rattle.realm_model.specs.declared.event.Event.{Event}
use Rattle.call_service.specs.Bodies.{HasGiven, ReadsTo, FallsBehind, HasFate, HasComeTo, DropsBody, LeavesBody}
use Rattle.call_service.specs.declared.fault.ServeFault.{ServeFault}
use Rattle.call_service.specs.declared.fault.ServeFault.TheVariants.{ReadFault}
use Rattle.call_service.proofs.Passing.{give_all, break_behind, fall_behind, falls_here}
use Rattle.call_service.specs.Serving.{is_by_end}
use Rattle.door_moments.specs.Acts.{Asks}
use Rattle.door_moments.proofs.Asking.{both_ask}
use Rattle.put_service.specs.Standing.{IsUp, IsEnd, IsEndBy, IsEndAt, IsByEvent, IsByBody, IsSteadyAt, IsSteady}
use Rattle.put_service.proofs.Orders.{of_put}
use Rattle.put_service.specs.Parts.{Place, AsksAt, EndsSo, HasEnded, task_end, RunsShort, RunsTask, StopsBody, DoesSo}
use Rattle.put_service.proofs.Doing.{has_done, done_of, done_ended}

-- an event brought the outcome
pub by_event : (r : PutRequest) (stage : Stage) → IsSteadyAt r stage → IsOver stage → (outcome : Outcome) × (stage ≡ Ended outcome) × IsByEvent outcome
by_event r (Ended outcome) s o = (outcome, refl, s)
by_event r (Looking draft) s o = absurd o
by_event r (Feeding write key draft) s o = absurd o
by_event r (Changing etag u) s o = absurd o

-- the end of a body that was read whole brought it
pub by_whole_body : (end : Option BodyEnd) (stage : Stage) → end ≡ Some Whole → IsByBody end stage → stage ≡ Ended (Done (Refused OtherEtag))
by_whole_body (Some Whole) (Ended (Done (Refused OtherEtag))) whole is = refl
by_whole_body (Some Failed) stage whole is = let clash : Some Failed ≡ Some Whole = whole in absurd (cc)
by_whole_body end stage whole is = absurd is

-- that of a body that failed
pub by_failed_body : (end : Option BodyEnd) (stage : Stage) → end ≡ Some Failed → IsByBody end stage → stage ≡ Ended BodyFailed
by_failed_body (Some Whole) stage failed is = let clash : Some Whole ≡ Some Failed = failed in absurd (cc)
by_failed_body (Some Failed) (Ended BodyFailed) failed is = refl
by_failed_body end stage failed is = absurd is

-- as long as the body has not ended, its end brought nothing
pub unended : (end : Option BodyEnd) (stage : Stage) → end ≡ None → IsByBody end stage → ⊥
unended None stage none is = is
unended (Some Whole) stage none is = let clash : Some Whole ≡ None = none in absurd (cc)
unended (Some Failed) stage none is = let clash : Some Failed ≡ None = none in absurd (cc)

-- ---- ends

pub end_by : (outcome : Outcome) (end : BodyEnd) → IsEnd outcome → IsEndBy outcome end
end_by BodyFailed end is = absurd is
end_by (Done reply) end is = is
end_by (Busy id) end is = is
end_by MovedOften end is = is
end_by RacedOften end is = is
end_by LateTag end is = is
end_by (LateRead read_at clock) end is = is
end_by (NoSpace free needed) end is = is

pub end_at : (outcome : Outcome) (fate : Fate) → IsEnd outcome → IsEndAt outcome fate
end_at BodyFailed fate is = absurd is
end_at (Done reply) fate is = is
end_at (Busy id) fate is = is
end_at MovedOften fate is = is
end_at RacedOften fate is = is
end_at LateTag fate is = is
end_at (LateRead read_at clock) fate is = is
end_at (NoSpace free needed) fate is = is

whole_end : (outcome : Outcome) → IsEndBy outcome Whole → IsEndAt outcome read_whole
whole_end BodyFailed is = absurd is
whole_end (Done reply) is = is
whole_end (Busy id) is = is
whole_end MovedOften is = is
whole_end RacedOften is = is
whole_end LateTag is = is
whole_end (LateRead read_at clock) is = is
whole_end (NoSpace free needed) is = is

failed_end : (outcome : Outcome) (why : HttpEnd) → IsWrong why → IsEndBy outcome Failed → IsEndAt outcome (broken_off why)
failed_end BodyFailed why wrong is = wrong
failed_end (Done reply) why wrong is = is
failed_end (Busy id) why wrong is = is
failed_end MovedOften why wrong is = is
failed_end RacedOften why wrong is = is
failed_end LateTag why wrong is = is
failed_end (LateRead read_at clock) why wrong is = is
failed_end (NoSpace free needed) why wrong is = is

-- ---- between two moments

module _ (tells alone : Type 0) (settings : SettingsView) (t : Stepping PutTask) (d e : DoorView) (a b : Option (List ℕ)) where
  pub ends_by_event : (end : BodyEnd) → IsSteady t.stages → IsOver (stage_of t) → Asks tells alone settings false d e a b → EndsSo tells alone settings t end d e a b
  ends_by_event end s over asks =
      let by = by_event (request_of t) (stage_of t) s over in
      record { outcome = by.0; ended = by.1; is_end = end_by by.0 end by.2.0; asks = subst (λ m. Asks tells alone settings m d e a b) (sym by.2.1) asks }

  pub ends_by_body : (end : BodyEnd) → (request_of t).end ≡ Some end → IsByBody (request_of t).end (stage_of t) → Asks tells alone settings true d e a b → EndsSo tells alone settings t end d e a b
  ends_by_body Whole is by asks =
      record { outcome = Done (Refused OtherEtag); ended = by_whole_body (request_of t).end (stage_of t) is by; is_end = tt; asks = asks }
  ends_by_body Failed is by asks =
      record { outcome = BodyFailed; ended = by_failed_body (request_of t).end (stage_of t) is by; is_end = tt; asks = asks }

-- ---- what an outcome means

module _ (zone : ℕ) (asker : Asker) (c : PutCommand) (bytes : List ℕ) (w : Body) (y : Account) (events : List OwnEvent) where
  -- where the outcome was there before the end of the body, it says nothing of the body
  pub before_end : (outcome : Outcome) → IsByEvent outcome → IsPutOutcome zone asker c (record { bytes = bytes; end = None }) outcome y events → IsPutOutcome zone asker c w outcome y events
  before_end (Done (Stored etag stamp)) is m = let clash : None ≡ Some Whole = m.0.whole in absurd (cc)
  before_end (Done (Refused NotMet)) is m = let clash : None ≡ Some Whole = m.0.whole in absurd (cc)
  before_end (Done (Refused OtherEtag)) is m = let clash : None ≡ Some Whole = m.0.whole in absurd (cc)
  before_end (Done (Refused Unauthorized)) is m = m
  before_end (Done (Refused (Denied rule))) is m = m
  before_end (Done (Refused NoContainer)) is m = m
  before_end (Done reply) is m = absurd m
  before_end BodyFailed is m = absurd is.0
  before_end (Busy id) is m = m
  before_end MovedOften is m = m
  before_end LateTag is m = m
  before_end (NoSpace free needed) is m = m
  before_end outcome is m = absurd m

-- what the outcome of a task says of the events of its actor
pub means_put : (t : Stepping PutTask) (settings : SettingsView) (d : DoorView) (outcome : Outcome) → stage_of t ≡ Ended outcome → fault_of t ≡ None → fits t settings d
    → IsPutOutcome (request_of t).zone (request_of t).asker (request_of t).command (taken_of (request_of t)) outcome (account_of settings d.seen (actor_at d)) (own_events d.seen (actor_at d))
means_put t settings d outcome ended sound f = (run_means t settings d outcome ended sound f).0

-- its events are such as a PUT makes
events_of_put : (t : Stepping PutTask) (settings : SettingsView) (d : DoorView) (outcome : Outcome) → stage_of t ≡ Ended outcome → fault_of t ≡ None → fits t settings d
    → AreOfPut (own_events d.seen (actor_at d))
events_of_put t settings d outcome ended sound f =
    of_put (own_events d.seen (actor_at d)) (run_means t settings d outcome ended sound f).1

-- they came in the order of a PUT, and to its end
events_finished : (t : Stepping PutTask) (settings : SettingsView) (d : DoorView) (outcome : Outcome) → stage_of t ≡ Ended outcome → fault_of t ≡ None → fits t settings d
    → IsFinished (path_of (own_events d.seen (actor_at d)))
events_finished t settings d outcome ended sound f = (run_means t settings d outcome ended sound f).1

-- they cut what came of the body, whatever follows it
events_cut : (t : Stepping PutTask) (settings : SettingsView) (d : DoorView) (outcome : Outcome) → stage_of t ≡ Ended outcome → fault_of t ≡ None → fits t settings d
    → CutBody (request_of t).zone settings.stripe (request_of t).bytes (request_of t).end (own_events d.seen (actor_at d))
events_cut t settings d outcome ended sound f = (run_means t settings d outcome ended sound f).2

-- so they do where a task that had no bytes took these
cut_after : (zone stripe : ℕ) (before came : List ℕ) (end : Option BodyEnd) (events : List OwnEvent) → before ≡ [] → CutBody zone stripe (before ++ came) end events → CutBody zone stripe came end events
cut_after zone stripe before came end events none cut = subst (λ l. CutBody zone stripe (l ++ came) end events) none cut

-- ---- the whole task

-- where the outcome was there before the end of the body, the events cut a front of it
front_cut : (settings : SettingsView) (r : PutRequest) (t : Stepping PutTask) (d : DoorView) (front : List ℕ) → IsSteady t.stages → IsOver (stage_of t) → request_of t ≡ fed_request r front → r.bytes ≡ [] → r.end ≡ None → fault_of t ≡ None → fits t settings d
    → (more : List ℕ) → AreCut r.zone settings.stripe (front ++ more) (own_events d.seen (actor_at d))
front_cut settings r t d front s over request none unended sound f more =
    let by = by_event (request_of t) (stage_of t) s over in
    let events = own_events d.seen (actor_at d) in
    let at_request = subst (λ (q : PutRequest). CutBody q.zone settings.stripe q.bytes q.end events) request (events_cut t settings d by.0 by.1 sound f) in
    let going = subst (λ (e : Option BodyEnd). CutBody r.zone settings.stripe (r.bytes ++ front) e events) unended at_request in
    cut_after r.zone settings.stripe r.bytes front None events none going more tt

-- the outcome was there before the end of the body
pub ended_before : (tells alone : Type 0) (settings : SettingsView) (r : PutRequest) (t : Stepping PutTask) (fate : Fate) (x y : Place) (body front rest : List ℕ) (end : Option BodyEnd) → body ≡ front ++ rest → body_at fate body ≡ record { bytes = body; end = end } → r.bytes ≡ [] → HasFate fate x.intake y.intake x.left y.left body
    → IsSteady t.stages → IsOver (stage_of t) → request_of t ≡ fed_request r front → r.end ≡ None → fault_of t ≡ None → (tells → fits t settings y.door)
    → (tells → AreCut r.zone settings.stripe body (own_events y.door.seen (actor_at y.door))) → AsksAt tells alone settings false x y
    → HasEnded tells alone settings r t fate x y
ended_before tells alone settings r t fate x y body front rest end parts at_end none has_fate s over request unended sound up cut asks =
    let by = by_event (request_of t) (stage_of t) s over in
    let account = account_of settings y.door.seen (actor_at y.door) in
    let events = own_events y.door.seen (actor_at y.door) in
    record {
      body = body;
      has_fate = has_fate;
      outcome = by.0;
      ended = by.1;
      sound = sound;
      is_end = end_at by.0 fate by.2.0;
      right = λ told.
          let at_request = subst (λ (q : PutRequest). IsPutOutcome q.zone q.asker q.command (taken_of q) by.0 account events) request (means_put t settings y.door by.0 by.1 sound (up told)) in
          before_end r.zone r.asker r.command (r.bytes ++ front) (body_at fate body) account events by.0 by.2
          (subst (λ e. IsPutOutcome r.zone r.asker r.command (record { bytes = r.bytes ++ front; end = e }) by.0 account events) unended at_request);
      of_put = λ told. events_of_put t settings y.door by.0 by.1 sound (up told);
      finished = λ told. events_finished t settings y.door by.0 by.1 sound (up told);
      cut = cut;
      so_far = λ told.
          subst (λ (w : Body). DoesSo settings r w y.door) (sym at_end)
          (done_of tells settings r (request_of t) y.door none unended body front rest end parts request (has_done tells settings t y.door sound up) told);
      asks = subst (λ m. AsksAt tells alone settings m x y) (sym by.2.1) asks;
    }

-- the task took what came of the body up to its end, and ended behind it
pub ended_behind : (tells alone : Type 0) (settings now : SettingsView) (r : PutRequest) (t : Stepping PutTask) (x y : Place) (d : DoorView) (b : Option (List ℕ)) (fate : Fate) (end : BodyEnd) (body : List ℕ) → now ≡ settings
    → body_at fate body ≡ record { bytes = body; end = Some end } → ((outcome : Outcome) → IsEndBy outcome end → IsEndAt outcome fate)
    → HasFate fate x.intake y.intake x.left y.left body → request_of t ≡ ended_request (fed_request r body) end → r.bytes ≡ [] → r.end ≡ None → fault_of t ≡ None → (tells → fits t settings y.door)
    → Asks tells alone settings false x.door d x.told b → EndsSo tells alone now t end d y.door b y.told → HasEnded tells alone settings r t fate x y
ended_behind tells alone settings now r t x y d b fate end body same at_end may_end has_fate request none unended sound up first ends =
    let account = account_of settings y.door.seen (actor_at y.door) in
    let events = own_events y.door.seen (actor_at y.door) in
    record {
      body = body;
      has_fate = has_fate;
      outcome = ends.outcome;
      ended = ends.ended;
      sound = sound;
      is_end = may_end ends.outcome ends.is_end;
      right = λ told.
          let at_request = subst (λ (q : PutRequest). IsPutOutcome q.zone q.asker q.command (taken_of q) ends.outcome account events) request (means_put t settings y.door ends.outcome ends.ended sound (up told)) in
          subst (λ (w : Body). IsPutOutcome r.zone r.asker r.command w ends.outcome account events) (sym at_end)
          (subst (λ (w : Body). IsPutOutcome r.zone r.asker r.command w ends.outcome account events) (λ i. record { bytes = none i ++ body; end = first_end (unended i) end }) at_request);
      of_put = λ told. events_of_put t settings y.door ends.outcome ends.ended sound (up told);
      finished = λ told. events_finished t settings y.door ends.outcome ends.ended sound (up told);
      cut = λ told.
          let at_request = subst (λ (q : PutRequest). CutBody q.zone settings.stripe q.bytes q.end events) request (events_cut t settings y.door ends.outcome ends.ended sound (up told)) in
          let whole = subst (λ (e : Option BodyEnd). CutBody r.zone settings.stripe (r.bytes ++ body) (first_end e end) events) unended at_request in
          subst (λ (l : List ℕ). AreCut r.zone settings.stripe l events) (append-nil body) (cut_after r.zone settings.stripe r.bytes body (Some end) events none whole [] refl);
      so_far = λ told.
          subst (λ (w : Body). DoesSo settings r w y.door) (sym at_end)
          (done_ended tells settings r (request_of t) y.door none unended body end request (has_done tells settings t y.door sound up) told);
      asks = both_ask tells alone settings now (is_by_end (on_object ends.outcome)) x.door d y.door x.told b y.told same first ends.asks;
    }

-- the body was read to its end, and the task ended behind it
pub concluded : (tells alone : Type 0) (settings now : SettingsView) (r : PutRequest) (t : Stepping PutTask) (x y : Place) (d : DoorView) (b : Option (List ℕ)) (given : List ℕ) (end : HttpEnd) → (end ≡ End.Cut → ⊥) → now ≡ settings
    → ReadsTo x.intake y.intake x.left y.left given end → request_of t ≡ ended_request (fed_request r given) (task_end end) → r.bytes ≡ [] → r.end ≡ None → fault_of t ≡ None → (tells → fits t settings y.door)
    → Asks tells alone settings false x.door d x.told b → EndsSo tells alone now t (task_end end) d y.door b y.told → RunsTask tells alone settings r t x y end
concluded tells alone settings now r t x y d b given End.Whole not same reads request none unended sound up first ends =
    ended_behind tells alone settings now r t x y d b read_whole Whole given same refl whole_end reads request none unended sound up first ends
concluded tells alone settings now r t x y d b given End.Cut not same reads request none unended sound up first ends = absurd (not refl)
concluded tells alone settings now r t x y d b given End.BadChunk not same reads request none unended sound up first ends =
    ended_behind tells alone settings now r t x y d b (broken_off End.BadChunk) Failed given same refl (λ outcome is. failed_end outcome End.BadChunk tt is) reads request none unended sound up first ends
concluded tells alone settings now r t x y d b given End.TooLarge not same reads request none unended sound up first ends =
    ended_behind tells alone settings now r t x y d b (broken_off End.TooLarge) Failed given same refl (λ outcome is. failed_end outcome End.TooLarge tt is) reads request none unended sound up first ends

-- what came of a body that ended so
pub come_to : (x y : Place) (given : List ℕ) (end : HttpEnd) → (end ≡ End.Cut → ⊥) → ReadsTo x.intake y.intake x.left y.left given end → HasComeTo (Some (task_end end)) x.intake y.intake x.left y.left given
come_to x y given End.Whole not reads = reads
come_to x y given End.Cut not reads = absurd (not refl)
come_to x y given End.BadChunk not reads = (End.BadChunk, reads)
come_to x y given End.TooLarge not reads = (End.TooLarge, reads)

-- what is left of a body behind the outcome is dropped
module _ (tells alone : Type 0) (settings : SettingsView) (r : PutRequest) (t : Stepping PutTask) (x y : Place) (i : IntakeState) (l : Option (List ℕ)) (given front rest : List ℕ) (has : HasGiven x.intake i x.left l given)
    (parts : given ≡ front ++ rest) (request : request_of t ≡ fed_request r front) (none : r.bytes ≡ []) (unended : r.end ≡ None) (sound : fault_of t ≡ None) (up : IsUp tells settings t y.door) (asks : AsksAt tells alone settings false x y) where
  joined : (more : List ℕ) → given ++ more ≡ front ++ (rest ++ more)
  joined more = ap (λ l. l ++ more) parts ∙ append_assoc front rest more

  short_of : (more : List ℕ) → FallsBehind x.intake x.left y.left (given ++ more) → RunsShort tells alone settings r x y
  short_of more falls = record {
    given = given ++ more;
    falls = falls;
    asks = asks;
    so_far = done_of tells settings r (request_of t) y.door none unended (given ++ more) front (rest ++ more) None (joined more) request (has_done tells settings t y.door sound (λ told. (up told).1));
  }

  pub leaves_behind : (found : List Event) (fault : ServeFault) → i.failed ≡ None → LeavesBody i l y.left fault → StopsBody tells alone settings r found x y fault
  leaves_behind found ReadFault unfailed fails = short_of [] (fall_behind x.intake i x.left l y.left given [] has (falls_here i l y.left unfailed fails))
  leaves_behind found fault unfailed leaves = absurd leaves

  module _ (s : IsSteady t.stages) (over : IsOver (stage_of t)) where
    ended_with : (fate : Fate) (end : BodyEnd) (more : List ℕ) → body_at fate (given ++ more) ≡ record { bytes = given ++ more; end = Some end } → HasFate fate x.intake y.intake x.left y.left (given ++ more) → HasEnded tells alone settings r t fate x y
    ended_with fate end more at_end fated =
        ended_before tells alone settings r t fate x y (given ++ more) front (rest ++ more) (Some end) (joined more) at_end none fated s over request unended sound (λ told. (up told).1)
        (λ told. subst (λ (l : List ℕ). AreCut r.zone settings.stripe l (own_events y.door.seen (actor_at y.door))) (sym (joined more))
        (front_cut settings r t y.door front s over request none unended sound (up told).1 (rest ++ more))) asks

    pub drops_behind : (end : HttpEnd) → DropsBody i y.intake l y.left end → RunsTask tells alone settings r t x y end
    drops_behind End.Whole (more, all) = ended_with read_whole Whole more refl (give_all x.intake i x.left l y.left given more y.intake has all)
    drops_behind End.Cut (more, cut) = (short_of more (fall_behind x.intake i x.left l y.left given more has cut.0), cut.1)
    drops_behind End.BadChunk (more, breaks) = ended_with (broken_off End.BadChunk) Failed more refl (break_behind x.intake i x.left l y.left given End.BadChunk more has breaks)
    drops_behind End.TooLarge (more, breaks) = ended_with (broken_off End.TooLarge) Failed more refl (break_behind x.intake i x.left l y.left given End.TooLarge more has breaks)
