use Rattle.std.proofs.Common.{rules, ◌≡◌, ◌⊎◌, ◌++◌, [], true, false, Option, ap, ◌∙◌, refl, subst}
use Rattle.std.specs.Prelude.{option_map}
use Rattle.std.proofs.KnownBytes.{Appends-nil, Consumes-nil}
use Rattle.std.proofs.lemmas.Result.{err_from_is_err_and, IfOk-weaker, IfErr-weaker}
use Rattle.std.specs.Io.KnownBytes.{Appends}
use Rattle.swift_requests.specs.declared.body.BodyUse.TheVariants.{Dropped, Unread}
use Rattle.call_words.specs.Bodies.{read_whole, broken_off, unread}
use Rattle.call_words.specs.Calls.{body_at}
use Rattle.call_words.proofs.Fates.{wrong_of}
use Rattle.call_service.specs.Bodies.{DropsBody}
use Rattle.call_service.specs.Faults.{fault_by_door}
use Rattle.call_service.specs.Replying.{Replies, stand, StopsReply}
use Rattle.call_service.specs.Serving.{BearsOut, BearsOutSoFar, body_of}
use Rattle.call_service.proofs.Passing.{none_come, breaks_so}
use Rattle.call_service.proofs.Replying.{event_stopped, row_stops, body_stops, reply_stops, replied, shut_form}
use Rattle.door_moments.specs.Acts.{Asks}
use Rattle.door_moments.proofs.Asking.{none_asks}
use Rattle.request_service.specs.Early.{early_end, EndsEarlyBy, EndsEarly, WantsMemory, LeavesPart}
use Rattle.request_service.specs.Requests.{site_of, IsThere}
use Rattle.request_service.proofs.Early.{BreaksEarly, is_early_served, is_early_stopped}
use Rattle.request_service.proofs.Ends.{at_site, stands_so}
use Rattle.request_service.proofs.Texts.{unwanted}
use Rattle.request_service.proofs.serve.serve_unfed.Given.{Over}
use Rattle.request_service.proofs.serve.serve_unfed.Goals as goal

-- ---- the body is left

pub returns-in_err-send_reply-clause-stopped : goal.returns-in_err-send_reply-clause-stopped
returns-in_err-send_reply-clause-stopped g c =
    let is : c.args.read ≡ false = search rules in
    let none = none_asks g.D.Door.tells g.D.Door.alone _ _ (g.C.Clock.told c.args.connection.now.clock.now) (λ tells. (c.requires.ready.new tells).legal) in
    let wants = unwanted _ (g.met.T.Request.unfed (g.T.Staged.command c.args.task.now.stages)) in
    let p = err_from_is_err_and c.from_residual.result c.from_residual.ensures.1 in
    rw (is, p.1, p.2)
    (reply_stops _ _ _ _ _ Unread _ _ _ unread tt refl c.requires.ready.failed [] (refl, refl, Consumes-nil _) (shut_form c.args.form (c.requires.shut is)) wants
    _ _ none c.in_err-send_reply.field-0.0 c.in_err-send_reply.ensures.stopped)

pub returns-then-not-read-clause-served : goal.returns-then-not-read-clause-served
returns-then-not-read-clause-served g c =
    let is : c.args.read ≡ false = search rules in
    let none = none_asks g.D.Door.tells g.D.Door.alone _ _ (g.C.Clock.told c.args.connection.now.clock.now) (λ tells. (c.requires.ready.new tells).legal) in
    let wants = unwanted _ (g.met.T.Request.unfed (g.T.Staged.command c.args.task.now.stages)) in
    rw is
    (replied _ _ _ _ _ Unread (g.D.Door.found c.send_reply.new.door) _ _ unread tt refl c.requires.ready.failed [] (refl, refl, Consumes-nil _) (shut_form c.args.form (c.requires.shut is)) wants
    _ _ none c.in_ok-send_reply.ensures.asks c.in_ok-send_reply.ensures.written)

-- ---- the row, and the body dropped

pub returns-in_err-act-clause-stopped : goal.returns-in_err-act-clause-stopped
returns-in_err-act-clause-stopped g c =
    let now = c.in_err-act.ensures in
    let ready = c.requires.ready in
    let tells = g.D.Door.tells in
    let t = c.args.task.now.stages in
    let q = g.T.Request.question (g.T.Staged.command t) in
    let settings = g.D.Door.settings c.args.connection.now.door.now in
    let d = g.D.Door.told c.args.connection.now.door.now in
    let found = g.D.Door.found c.act.new.door in
    let is : c.args.read ≡ true = search rules in
    let so_far : tells → BearsOutSoFar (record { settings = settings; zone = q.zone }) q.asked (body_of []) (g.D.Door.told c.act.new.door) =
    λ is. rw (now.stays is) (g.met.T.Request.so_far t settings d (body_of []) (c.requires.fits d ready.low ready.high (ready.new is).account (ready.new is).events)) in
    let p = err_from_is_err_and c.from_residual-in_err-act.result c.from_residual-in_err-act.ensures.1 in
    rw (is, p.1, p.2)
    (row_stops tells g.D.Door.alone _ _ _ Dropped found _ _ (body_of []) (fault_by_door c.in_err-act.field-0.0) (event_stopped tells found c.in_err-act.field-0.0 now.worn)
    (none_come Dropped _ _ ready.failed)
    (record { unwritten = Appends-nil _; asks = now.unasked; so_far = so_far }))

pub returns-in_err-why-clause-stopped : goal.returns-in_err-why-clause-stopped
returns-in_err-why-clause-stopped g c =
    let before = c.in_ok-act.ensures in
    let tells = g.D.Door.tells in
    let u = c.act.new.task.stages in
    let k = g.T.Staged.command c.args.task.now.stages in
    let settings = g.D.Door.settings c.args.connection.now.door.now in
    let d = g.D.Door.told c.act.new.door in
    let is : c.args.read ≡ true = search rules in
    let fits : tells → g.T.Staged.fits u settings d = λ is. stands_so c.act.new.task.fault (g.T.Staged.fits u settings d) before.sound (before.up is).1 in
    let p = err_from_is_err_and c.from_residual-in_err-why.result c.from_residual-in_err-why.ensures.1 in
    rw (is, p.1, p.2)
    (body_stops tells g.D.Door.alone _ _ _ Dropped (g.D.Door.found c.act.new.door) _ _ c.in_err-why.field-0.0 refl c.requires.ready.failed c.in_err-why.ensures.err
    (record {
      unwritten = Appends-nil _;
      asks = before.asks;
      so_far = λ is. at_site g.T.Request.question (λ s a. BearsOutSoFar s a (body_of []) d) settings settings k (g.T.Staged.command u) refl before.command (g.met.T.Request.so_far u settings d (body_of []) (fits is));
    }))

-- ---- the reply behind a whole body

pub send_reply-requires-in-Whole-clause-none : goal.send_reply-requires-in-Whole-clause-none
send_reply-requires-in-Whole-clause-none g c κs within = λ is.
    let before = c.in_ok-act.ensures in
    let settings = g.D.Door.settings c.args.connection.now.door.now in
    let t = c.args.task.now.stages in
    let u = c.act.new.task.stages in
    let k = g.T.Staged.command t in
    let d = g.D.Door.told c.args.connection.now.door.now in
    let e = g.D.Door.told c.act.new.door in
    let fits = stands_so c.act.new.task.fault (g.T.Staged.fits u settings e) before.sound (before.up is).1 in
    let brought : g.T.Request.brought k e ≡ g.T.Request.brought k d ++ g.T.Staged.piece u = g.met.T.Request.brings t u settings d e (before.made is).0 before.command fits (before.made is).1 in
    let none : g.T.Request.brought k d ≡ [] = g.met.T.Request.unbrought k d (c.requires.ready.new is).events in
    let first : g.T.Staged.piece u ≡ [] = g.met.T.Request.first t u before.steps c.requires.begins in
    ap (λ k. g.T.Request.brought k e) before.command ∙ brought ∙ (λ i. none i ++ first i)

pub returns-in_err-send_reply-in-Whole-clause-stopped : goal.returns-in_err-send_reply-in-Whole-clause-stopped
returns-in_err-send_reply-in-Whole-clause-stopped g c =
    let before = c.in_ok-act.ensures in
    let k = g.T.Staged.command c.args.task.now.stages in
    let settings = g.D.Door.settings c.args.connection.now.door.now in
    let x = stand (g.D.Door.told c.act.new.door) (g.K.Sink.taken c.args.connection.now.sink.now) (g.C.Clock.told c.act.new.clock) in
    let y = stand (g.D.Door.told c.send_reply-in-Whole.new.door) (g.K.Sink.taken c.send_reply-in-Whole.new.sink) (g.C.Clock.told c.send_reply-in-Whole.new.clock) in
    let found = g.D.Door.found c.send_reply-in-Whole.new.door in
    let fault = c.in_err-send_reply-in-Whole.field-0.0 in
    let is : c.args.read ≡ true = search rules in
    let body = subst (DropsBody _ _ _ _) c.in-Whole.is c.in_ok-why.ensures.dropped in
    let stops = at_site g.T.Request.question (λ s a. StopsReply g.D.Door.tells g.D.Door.alone s c.args.form a found x y fault) settings (g.D.Door.settings c.act.new.door) k (g.T.Staged.command c.act.new.task.stages) before.settings before.command c.in_err-send_reply-in-Whole.ensures.stopped in
    let p = err_from_is_err_and c.from_residual-in_err-send_reply-in-Whole.result c.from_residual-in_err-send_reply-in-Whole.ensures.1 in
    rw (is, p.1, p.2)
    (reply_stops _ _ _ _ _ Dropped found _ _ read_whole tt refl c.requires.ready.failed body.0 body.1 refl (unwanted _ (g.met.T.Request.unfed k)) _ _ before.asks fault stops)

pub returns-in_ok-send_reply-in-Whole-clause-served : goal.returns-in_ok-send_reply-in-Whole-clause-served
returns-in_ok-send_reply-in-Whole-clause-served g c =
    let before = c.in_ok-act.ensures in
    let now = c.in_ok-send_reply-in-Whole.ensures in
    let k = g.T.Staged.command c.args.task.now.stages in
    let settings = g.D.Door.settings c.args.connection.now.door.now in
    let e = g.D.Door.told c.send_reply-in-Whole.new.door in
    let grown = Appends (g.K.Sink.taken c.args.connection.now.sink.now) (g.K.Sink.taken c.send_reply-in-Whole.new.sink) in
    let is : c.args.read ≡ true = search rules in
    let body = subst (DropsBody _ _ _ _) c.in-Whole.is c.in_ok-why.ensures.dropped in
    let reply = at_site g.T.Request.question (λ s a. Replies g.D.Door.tells s c.args.form a e grown) settings (g.D.Door.settings c.act.new.door) k (g.T.Staged.command c.act.new.task.stages) before.settings before.command now.written in
    let asks = subst (λ s. Asks g.D.Door.tells g.D.Door.alone s false (g.D.Door.told c.act.new.door) e (g.C.Clock.told c.act.new.clock) (g.C.Clock.told c.send_reply-in-Whole.new.clock)) before.settings now.asks in
    rw is
    (replied _ _ _ _ _ Dropped (g.D.Door.found c.send_reply-in-Whole.new.door) _ _ read_whole tt refl c.requires.ready.failed body.0 body.1 refl (unwanted _ (g.met.T.Request.unfed k)) _ _ before.asks asks reply)

-- ---- the reply behind a body that broke off

broke_off : (g : Over) (c : goal.After-end_early g)
    → BreaksEarly g.D.Door.tells (site_of (g.D.Door.settings c.args.connection.now.door.now) (g.T.Request.question (g.T.Staged.command c.args.task.now.stages))) (g.T.Request.question (g.T.Staged.command c.args.task.now.stages)).asked c.in_ok-why.why
    c.args.connection.now.intake.now c.drop_body.new.intake (g.S.Source.left c.args.connection.now.source.now) (g.S.Source.left c.drop_body.new.source) (g.D.Door.told c.act.new.door)
broke_off g c =
    let before = c.in_ok-act.ensures in
    let t = c.args.task.now.stages in
    let u = c.act.new.task.stages in
    let settings = g.D.Door.settings c.args.connection.now.door.now in
    let e = g.D.Door.told c.act.new.door in
    let why = c.in_ok-why.why in
    let wrong = wrong_of why c.in_default.not-Whole c.in_default.not-Cut in
    let broken = breaks_so _ _ _ _ why wrong c.in_ok-why.ensures.dropped in
    let body = body_at (broken_off why) broken.0 in
    let fits : g.D.Door.tells → g.T.Staged.fits u settings e = λ is. stands_so c.act.new.task.fault (g.T.Staged.fits u settings e) before.sound (before.up is).1 in
    record {
      wrong = wrong;
      came = broken.0;
      breaks = broken.1;
      so_far = λ is. at_site g.T.Request.question (λ s a. BearsOutSoFar s a body e) settings settings (g.T.Staged.command t) (g.T.Staged.command u) refl before.command (g.met.T.Request.so_far u settings e body (fits is));
    }

-- the outcome that is there, or none, is borne out
early_borne : (g : Over) (c : goal.After-end_early g) (outcome : Option _) → IsThere (g.T.Staged.is_over c.act.new.task.stages) (g.T.Request.ends_with c.act.new.task.stages) outcome
    → g.T.Request.is_broken c.act.new.task.stages ≡ false → g.D.Door.tells
    → BearsOut (site_of (g.D.Door.settings c.args.connection.now.door.now) (g.T.Request.question (g.T.Staged.command c.args.task.now.stages))) (g.T.Request.question (g.T.Staged.command c.args.task.now.stages)).asked (broken_off c.in_ok-why.why) (broke_off g c).came
    (early_end (option_map g.T.Request.end_by outcome)) [] (g.D.Door.told c.act.new.door)
early_borne g c outcome there going is =
    let before = c.in_ok-act.ensures in
    let t = c.args.task.now.stages in
    let u = c.act.new.task.stages in
    let settings = g.D.Door.settings c.args.connection.now.door.now in
    let d = g.D.Door.told c.args.connection.now.door.now in
    let e = g.D.Door.told c.act.new.door in
    let why = c.in_ok-why.why in
    let b = broke_off g c in
    let fits : g.T.Staged.fits u settings e = stands_so c.act.new.task.fault (g.T.Staged.fits u settings e) before.sound (before.up is).1 in
    at_site g.T.Request.question (λ s a. BearsOut s a (broken_off why) b.came (early_end (option_map g.T.Request.end_by outcome)) [] e) settings settings (g.T.Staged.command t) (g.T.Staged.command u) refl before.command
    (g.met.T.Request.early t u outcome settings d e (before.made is).0 why b.came c.requires.begins before.steps going fits there (c.requires.ready.new is) (before.made is).1 b.wrong)

pub end_early-requires-clause-sound : goal.end_early-requires-clause-sound
end_early-requires-clause-sound g c κs within =
    let t = c.args.task.now.stages in
    let u = c.act.new.task.stages in
    (g.met.T.Request.goes_on t u c.in_ok-act.ensures.steps (g.met.T.Request.begun t c.requires.begins).1).0

pub returns-in_default-clause-served : goal.returns-in_default-clause-served
returns-in_default-clause-served g c =
    let before = c.in_ok-act.ensures in
    let u = c.act.new.task.stages in
    let why = c.in_ok-why.why in
    let is : c.args.read ≡ true = search rules in
    rw is
    (IfOk-weaker c.end_early.result _ _
    (λ served early. is_early_served _ _ _ _ _ (g.D.Door.found c.act.new.door) _ _ _ before.asks (λ is. (before.up is).0) c.requires.ready.failed why (g.T.Request.is_broken u) (broke_off g c)
    _ (g.T.Staged.is_over u) (g.T.Request.ends_with u) g.T.Request.end_by (early_borne g c) served
    (subst (λ k. EndsEarlyBy (g.T.Staged.is_over u) (g.T.Request.ends_with u) g.T.Request.end_by (EndsEarly c.args.form (g.T.Request.question k).asked why (g.T.Request.is_broken u) (g.K.Sink.taken c.args.connection.now.sink.now) (g.K.Sink.taken c.end_early.new.sink) (g.C.Clock.told c.act.new.clock) (g.C.Clock.told c.end_early.new.clock) served)) before.command early))
    c.end_early.ensures.ended)

pub returns-in_default-clause-stopped : goal.returns-in_default-clause-stopped
returns-in_default-clause-stopped g c =
    let before = c.in_ok-act.ensures in
    let u = c.act.new.task.stages in
    let why = c.in_ok-why.why in
    let is : c.args.read ≡ true = search rules in
    let wants = WantsMemory (g.T.Request.is_broken u) (g.K.Sink.taken c.args.connection.now.sink.now) (g.K.Sink.taken c.end_early.new.sink) (g.C.Clock.told c.act.new.clock) (g.C.Clock.told c.end_early.new.clock) in
    rw is
    (IfErr-weaker c.end_early.result _ _
    (λ fault left. is_early_stopped _ _ _ _ _ (g.D.Door.found c.act.new.door) _ _ _ before.asks (λ is. (before.up is).0) c.requires.ready.failed why (g.T.Request.is_broken u) (broke_off g c)
    _ (g.T.Staged.is_over u) (g.T.Request.ends_with u) g.T.Request.end_by (early_borne g c) fault
    (subst (λ k. wants fault ⊎ EndsEarlyBy (g.T.Staged.is_over u) (g.T.Request.ends_with u) g.T.Request.end_by (LeavesPart c.args.form (g.T.Request.question k).asked why (g.T.Request.is_broken u) (g.K.Sink.taken c.args.connection.now.sink.now) (g.K.Sink.taken c.end_early.new.sink) (g.C.Clock.told c.act.new.clock) (g.C.Clock.told c.end_early.new.clock) fault)) before.command left))
    c.end_early.ensures.left)
