use Rattle.std.proofs.Common.{rules, inl, [], None, refl, sym, subst₂}
use Rattle.std.specs.Prelude.{IfOk, IfErr}
use Rattle.std.proofs.KnownBytes.{Appends-nil, Consumes-nil}
use Rattle.std.proofs.lemmas.Result.{IfOk-weaker, IfErr-weaker, err_from_is_err_and}
use Rattle.realm_model.specs.Settings.{SettingsView}
use Rattle.swift_requests.specs.declared.asked.Asked.TheVariants.{Put}
use Rattle.swift_requests.specs.declared.body.BodyUse.TheVariants.{Fed, Unread}
use Rattle.task_put.specs.Runs.{request_of}
use Rattle.task_put.specs.declared.stage.PutRequest.{PutRequest}
use Rattle.call_service.specs.Serving.{side, body_of, IsServed, IsStopped}
use Rattle.call_service.proofs.Passing.{none_come}
use Rattle.call_service.proofs.Replying.{row_stops}
use Rattle.put_service.specs.Parts.{site_at}
use Rattle.put_service.proofs.Doing.{done_of}
use Rattle.put_service.proofs.Joining.{fed_none}
use Rattle.put_service.proofs.Serving.{ends_with}
use Rattle.put_service.proofs.Waiting.{over_served, over_stops, halted, further_served, further_stops}
use Rattle.put_service.proofs.put.serve_waiting.Goals as goal

pub returns-in_err-look-clause-stopped : goal.returns-in_err-look-clause-stopped
returns-in_err-look-clause-stopped g c =
    let settings = g.D.Door.settings c.args.connection.now.door.now in
    let r = request_of c.args.task.now in
    let old = ends_with (g.S.Source.left c.args.connection.now.source.now) (g.K.Sink.taken c.args.connection.now.sink.now) (g.C.Clock.told c.args.connection.now.clock.now) (g.C.Clock.plan c.args.connection.now.clock.now) (g.S.Source.faults c.args.connection.now.source.now) (g.K.Sink.faults c.args.connection.now.sink.now) in
    let x = side (g.D.Door.told c.args.connection.now.door.now) c.args.connection.now.intake.now old in
    let new = ends_with (g.S.Source.left c.args.connection.now.source.now) (g.K.Sink.taken c.args.connection.now.sink.now) (g.C.Clock.told c.look.new.clock) (g.C.Clock.plan c.look.new.clock) (g.S.Source.faults c.args.connection.now.source.now) (g.K.Sink.faults c.args.connection.now.sink.now) in
    let y = side (g.D.Door.told c.look.new.door) c.args.connection.now.intake.now new in
    let p = err_from_is_err_and c.from_residual.result c.from_residual.ensures.1 in
    rw (p.1, p.2)
    (inl (row_stops g.D.Door.tells g.D.Door.alone (site_at settings r) c.args.form (Put r.asker r.command) Unread (g.D.Door.found c.look.new.door) x y (body_of [])
    c.in_err-look.field-0.0 c.in_err-look.ensures.fault (none_come Unread c.args.connection.now.intake.now old.left c.requires.ready.readable.0)
    (record {
      unwritten = Appends-nil old.taken;
      asks = c.in_err-look.ensures.stopped;
      so_far = done_of g.D.Door.tells settings r r y.door c.requires.ready.fresh.2 c.requires.ready.fresh.3 [] [] [] None refl (sym (fed_none r)) c.in_err-look.ensures.left;
    })))

pub returns-then-is_some-clause-served : goal.returns-then-is_some-clause-served
returns-then-is_some-clause-served g c =
    let settings = g.D.Door.settings c.args.connection.now.door.now in
    let r = request_of c.args.task.now in
    let old = ends_with (g.S.Source.left c.args.connection.now.source.now) (g.K.Sink.taken c.args.connection.now.sink.now) (g.C.Clock.told c.args.connection.now.clock.now) (g.C.Clock.plan c.args.connection.now.clock.now) (g.S.Source.faults c.args.connection.now.source.now) (g.K.Sink.faults c.args.connection.now.sink.now) in
    let x = side (g.D.Door.told c.args.connection.now.door.now) c.args.connection.now.intake.now old in
    let new = ends_with (g.S.Source.left c.args.connection.now.source.now) (g.K.Sink.taken c.leave_body.new.sink) (g.C.Clock.told c.look.new.clock) (g.C.Clock.plan c.look.new.clock) (g.S.Source.faults c.args.connection.now.source.now) (g.K.Sink.faults c.leave_body.new.sink) in
    let y = side (g.D.Door.told c.look.new.door) c.args.connection.now.intake.now new in
    IfOk-weaker c.leave_body.result _ _
    (over_served g.D.Door.tells g.D.Door.alone settings c.args.form r c.requires.ready.fresh.2 c.requires.ready.fresh.3 c.look.new.task x y refl (Consumes-nil old.left) c.in_ok-look.ensures.asks c.look.ensures.request c.in_ok-look.ensures.sound c.look.ensures.up c.in_ok-look.ensures.looked c.in_ok-look.ensures.steady (search rules)
    (g.D.Door.found c.look.new.door)) c.leave_body.ensures.left

pub returns-then-is_some-clause-stopped : goal.returns-then-is_some-clause-stopped
returns-then-is_some-clause-stopped g c =
    let settings = g.D.Door.settings c.args.connection.now.door.now in
    let r = request_of c.args.task.now in
    let old = ends_with (g.S.Source.left c.args.connection.now.source.now) (g.K.Sink.taken c.args.connection.now.sink.now) (g.C.Clock.told c.args.connection.now.clock.now) (g.C.Clock.plan c.args.connection.now.clock.now) (g.S.Source.faults c.args.connection.now.source.now) (g.K.Sink.faults c.args.connection.now.sink.now) in
    let x = side (g.D.Door.told c.args.connection.now.door.now) c.args.connection.now.intake.now old in
    let new = ends_with (g.S.Source.left c.args.connection.now.source.now) (g.K.Sink.taken c.leave_body.new.sink) (g.C.Clock.told c.look.new.clock) (g.C.Clock.plan c.look.new.clock) (g.S.Source.faults c.args.connection.now.source.now) (g.K.Sink.faults c.leave_body.new.sink) in
    let y = side (g.D.Door.told c.look.new.door) c.args.connection.now.intake.now new in
    IfErr-weaker c.leave_body.result _ _
    (over_stops g.D.Door.tells g.D.Door.alone settings c.args.form r c.requires.ready.fresh.2 c.requires.ready.fresh.3 c.look.new.task x y refl (Consumes-nil old.left) c.in_ok-look.ensures.asks c.look.ensures.request c.in_ok-look.ensures.sound c.look.ensures.up c.in_ok-look.ensures.looked c.in_ok-look.ensures.steady (search rules)
    (g.D.Door.found c.look.new.door)) c.leave_body.ensures.stopped

pub returns-in_err-send-clause-stopped : goal.returns-in_err-send-clause-stopped
returns-in_err-send-clause-stopped g c =
    let settings = g.D.Door.settings c.args.connection.now.door.now in
    let r = request_of c.args.task.now in
    let old = ends_with (g.S.Source.left c.args.connection.now.source.now) (g.K.Sink.taken c.args.connection.now.sink.now) (g.C.Clock.told c.args.connection.now.clock.now) (g.C.Clock.plan c.args.connection.now.clock.now) (g.S.Source.faults c.args.connection.now.source.now) (g.K.Sink.faults c.args.connection.now.sink.now) in
    let x = side (g.D.Door.told c.args.connection.now.door.now) c.args.connection.now.intake.now old in
    let new = ends_with (g.S.Source.left c.args.connection.now.source.now) (g.K.Sink.taken c.send.new.sink) (g.C.Clock.told c.look.new.clock) (g.C.Clock.plan c.look.new.clock) (g.S.Source.faults c.args.connection.now.source.now) (g.K.Sink.faults c.send.new.sink) in
    let y = side (g.D.Door.told c.look.new.door) c.args.connection.now.intake.now new in
    let p = err_from_is_err_and c.from_residual-in_err-send.result c.from_residual-in_err-send.ensures.1 in
    rw (p.1, p.2)
    (halted g.D.Door.tells g.D.Door.alone settings c.args.form r c.requires.ready.fresh.2 c.requires.ready.fresh.3 c.look.new.task x y refl (Consumes-nil old.left) c.in_ok-look.ensures.asks c.look.ensures.request c.in_ok-look.ensures.sound c.look.ensures.up c.in_ok-look.ensures.looked (search rules)
    (g.D.Door.found c.look.new.door) c.in_err-send.field-0.0 c.in_err-send.ensures.fault c.in_err-send.ensures.err)

pub returns-clause-served : goal.returns-clause-served
returns-clause-served g c =
    let settings = g.D.Door.settings c.args.connection.now.door.now in
    let r = request_of c.args.task.now in
    let old = ends_with (g.S.Source.left c.args.connection.now.source.now) (g.K.Sink.taken c.args.connection.now.sink.now) (g.C.Clock.told c.args.connection.now.clock.now) (g.C.Clock.plan c.args.connection.now.clock.now) (g.S.Source.faults c.args.connection.now.source.now) (g.K.Sink.faults c.args.connection.now.sink.now) in
    let x = side (g.D.Door.told c.args.connection.now.door.now) c.args.connection.now.intake.now old in
    let mid = ends_with (g.S.Source.left c.args.connection.now.source.now) (g.K.Sink.taken c.send.new.sink) (g.C.Clock.told c.look.new.clock) (g.C.Clock.plan c.look.new.clock) (g.S.Source.faults c.args.connection.now.source.now) (g.K.Sink.faults c.send.new.sink) in
    let y = side (g.D.Door.told c.look.new.door) c.args.connection.now.intake.now mid in
    let new = ends_with (g.S.Source.left c.serve_body.new.connection.source.now) (g.K.Sink.taken c.serve_body.new.connection.sink.now) (g.C.Clock.told c.serve_body.new.connection.clock.now) (g.C.Clock.plan c.serve_body.new.connection.clock.now) (g.S.Source.faults c.serve_body.new.connection.source.now) (g.K.Sink.faults c.serve_body.new.connection.sink.now) in
    let z = side (g.D.Door.told c.serve_body.new.connection.door.now) c.serve_body.new.connection.intake.now new in
    let goes = subst₂ (λ (now : SettingsView) (q : PutRequest). IfOk c.serve_body.result (IsServed g.D.Door.tells g.D.Door.alone (site_at now q) c.args.form (Put q.asker q.command) Fed y z)) c.in_ok-look.ensures.stays.settings c.look.ensures.request c.serve_body.ensures.served in
    IfOk-weaker c.serve_body.result _ _
    (further_served g.D.Door.tells g.D.Door.alone settings c.args.form r c.requires.ready.fresh.2 c.requires.ready.fresh.3 c.look.new.task x y refl (Consumes-nil old.left) c.in_ok-look.ensures.asks c.look.ensures.request c.in_ok-look.ensures.sound c.look.ensures.up c.in_ok-look.ensures.looked (search rules) c.in_ok-send.ensures.ok z) goes

pub returns-clause-stopped : goal.returns-clause-stopped
returns-clause-stopped g c =
    let settings = g.D.Door.settings c.args.connection.now.door.now in
    let r = request_of c.args.task.now in
    let old = ends_with (g.S.Source.left c.args.connection.now.source.now) (g.K.Sink.taken c.args.connection.now.sink.now) (g.C.Clock.told c.args.connection.now.clock.now) (g.C.Clock.plan c.args.connection.now.clock.now) (g.S.Source.faults c.args.connection.now.source.now) (g.K.Sink.faults c.args.connection.now.sink.now) in
    let x = side (g.D.Door.told c.args.connection.now.door.now) c.args.connection.now.intake.now old in
    let mid = ends_with (g.S.Source.left c.args.connection.now.source.now) (g.K.Sink.taken c.send.new.sink) (g.C.Clock.told c.look.new.clock) (g.C.Clock.plan c.look.new.clock) (g.S.Source.faults c.args.connection.now.source.now) (g.K.Sink.faults c.send.new.sink) in
    let y = side (g.D.Door.told c.look.new.door) c.args.connection.now.intake.now mid in
    let new = ends_with (g.S.Source.left c.serve_body.new.connection.source.now) (g.K.Sink.taken c.serve_body.new.connection.sink.now) (g.C.Clock.told c.serve_body.new.connection.clock.now) (g.C.Clock.plan c.serve_body.new.connection.clock.now) (g.S.Source.faults c.serve_body.new.connection.source.now) (g.K.Sink.faults c.serve_body.new.connection.sink.now) in
    let z = side (g.D.Door.told c.serve_body.new.connection.door.now) c.serve_body.new.connection.intake.now new in
    let found = g.D.Door.found c.serve_body.new.connection.door.now in
    let goes = subst₂ (λ (now : SettingsView) (q : PutRequest). IfErr c.serve_body.result (IsStopped g.D.Door.tells g.D.Door.alone (site_at now q) c.args.form (Put q.asker q.command) Fed found y z)) c.in_ok-look.ensures.stays.settings c.look.ensures.request c.serve_body.ensures.stopped in
    IfErr-weaker c.serve_body.result _ _
    (further_stops g.D.Door.tells g.D.Door.alone settings c.args.form r c.requires.ready.fresh.2 c.requires.ready.fresh.3 c.look.new.task x y refl (Consumes-nil old.left) c.in_ok-look.ensures.asks c.look.ensures.request c.in_ok-look.ensures.sound c.look.ensures.up c.in_ok-look.ensures.looked (search rules) c.in_ok-send.ensures.ok z found) goes
