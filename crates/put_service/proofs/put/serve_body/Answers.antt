use Rattle.std.proofs.Common.{rules}
use Rattle.std.proofs.KnownBytes.{Appends-nil}
use Rattle.task_put.specs.Runs.{request_of}
use Rattle.call_service.specs.Serving.{Site}
use Rattle.put_service.specs.Parts.{site_at}
use Rattle.put_service.proofs.Serving.{first_is, ends_with, has_run, stops_unwritten, stops_reply, cut_unwritten, replied}
use Rattle.put_service.proofs.put.serve_body.Goals as goal

pub returns-in_err-end-clause-stopped : goal.returns-in_err-end-clause-stopped
returns-in_err-end-clause-stopped g c =
    let r = request_of c.args.task.now in
    let site : Site = site_at (g.D.Door.settings c.args.connection.now.door.now) r in
    let old = ends_with (g.S.Source.left c.args.connection.now.source.now) (g.K.Sink.taken c.args.connection.now.sink.now) (g.C.Clock.told c.args.connection.now.clock.now) (g.C.Clock.plan c.args.connection.now.clock.now) (g.S.Source.faults c.args.connection.now.source.now) (g.K.Sink.faults c.args.connection.now.sink.now) in
    let new = ends_with (g.S.Source.left c.run_put.new.source) (g.K.Sink.taken c.args.connection.now.sink.now) (g.C.Clock.told c.run_put.new.clock) (g.C.Clock.plan c.run_put.new.clock) (g.S.Source.faults c.run_put.new.source) (g.K.Sink.faults c.args.connection.now.sink.now) in
    let stops = stops_unwritten g.D.Door.tells g.D.Door.alone site c.args.form r.asker r.command (g.D.Door.told c.args.connection.now.door.now) (g.D.Door.told c.run_put.new.door) c.args.connection.now.intake.now c.run_put.new.intake old new
    r (g.D.Door.found c.run_put.new.door) _ (first_is r c.requires.ready.fresh.2 c.requires.ready.fresh.3) (Appends-nil old.taken) c.in_err-end.ensures.fault in
    search (rules, stops)

pub returns-in-Cut-clause-served : goal.returns-in-Cut-clause-served
returns-in-Cut-clause-served g c =
    let r = request_of c.args.task.now in
    let site : Site = site_at (g.D.Door.settings c.args.connection.now.door.now) r in
    let old = ends_with (g.S.Source.left c.args.connection.now.source.now) (g.K.Sink.taken c.args.connection.now.sink.now) (g.C.Clock.told c.args.connection.now.clock.now) (g.C.Clock.plan c.args.connection.now.clock.now) (g.S.Source.faults c.args.connection.now.source.now) (g.K.Sink.faults c.args.connection.now.sink.now) in
    let new = ends_with (g.S.Source.left c.run_put.new.source) (g.K.Sink.taken c.args.connection.now.sink.now) (g.C.Clock.told c.run_put.new.clock) (g.C.Clock.plan c.run_put.new.clock) (g.S.Source.faults c.run_put.new.source) (g.K.Sink.faults c.args.connection.now.sink.now) in
    cut_unwritten g.D.Door.tells g.D.Door.alone site c.args.form r.asker r.command (g.D.Door.told c.args.connection.now.door.now) (g.D.Door.told c.run_put.new.door) c.args.connection.now.intake.now c.run_put.new.intake old new
    c.run_put.new.task r c.in_ok-end.end (first_is r c.requires.ready.fresh.2 c.requires.ready.fresh.3) c.in-Cut.is (Appends-nil old.taken) c.in_ok-end.ensures.ran

pub returns-in_err-send_reply-in-Some-clause-stopped : goal.returns-in_err-send_reply-in-Some-clause-stopped
returns-in_err-send_reply-in-Some-clause-stopped g c =
    let r = request_of c.args.task.now in
    let site : Site = site_at (g.D.Door.settings c.args.connection.now.door.now) r in
    let old = ends_with (g.S.Source.left c.args.connection.now.source.now) (g.K.Sink.taken c.args.connection.now.sink.now) (g.C.Clock.told c.args.connection.now.clock.now) (g.C.Clock.plan c.args.connection.now.clock.now) (g.S.Source.faults c.args.connection.now.source.now) (g.K.Sink.faults c.args.connection.now.sink.now) in
    let new = ends_with (g.S.Source.left c.run_put.new.source) (g.K.Sink.taken c.send_reply.new.sink) (g.C.Clock.told c.run_put.new.clock) (g.C.Clock.plan c.run_put.new.clock) (g.S.Source.faults c.run_put.new.source) (g.K.Sink.faults c.send_reply.new.sink) in
    let ran = has_run g.D.Door.tells g.D.Door.alone site c.args.form r.asker r.command (g.D.Door.told c.args.connection.now.door.now) (g.D.Door.told c.run_put.new.door) c.args.connection.now.intake.now c.run_put.new.intake old new
    c.run_put.new.task r c.in_ok-end.end (first_is r c.requires.ready.fresh.2 c.requires.ready.fresh.3) c.in_default.not-Cut c.in_ok-end.ensures.ran in
    let stops = stops_reply g.D.Door.tells g.D.Door.alone site c.args.form r.asker r.command (g.D.Door.told c.args.connection.now.door.now) (g.D.Door.told c.run_put.new.door) c.args.connection.now.intake.now c.run_put.new.intake old new
    (g.D.Door.found c.run_put.new.door) c.run_put.new.task c.in_ok-end.end c.in-Some.outcome.now _ c.requires.ready.readable.0 ran c.in-Some.ensures.stage c.in_err-send_reply-in-Some.ensures.stopped in
    search (rules, stops)

pub returns-clause-served : goal.returns-clause-served
returns-clause-served g c =
    let r = request_of c.args.task.now in
    let site : Site = site_at (g.D.Door.settings c.args.connection.now.door.now) r in
    let old = ends_with (g.S.Source.left c.args.connection.now.source.now) (g.K.Sink.taken c.args.connection.now.sink.now) (g.C.Clock.told c.args.connection.now.clock.now) (g.C.Clock.plan c.args.connection.now.clock.now) (g.S.Source.faults c.args.connection.now.source.now) (g.K.Sink.faults c.args.connection.now.sink.now) in
    let new = ends_with (g.S.Source.left c.run_put.new.source) (g.K.Sink.taken c.send_reply.new.sink) (g.C.Clock.told c.run_put.new.clock) (g.C.Clock.plan c.run_put.new.clock) (g.S.Source.faults c.run_put.new.source) (g.K.Sink.faults c.send_reply.new.sink) in
    let ran = has_run g.D.Door.tells g.D.Door.alone site c.args.form r.asker r.command (g.D.Door.told c.args.connection.now.door.now) (g.D.Door.told c.run_put.new.door) c.args.connection.now.intake.now c.run_put.new.intake old new
    c.run_put.new.task r c.in_ok-end.end (first_is r c.requires.ready.fresh.2 c.requires.ready.fresh.3) c.in_default.not-Cut c.in_ok-end.ensures.ran in
    rw c.served_so.ensures
    (replied g.D.Door.tells g.D.Door.alone site c.args.form r.asker r.command (g.D.Door.told c.args.connection.now.door.now) (g.D.Door.told c.run_put.new.door) c.args.connection.now.intake.now c.run_put.new.intake old new
    c.run_put.new.task c.in_ok-end.end c.in-Some.outcome.now c.in_default.not-Cut ran c.in-Some.ensures.stage c.in_ok-send_reply-in-Some.ensures.ok)
