use Rattle.std.proofs.Common.{◌≡◌, true, false, sym, subst}
use Rattle.std.specs.Prelude.{Bool, IfOk, IfErr}
use Rattle.task_put.specs.Runs.{request_of}
use Rattle.call_service.specs.Serving.{side}
use Rattle.call_service.specs.Waiting.{IsPutServed, IsPutStopped}
use Rattle.put_service.specs.Parts.{site_at}
use Rattle.put_service.proofs.Serving.{ends_with}
use Rattle.put_service.proofs.put.serve_new.Goals as goal

pub returns-then-waits-clause-served : goal.returns-then-waits-clause-served
returns-then-waits-clause-served g c =
    let is : c.args.waits ≡ true = c.if-waits.true in
    let old = ends_with (g.S.Source.left c.args.connection.now.source.now) (g.K.Sink.taken c.args.connection.now.sink.now) (g.C.Clock.told c.args.connection.now.clock.now) (g.C.Clock.plan c.args.connection.now.clock.now) (g.S.Source.faults c.args.connection.now.source.now) (g.K.Sink.faults c.args.connection.now.sink.now) in
    let new = ends_with (g.S.Source.left c.serve_waiting.new.connection.source.now) (g.K.Sink.taken c.serve_waiting.new.connection.sink.now) (g.C.Clock.told c.serve_waiting.new.connection.clock.now) (g.C.Clock.plan c.serve_waiting.new.connection.clock.now) (g.S.Source.faults c.serve_waiting.new.connection.source.now) (g.K.Sink.faults c.serve_waiting.new.connection.sink.now) in
    let x = side (g.D.Door.told c.args.connection.now.door.now) c.args.connection.now.intake.now old in
    let y = side (g.D.Door.told c.serve_waiting.new.connection.door.now) c.serve_waiting.new.connection.intake.now new in
    subst (λ (b : Bool). IfOk c.serve_waiting.result (IsPutServed b g.D.Door.tells g.D.Door.alone (site_at (g.D.Door.settings c.args.connection.now.door.now) (request_of c.args.task.now)) c.args.form (request_of c.args.task.now).asker (request_of c.args.task.now).command x y)) (sym is)
    c.serve_waiting.ensures.served

pub returns-then-waits-clause-stopped : goal.returns-then-waits-clause-stopped
returns-then-waits-clause-stopped g c =
    let is : c.args.waits ≡ true = c.if-waits.true in
    let old = ends_with (g.S.Source.left c.args.connection.now.source.now) (g.K.Sink.taken c.args.connection.now.sink.now) (g.C.Clock.told c.args.connection.now.clock.now) (g.C.Clock.plan c.args.connection.now.clock.now) (g.S.Source.faults c.args.connection.now.source.now) (g.K.Sink.faults c.args.connection.now.sink.now) in
    let new = ends_with (g.S.Source.left c.serve_waiting.new.connection.source.now) (g.K.Sink.taken c.serve_waiting.new.connection.sink.now) (g.C.Clock.told c.serve_waiting.new.connection.clock.now) (g.C.Clock.plan c.serve_waiting.new.connection.clock.now) (g.S.Source.faults c.serve_waiting.new.connection.source.now) (g.K.Sink.faults c.serve_waiting.new.connection.sink.now) in
    let x = side (g.D.Door.told c.args.connection.now.door.now) c.args.connection.now.intake.now old in
    let y = side (g.D.Door.told c.serve_waiting.new.connection.door.now) c.serve_waiting.new.connection.intake.now new in
    subst (λ (b : Bool). IfErr c.serve_waiting.result (IsPutStopped b g.D.Door.tells g.D.Door.alone (site_at (g.D.Door.settings c.args.connection.now.door.now) (request_of c.args.task.now)) c.args.form (request_of c.args.task.now).asker (request_of c.args.task.now).command (g.D.Door.found c.serve_waiting.new.connection.door.now) x y)) (sym is)
    c.serve_waiting.ensures.stopped

pub returns-clause-served : goal.returns-clause-served
returns-clause-served g c =
    let is : c.args.waits ≡ false = c.if-waits.false in
    let old = ends_with (g.S.Source.left c.args.connection.now.source.now) (g.K.Sink.taken c.args.connection.now.sink.now) (g.C.Clock.told c.args.connection.now.clock.now) (g.C.Clock.plan c.args.connection.now.clock.now) (g.S.Source.faults c.args.connection.now.source.now) (g.K.Sink.faults c.args.connection.now.sink.now) in
    let new = ends_with (g.S.Source.left c.serve_body.new.connection.source.now) (g.K.Sink.taken c.serve_body.new.connection.sink.now) (g.C.Clock.told c.serve_body.new.connection.clock.now) (g.C.Clock.plan c.serve_body.new.connection.clock.now) (g.S.Source.faults c.serve_body.new.connection.source.now) (g.K.Sink.faults c.serve_body.new.connection.sink.now) in
    let x = side (g.D.Door.told c.args.connection.now.door.now) c.args.connection.now.intake.now old in
    let y = side (g.D.Door.told c.serve_body.new.connection.door.now) c.serve_body.new.connection.intake.now new in
    subst (λ (b : Bool). IfOk c.serve_body.result (IsPutServed b g.D.Door.tells g.D.Door.alone (site_at (g.D.Door.settings c.args.connection.now.door.now) (request_of c.args.task.now)) c.args.form (request_of c.args.task.now).asker (request_of c.args.task.now).command x y)) (sym is)
    c.serve_body.ensures.served

pub returns-clause-stopped : goal.returns-clause-stopped
returns-clause-stopped g c =
    let is : c.args.waits ≡ false = c.if-waits.false in
    let old = ends_with (g.S.Source.left c.args.connection.now.source.now) (g.K.Sink.taken c.args.connection.now.sink.now) (g.C.Clock.told c.args.connection.now.clock.now) (g.C.Clock.plan c.args.connection.now.clock.now) (g.S.Source.faults c.args.connection.now.source.now) (g.K.Sink.faults c.args.connection.now.sink.now) in
    let new = ends_with (g.S.Source.left c.serve_body.new.connection.source.now) (g.K.Sink.taken c.serve_body.new.connection.sink.now) (g.C.Clock.told c.serve_body.new.connection.clock.now) (g.C.Clock.plan c.serve_body.new.connection.clock.now) (g.S.Source.faults c.serve_body.new.connection.source.now) (g.K.Sink.faults c.serve_body.new.connection.sink.now) in
    let x = side (g.D.Door.told c.args.connection.now.door.now) c.args.connection.now.intake.now old in
    let y = side (g.D.Door.told c.serve_body.new.connection.door.now) c.serve_body.new.connection.intake.now new in
    subst (λ (b : Bool). IfErr c.serve_body.result (IsPutStopped b g.D.Door.tells g.D.Door.alone (site_at (g.D.Door.settings c.args.connection.now.door.now) (request_of c.args.task.now)) c.args.form (request_of c.args.task.now).asker (request_of c.args.task.now).command (g.D.Door.found c.serve_body.new.connection.door.now) x y)) (sym is)
    c.serve_body.ensures.stopped
