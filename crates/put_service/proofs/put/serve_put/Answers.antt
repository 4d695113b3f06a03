use Rattle.std.proofs.Common.{ap, ◌∙◌, subst}
use Rattle.std.specs.Prelude.{IfOk, IfErr}
use Rattle.realm_door.specs.declared.stepping.Stepping.{Stepping}
use Rattle.task_put.specs.declared.stage.PutRequest.{PutRequest}
use Rattle.task_put.specs.declared.task.PutTask.{PutTask}
use Rattle.task_put.specs.Runs.{request_of}
use Rattle.call_service.specs.Serving.{Site, side}
use Rattle.call_service.specs.Waiting.{IsPutServed, IsPutStopped}
use Rattle.put_service.specs.Parts.{site_at}
use Rattle.put_service.proofs.Serving.{ends_with}
use Rattle.put_service.proofs.Waiting.{nothing_stops}
use Rattle.put_service.proofs.put.serve_put.Goals as goal

pub returns-in_default-clause-stopped : goal.returns-in_default-clause-stopped
returns-in_default-clause-stopped g c =
    let site : Site = record { settings = g.D.Door.settings c.args.connection.now.door.now; zone = c.args.zone } in
    let old = ends_with (g.S.Source.left c.args.connection.now.source.now) (g.K.Sink.taken c.args.connection.now.sink.now) (g.C.Clock.told c.args.connection.now.clock.now) (g.C.Clock.plan c.args.connection.now.clock.now) (g.S.Source.faults c.args.connection.now.source.now) (g.K.Sink.faults c.args.connection.now.sink.now) in
    nothing_stops c.args.waits g.D.Door.tells g.D.Door.alone site c.args.form c.args.asker c.args.put (g.D.Door.found c.args.connection.now.door.now) (side (g.D.Door.told c.args.connection.now.door.now) c.args.connection.now.intake.now old)
    c.requires.ready.failed c.requires.ready.new

pub returns-clause-served : goal.returns-clause-served
returns-clause-served g c =
    let old = ends_with (g.S.Source.left c.args.connection.now.source.now) (g.K.Sink.taken c.args.connection.now.sink.now) (g.C.Clock.told c.args.connection.now.clock.now) (g.C.Clock.plan c.args.connection.now.clock.now) (g.S.Source.faults c.args.connection.now.source.now) (g.K.Sink.faults c.args.connection.now.sink.now) in
    let new = ends_with (g.S.Source.left c.serve_new-served.new.connection.source.now) (g.K.Sink.taken c.serve_new-served.new.connection.sink.now) (g.C.Clock.told c.serve_new-served.new.connection.clock.now) (g.C.Clock.plan c.serve_new-served.new.connection.clock.now) (g.S.Source.faults c.serve_new-served.new.connection.source.now) (g.K.Sink.faults c.serve_new-served.new.connection.sink.now) in
    let x = side (g.D.Door.told c.args.connection.now.door.now) c.args.connection.now.intake.now old in
    let y = side (g.D.Door.told c.serve_new-served.new.connection.door.now) c.serve_new-served.new.connection.intake.now new in
    subst (λ (r : PutRequest). IfOk c.serve_new-served.result (IsPutServed c.args.waits g.D.Door.tells g.D.Door.alone (site_at (g.D.Door.settings c.args.connection.now.door.now) r) c.args.form r.asker r.command x y))
    (ap (λ (t : Stepping PutTask). request_of t) c.new-task.ensures ∙ c.in-Ok.ensures.request) c.serve_new-served.ensures.served

pub returns-clause-stopped : goal.returns-clause-stopped
returns-clause-stopped g c =
    let old = ends_with (g.S.Source.left c.args.connection.now.source.now) (g.K.Sink.taken c.args.connection.now.sink.now) (g.C.Clock.told c.args.connection.now.clock.now) (g.C.Clock.plan c.args.connection.now.clock.now) (g.S.Source.faults c.args.connection.now.source.now) (g.K.Sink.faults c.args.connection.now.sink.now) in
    let new = ends_with (g.S.Source.left c.serve_new-served.new.connection.source.now) (g.K.Sink.taken c.serve_new-served.new.connection.sink.now) (g.C.Clock.told c.serve_new-served.new.connection.clock.now) (g.C.Clock.plan c.serve_new-served.new.connection.clock.now) (g.S.Source.faults c.serve_new-served.new.connection.source.now) (g.K.Sink.faults c.serve_new-served.new.connection.sink.now) in
    let x = side (g.D.Door.told c.args.connection.now.door.now) c.args.connection.now.intake.now old in
    let y = side (g.D.Door.told c.serve_new-served.new.connection.door.now) c.serve_new-served.new.connection.intake.now new in
    subst (λ (r : PutRequest). IfErr c.serve_new-served.result (IsPutStopped c.args.waits g.D.Door.tells g.D.Door.alone (site_at (g.D.Door.settings c.args.connection.now.door.now) r) c.args.form r.asker r.command (g.D.Door.found c.serve_new-served.new.connection.door.now) x y))
    (ap (λ (t : Stepping PutTask). request_of t) c.new-task.ensures ∙ c.in-Ok.ensures.request) c.serve_new-served.ensures.stopped
