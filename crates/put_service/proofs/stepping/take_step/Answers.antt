use Rattle.std.proofs.Common.{rules, refl, subst}
use Rattle.task_put.specs.declared.stage.PutRequest.{PutRequest}
use Rattle.task_put.specs.Runs.{request_of, with_stages}
use Rattle.put_service.specs.Parts.{HasDone}
use Rattle.put_service.proofs.Doing.{has_done, still_done}
use Rattle.door_moments.proofs.Asking.{none_asks, untold_asks}
use Rattle.put_service.proofs.Steps.{steady_after}
use Rattle.put_service.proofs.Pausing.{up_decided, steady_ready, by_body}
use Rattle.put_service.proofs.stepping.take_step.Goals as goal

pub returns-then-is_some-clause-asks : goal.returns-then-is_some-clause-asks
returns-then-is_some-clause-asks g c =
    none_asks g.D.Door.tells g.D.Door.alone (g.D.Door.settings c.args.door.now) (g.D.Door.told c.args.door.now) (g.C.Clock.told c.args.clock.now) (λ tells. (c.requires.going.up tells).0)

pub returns-in-Wants-clause-asks : goal.returns-in-Wants-clause-asks
returns-in-Wants-clause-asks g c =
    none_asks g.D.Door.tells g.D.Door.alone (g.D.Door.settings c.args.door.now) (g.D.Door.told c.args.door.now) (g.C.Clock.told c.args.clock.now) (λ tells. (c.requires.going.up tells).0)

pub returns-in-Wants-clause-up : goal.returns-in-Wants-clause-up
returns-in-Wants-clause-up g c =
    up_decided g.D.Door.tells (g.D.Door.settings c.args.door.now) c.args.task.now c.settle.new.self (g.D.Door.told c.args.door.now) c.settle.ensures.task c.requires.going.up

pub returns-in-Done-clause-asks : goal.returns-in-Done-clause-asks
returns-in-Done-clause-asks g c =
    untold_asks g.D.Door.tells g.D.Door.alone (g.D.Door.settings c.args.door.now) (g.D.Door.told c.args.door.now) (g.D.Door.told c.args.door.now) (g.C.Clock.told c.args.clock.now) (g.C.Clock.told c.now-moment.new.self) c.now-moment.result
    (λ tells. (c.requires.going.up tells).0) (λ tells. refl) c.now-moment.ensures.told

pub returns-in-Done-clause-up : goal.returns-in-Done-clause-up
returns-in-Done-clause-up g c =
    up_decided g.D.Door.tells (g.D.Door.settings c.args.door.now) c.args.task.now c.settle.new.self (g.D.Door.told c.args.door.now) c.settle.ensures.task c.requires.going.up

pub returns-in_err-act-in-Event-clause-left : goal.returns-in_err-act-in-Event-clause-left
returns-in_err-act-in-Event-clause-left g c =
    let settled = with_stages c.args.task.now c.settle.new.self in
    let up = up_decided g.D.Door.tells (g.D.Door.settings c.args.door.now) c.args.task.now c.settle.new.self (g.D.Door.told c.args.door.now) c.settle.ensures.task c.requires.going.up in
    let done = has_done g.D.Door.tells (g.D.Door.settings c.args.door.now) settled (g.D.Door.told c.args.door.now) c.requires.going.sound (λ tells. (up tells).1) in
    let left = still_done g.D.Door.tells (g.D.Door.settings c.args.door.now) (request_of c.args.task.now) (g.D.Door.told c.args.door.now) (g.D.Door.told c.act.new.door) c.in_err-act-in-Event.ensures.stays
    (subst (λ (q : PutRequest). HasDone g.D.Door.tells (g.D.Door.settings c.args.door.now) q (g.D.Door.told c.args.door.now)) c.settle.ensures.command done) in
    search (rules, left)

pub act-requires-clause-up : goal.act-requires-clause-up
act-requires-clause-up g c κs within =
    up_decided g.D.Door.tells (g.D.Door.settings c.args.door.now) c.args.task.now c.settle.new.self (g.D.Door.told c.args.door.now) c.settle.ensures.task c.requires.going.up

pub returns-in_ok-act-in-Event-clause-stands : goal.returns-in_ok-act-in-Event-clause-stands
returns-in_ok-act-in-Event-clause-stands g c =
    steady_after c.settle.new.self c.act.new.task.stages (c.in-Event.ensures.event refl)
    (steady_ready c.args.task.now.stages c.settle.new.self c.settle.ensures.task c.requires.going.steady (c.in-Event.ensures.event refl))
    c.in_ok-act-in-Event.ensures.steps

pub returns-in-Done-clause-stands : goal.returns-in-Done-clause-stands
returns-in-Done-clause-stands g c =
    by_body c.args.task.now.stages c.settle.new.self c.settle.ensures.task (λ over. search (rules, over)) c.requires.going.steady (c.in-Done.ensures.done refl)
