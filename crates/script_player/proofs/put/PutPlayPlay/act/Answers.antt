use Rattle.std.proofs.Common.{inl}
use Rattle.script_player.proofs.Going.{goes_once}
use Rattle.script_player.proofs.Putting.{next_stands}
use Rattle.script_player.proofs.put.PutPlayPlay.act.Goals as goal

pub returns-in_ok-event-clause-stands : goal.returns-in_ok-event-clause-stands
returns-in_ok-event-clause-stands g c =
    next_stands c.make_ready.new.self c.event.new.self c.in-Ok.ensures.stands (c.in-Ok.ensures.ready c.if-ready.true) c.event.ensures.command c.in_ok-event.ensures.sound c.in_ok-event.ensures.steps

pub returns-in_ok-event-clause-steps : goal.returns-in_ok-event-clause-steps
returns-in_ok-event-clause-steps g c = λ tells.
    let settings = g.D.Door.settings c.args.door.now in
    let d = g.D.Door.told c.args.door.now in
    let e = g.D.Door.told c.event.new.door in
    inl (goes_once g.D.Door.alone settings c.args.moment d e (c.in_ok-event.ensures.made tells) (c.in_ok-event.ensures.alone tells))
