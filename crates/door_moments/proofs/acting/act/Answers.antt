use Rattle.door_moments.proofs.Asking.{untold_asks_if, event_asks_if}
use Rattle.std.proofs.lemmas.Result.{on_ok_weaker}
use Rattle.door_moments.proofs.acting.act.Goals as goal

pub returns-clause-asks : goal.returns-clause-asks
returns-clause-asks g c =
    event_asks_if g.D.Door.tells g.D.Door.alone (g.D.Door.settings c.args.door.now) c.event.result (g.D.Door.told c.args.door.now) (g.D.Door.told c.event.new.door) (g.C.Clock.told c.args.clock.now) (g.C.Clock.told c.now-moment.new.self) c.now-moment.result c.now-moment.ensures.told
    c.event.ensures.made
    c.event.ensures.alone

pub returns-clause-unasked : goal.returns-clause-unasked
returns-clause-unasked g c =
    untold_asks_if g.D.Door.tells g.D.Door.alone (g.D.Door.settings c.args.door.now) c.event.result (g.D.Door.told c.args.door.now) (g.D.Door.told c.event.new.door) (g.C.Clock.told c.args.clock.now) (g.C.Clock.told c.now-moment.new.self) c.now-moment.result _
    (λ tells. (c.requires.up tells).0)
    c.now-moment.ensures.told
    c.event.ensures.stopped

pub returns-clause-made : goal.returns-clause-made
returns-clause-made g c = on_ok_weaker c.event.result (λ made tells. (c.now-moment.result, made tells)) c.event.ensures.made
