use Rattle.std.proofs.Common.{◌≡◌, Some, ap, ◌∙◌, subst}
use Rattle.door_moments.specs.Acts.{Asks}
use Rattle.task_put.specs.Bodies.{first_end}
use Rattle.task_put.specs.Runs.{request_of}
use Rattle.task_put.specs.Tasks.{request_of as stages_request}
use Rattle.put_service.specs.declared.stepping.Pause.{Pause}
use Rattle.put_service.specs.Standing.{PausesAt, is_untold}
use Rattle.put_service.proofs.Ending.{ends_by_event, ends_by_body}
use Rattle.put_service.proofs.put.conclude.Goals as goal

pub returns-in-Over-clause-ended : goal.returns-in-Over-clause-ended
returns-in-Over-clause-ended g c =
    let pauses = subst (λ (p : Pause). PausesAt p c.advance.new.task) c.in-Over.is c.in_ok-advance.ensures.pauses in
    ends_by_event g.D.Door.tells g.D.Door.alone (g.D.Door.settings c.args.door.now) c.advance.new.task (g.D.Door.told c.args.door.now) (g.D.Door.told c.advance.new.door) (g.C.Clock.told c.args.clock.now) (g.C.Clock.told c.advance.new.clock)
    c.args.end pauses.0 pauses.1
    (subst (λ (p : Pause). Asks g.D.Door.tells g.D.Door.alone (g.D.Door.settings c.args.door.now) (is_untold p) (g.D.Door.told c.args.door.now) (g.D.Door.told c.advance.new.door) (g.C.Clock.told c.args.clock.now) (g.C.Clock.told c.advance.new.clock)) c.in-Over.is c.in_ok-advance.ensures.asks)

pub returns-in-ByEnd-clause-ended : goal.returns-in-ByEnd-clause-ended
returns-in-ByEnd-clause-ended g c =
    let pauses = subst (λ (p : Pause). PausesAt p c.advance.new.task) c.in-ByEnd.is c.in_ok-advance.ensures.pauses in
    let whole : (request_of c.advance.new.task).end ≡ Some c.args.end =
    ap (λ r. r.end) (c.advance.ensures.request ∙ ap stages_request c.finish.ensures.task) ∙ ap (λ e. first_end e c.args.end) c.requires.open in
    ends_by_body g.D.Door.tells g.D.Door.alone (g.D.Door.settings c.args.door.now) c.advance.new.task (g.D.Door.told c.args.door.now) (g.D.Door.told c.advance.new.door) (g.C.Clock.told c.args.clock.now) (g.C.Clock.told c.advance.new.clock)
    c.args.end whole pauses
    (subst (λ (p : Pause). Asks g.D.Door.tells g.D.Door.alone (g.D.Door.settings c.args.door.now) (is_untold p) (g.D.Door.told c.args.door.now) (g.D.Door.told c.advance.new.door) (g.C.Clock.told c.args.clock.now) (g.C.Clock.told c.advance.new.clock)) c.in-ByEnd.is c.in_ok-advance.ensures.asks)
