use Rattle.std.proofs.Common.{rules, ◌-◌, true, false, Bool, [], ◌++◌, take, drop, length, refl, sym, ap, ◌∙◌, subst}
use Rattle.realm_model.specs.Settings.{SettingsView}
use Rattle.task_put.specs.Runs.{request_of}
use Rattle.door_moments.specs.Acts.{Asks}
use Rattle.door_moments.proofs.Asking.{none_asks, both_ask}
use Rattle.put_service.specs.Standing.{IsUp, PausesAt, is_untold}
use Rattle.put_service.specs.declared.stepping.Pause.{Pause}
use Rattle.task_put.specs.Tasks.{request_of as stages_request}
use Rattle.put_service.specs.Parts.{HasDone}
use Rattle.put_service.proofs.Doing.{has_done, done_more}
use Rattle.put_service.proofs.Joining.{fed_none, fed_behind, request_fed, seam, few_left}
use Rattle.put_service.proofs.feeding.feed_all.Goals as goal

pub parts-init : goal.parts-init
parts-init g c = record {
  sound = c.requires.going.sound;
  steady = c.requires.going.steady;
  wants = c.requires.wants;
  few = c.requires.few;
  so_far = ([], refl, sym (fed_none (request_of c.args.task.now)));
  up = c.requires.going.up;
  asks = none_asks g.D.Door.tells g.D.Door.alone (g.D.Door.settings c.args.door.now) (g.D.Door.told c.args.door.now) (g.C.Clock.told c.args.clock.now) (λ tells. (c.requires.going.up tells).0);
  settings = refl;
  home = refl;
  plan = refl;
}

pub returns-in_err-advance-clause-stopped : goal.returns-in_err-advance-clause-stopped
returns-in_err-advance-clause-stopped g c =
    let i = c.parts.invariant in
    let asks = both_ask g.D.Door.tells g.D.Door.alone (g.D.Door.settings c.args.door.now) (g.D.Door.settings c.parts.door) true (g.D.Door.told c.args.door.now) (g.D.Door.told c.parts.door) (g.D.Door.told c.advance.new.door) (g.C.Clock.told c.args.clock.now) (g.C.Clock.told c.parts.clock) (g.C.Clock.told c.advance.new.clock)
    i.settings i.asks c.in_err-advance.ensures.stopped in
    let stopped : (more : Bool) × Asks g.D.Door.tells g.D.Door.alone (g.D.Door.settings c.args.door.now) more (g.D.Door.told c.args.door.now) (g.D.Door.told c.advance.new.door) (g.C.Clock.told c.args.clock.now) (g.C.Clock.told c.advance.new.clock) = (true, asks) in
    search (rules, stopped)

pub returns-in-Over-clause-asks : goal.returns-in-Over-clause-asks
returns-in-Over-clause-asks g c =
    let i = c.parts.invariant in
    both_ask g.D.Door.tells g.D.Door.alone (g.D.Door.settings c.args.door.now) (g.D.Door.settings c.parts.door) false (g.D.Door.told c.args.door.now) (g.D.Door.told c.parts.door) (g.D.Door.told c.advance.new.door) (g.C.Clock.told c.args.clock.now) (g.C.Clock.told c.parts.clock) (g.C.Clock.told c.advance.new.clock)
    i.settings i.asks
    (subst (λ (p : Pause). Asks g.D.Door.tells g.D.Door.alone (g.D.Door.settings c.parts.door) (is_untold p) (g.D.Door.told c.parts.door) (g.D.Door.told c.advance.new.door) (g.C.Clock.told c.parts.clock) (g.C.Clock.told c.advance.new.clock)) c.in-Over.is c.in_ok-advance.ensures.asks)

pub parts-preserved : goal.parts-preserved
parts-preserved g c =
    let i = c.parts.invariant in
    let pauses = subst (λ (p : Pause). PausesAt p c.advance.new.task) c.in-Wants.is c.in_ok-advance.ensures.pauses in
    let part = take c.in-Ok.count c.parts.rest.now in
    let request = request_fed c.parts.task c.feed.new.self c.advance.new.task part c.in-Ok.ensures.task c.advance.ensures.request in
    record {
      sound = c.in_ok-advance.ensures.sound;
      steady = pauses.0;
      wants = pauses.1;
      few = few_left (request_of c.parts.task) (request_of c.advance.new.task) c.parts.rest.now c.in-Ok.count request i.few;
      so_far = (
        i.so_far.0 ++ part,
        seam i.so_far.0 c.parts.rest.now c.args.bytes.now c.in-Ok.count i.so_far.1,
        fed_behind (request_of c.args.task.now) (request_of c.parts.task) (request_of c.advance.new.task) i.so_far.0 part i.so_far.2 request,
      );
      up = subst (λ (s : SettingsView). IsUp g.D.Door.tells s c.advance.new.task (g.D.Door.told c.advance.new.door)) i.settings c.advance.ensures.up;
      asks = both_ask g.D.Door.tells g.D.Door.alone (g.D.Door.settings c.args.door.now) (g.D.Door.settings c.parts.door) false (g.D.Door.told c.args.door.now) (g.D.Door.told c.parts.door) (g.D.Door.told c.advance.new.door) (g.C.Clock.told c.args.clock.now) (g.C.Clock.told c.parts.clock) (g.C.Clock.told c.advance.new.clock)
          i.settings i.asks
          (subst (λ (p : Pause). Asks g.D.Door.tells g.D.Door.alone (g.D.Door.settings c.parts.door) (is_untold p) (g.D.Door.told c.parts.door) (g.D.Door.told c.advance.new.door) (g.C.Clock.told c.parts.clock) (g.C.Clock.told c.advance.new.clock)) c.in-Wants.is c.in_ok-advance.ensures.asks);
      settings = c.advance.ensures.stays.settings ∙ i.settings;
      home = c.advance.ensures.stays.home ∙ i.home;
      plan = c.advance.ensures.stays.plan ∙ i.plan;
    }

pub returns-in-Over-clause-taken : goal.returns-in-Over-clause-taken
returns-in-Over-clause-taken g c =
    let i = c.parts.invariant in
    let pauses = subst (λ (p : Pause). PausesAt p c.advance.new.task) c.in-Over.is c.in_ok-advance.ensures.pauses in
    let part = take c.in-Ok.count c.parts.rest.now in
    let request = request_fed c.parts.task c.feed.new.self c.advance.new.task part c.in-Ok.ensures.task c.advance.ensures.request in (
      pauses.0,
      pauses.1,
      i.so_far.0 ++ part,
      take (length c.parts.rest.now - c.in-Ok.count) (drop c.in-Ok.count c.parts.rest.now),
      sym (seam i.so_far.0 c.parts.rest.now c.args.bytes.now c.in-Ok.count i.so_far.1),
      fed_behind (request_of c.args.task.now) (request_of c.parts.task) (request_of c.advance.new.task) i.so_far.0 part i.so_far.2 request,
    )

pub returns-in_err-advance-clause-left : goal.returns-in_err-advance-clause-left
returns-in_err-advance-clause-left g c =
    let i = c.parts.invariant in
    let r = request_of c.args.task.now in
    let part = take c.in-Ok.count c.parts.rest.now in
    let rest = take (length c.parts.rest.now - c.in-Ok.count) (drop c.in-Ok.count c.parts.rest.now) in
    let request = ap stages_request c.in-Ok.ensures.task in
    let so = fed_behind r (request_of c.parts.task) (stages_request c.feed.new.self) i.so_far.0 part i.so_far.2 request in
    let done = subst (λ (s : SettingsView). HasDone g.D.Door.tells s (stages_request c.feed.new.self) (g.D.Door.told c.advance.new.door)) i.settings c.in_err-advance.ensures.left in
    let left = done_more g.D.Door.tells (g.D.Door.settings c.args.door.now) r (stages_request c.feed.new.self) (g.D.Door.told c.advance.new.door) c.requires.open c.args.bytes.now (i.so_far.0 ++ part) rest
    (sym (seam i.so_far.0 c.parts.rest.now c.args.bytes.now c.in-Ok.count i.so_far.1)) so done in
    search (rules, left)

pub returns-in_default-clause-left : goal.returns-in_default-clause-left
returns-in_default-clause-left g c =
    let i = c.parts.invariant in
    let r = request_of c.args.task.now in
    let done = has_done g.D.Door.tells (g.D.Door.settings c.args.door.now) c.parts.task (g.D.Door.told c.parts.door) i.sound (λ tells. (i.up tells).1) in
    done_more g.D.Door.tells (g.D.Door.settings c.args.door.now) r (request_of c.parts.task) (g.D.Door.told c.parts.door) c.requires.open c.args.bytes.now i.so_far.0 c.parts.rest.now (sym i.so_far.1) i.so_far.2 done
