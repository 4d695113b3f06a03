use Rattle.std.proofs.Common.{◌≡◌, rules, false, true, Option, None, refl, ◌∙◌, subst, subst₂}
use Rattle.task_put.specs.declared.stage.PutRequest.{PutRequest}
use Rattle.put_service.specs.Parts.{HasDone}
use Rattle.realm_model.specs.Settings.{SettingsView}
use Rattle.door_moments.specs.Acts.{Asks}
use Rattle.door_moments.proofs.Asking.{none_asks, both_ask}
use Rattle.put_service.specs.declared.stepping.Pause.{Pause}
use Rattle.put_service.specs.Standing.{IsUp, StandsAfter, is_untold_at}
use Rattle.put_service.proofs.stepping.advance.Goals as goal

pub events-init : goal.events-init
events-init g c = record {
  sound = c.requires.going.sound;
  steady = c.requires.going.steady;
  up = c.requires.going.up;
  asks = none_asks g.D.Door.tells g.D.Door.alone (g.D.Door.settings c.args.door.now) (g.D.Door.told c.args.door.now) (g.C.Clock.told c.args.clock.now) (λ tells. (c.requires.going.up tells).0);
  request = refl;
  settings = refl;
  home = refl;
  plan = refl;
}

pub returns-in_err-pause-clause-stopped : goal.returns-in_err-pause-clause-stopped
returns-in_err-pause-clause-stopped g c =
    let i = c.events.invariant in
    let asks = both_ask g.D.Door.tells g.D.Door.alone (g.D.Door.settings c.args.door.now) (g.D.Door.settings c.events.door) true (g.D.Door.told c.args.door.now) (g.D.Door.told c.events.door) (g.D.Door.told c.take_step.new.door) (g.C.Clock.told c.args.clock.now) (g.C.Clock.told c.events.clock) (g.C.Clock.told c.take_step.new.clock)
    i.settings i.asks c.in_err-pause.ensures.stopped in
    search (rules, asks)

pub returns-in_err-pause-clause-left : goal.returns-in_err-pause-clause-left
returns-in_err-pause-clause-left g c =
    let i = c.events.invariant in
    let left = subst₂ (λ (s : SettingsView) (q : PutRequest). HasDone g.D.Door.tells s q (g.D.Door.told c.take_step.new.door)) i.settings i.request c.in_err-pause.ensures.left in
    search (rules, left)

pub returns-in-Some-clause-asks : goal.returns-in-Some-clause-asks
returns-in-Some-clause-asks g c =
    let i = c.events.invariant in
    both_ask g.D.Door.tells g.D.Door.alone (g.D.Door.settings c.args.door.now) (g.D.Door.settings c.events.door) _ (g.D.Door.told c.args.door.now) (g.D.Door.told c.events.door) (g.D.Door.told c.take_step.new.door) (g.C.Clock.told c.args.clock.now) (g.C.Clock.told c.events.clock) (g.C.Clock.told c.take_step.new.clock)
    i.settings i.asks
    (subst (λ (s : Option Pause). Asks g.D.Door.tells g.D.Door.alone (g.D.Door.settings c.events.door) (is_untold_at s) (g.D.Door.told c.events.door) (g.D.Door.told c.take_step.new.door) (g.C.Clock.told c.events.clock) (g.C.Clock.told c.take_step.new.clock)) c.in-Some.is c.in_ok-pause.ensures.asks)

pub events-preserved : goal.events-preserved
events-preserved g c =
    let i = c.events.invariant in
    let none : c.in_ok-pause.field-0 ≡ None = search rules in
    record {
      sound = c.in_ok-pause.ensures.sound;
      steady = subst (λ (s : Option Pause). StandsAfter s c.take_step.new.task) none c.in_ok-pause.ensures.stands;
      up = subst (λ (s : SettingsView). IsUp g.D.Door.tells s c.take_step.new.task (g.D.Door.told c.take_step.new.door)) i.settings c.take_step.ensures.up;
      asks = both_ask g.D.Door.tells g.D.Door.alone (g.D.Door.settings c.args.door.now) (g.D.Door.settings c.events.door) false (g.D.Door.told c.args.door.now) (g.D.Door.told c.events.door) (g.D.Door.told c.take_step.new.door) (g.C.Clock.told c.args.clock.now) (g.C.Clock.told c.events.clock) (g.C.Clock.told c.take_step.new.clock)
          i.settings i.asks
          (subst (λ (s : Option Pause). Asks g.D.Door.tells g.D.Door.alone (g.D.Door.settings c.events.door) (is_untold_at s) (g.D.Door.told c.events.door) (g.D.Door.told c.take_step.new.door) (g.C.Clock.told c.events.clock) (g.C.Clock.told c.take_step.new.clock)) none c.in_ok-pause.ensures.asks);
      request = c.take_step.ensures.request ∙ i.request;
      settings = c.take_step.ensures.stays.settings ∙ i.settings;
      home = c.take_step.ensures.stays.home ∙ i.home;
      plan = c.take_step.ensures.stays.plan ∙ i.plan;
    }
