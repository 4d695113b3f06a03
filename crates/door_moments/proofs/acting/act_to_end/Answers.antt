use Rattle.std.proofs.Common.{◌∙◌, true, false, refl, subst}
use Rattle.std.proofs.lemmas.Result.{err_from_is_err_and}
use Rattle.realm_model.specs.Settings.{SettingsView}
use Rattle.realm_door.specs.Waiting.{UnlessFaulted}
use Rattle.door_moments.specs.Acts.{IsUpTo}
use Rattle.door_moments.proofs.Asking.{none_asks, both_ask}
use Rattle.door_moments.proofs.acting.act_to_end.Goals as goal

pub events-init : goal.events-init
events-init g c = record {
  sound = c.requires.sound;
  up = c.requires.up;
  command = refl;
  settings = refl;
  home = refl;
  plan = refl;
  asks = none_asks g.D.Door.tells g.D.Door.alone (g.D.Door.settings c.args.door.now) (g.D.Door.told c.args.door.now) (g.C.Clock.told c.args.clock.now) (λ is. (c.requires.up is).0);
}

pub returns-in_err-act-in-Event-clause-unasked : goal.returns-in_err-act-in-Event-clause-unasked
returns-in_err-act-in-Event-clause-unasked g c =
    let so_far = c.events.invariant in
    let p = err_from_is_err_and c.from_residual.result c.from_residual.ensures.1 in
    rw p.1
    (both_ask g.D.Door.tells g.D.Door.alone (g.D.Door.settings c.args.door.now) (g.D.Door.settings c.events.door) true (g.D.Door.told c.args.door.now) (g.D.Door.told c.events.door) (g.D.Door.told c.act.new.door) (g.C.Clock.told c.args.clock.now) (g.C.Clock.told c.events.clock) (g.C.Clock.told c.act.new.clock) so_far.settings so_far.asks c.in_err-act-in-Event.ensures.unasked)

pub events-preserved : goal.events-preserved
events-preserved g c =
    let so_far = c.events.invariant in
    let now = c.in_ok-act-in-Event.ensures in
    record {
      sound = now.sound;
      up = subst (λ (s : SettingsView). IsUpTo g.T.Staged.fits g.D.Door.tells s c.act.new.task.stages (g.D.Door.told c.act.new.door)) so_far.settings
          (λ tells. ((now.up tells).0, subst (λ f. UnlessFaulted f (g.T.Staged.fits c.act.new.task.stages (g.D.Door.settings c.events.door) (g.D.Door.told c.act.new.door))) now.sound (now.up tells).1));
      command = now.command ∙ c.in-Event.ensures.command ∙ so_far.command;
      settings = now.settings ∙ so_far.settings;
      home = now.home ∙ so_far.home;
      plan = now.plan ∙ so_far.plan;
      asks = both_ask g.D.Door.tells g.D.Door.alone (g.D.Door.settings c.args.door.now) (g.D.Door.settings c.events.door) false (g.D.Door.told c.args.door.now) (g.D.Door.told c.events.door) (g.D.Door.told c.act.new.door) (g.C.Clock.told c.args.clock.now) (g.C.Clock.told c.events.clock) (g.C.Clock.told c.act.new.clock) so_far.settings so_far.asks now.asks;
    }
