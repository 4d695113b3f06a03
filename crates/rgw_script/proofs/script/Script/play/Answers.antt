use Rattle.rgw_script.proofs.Playing.{as_line, comes_clock, comes_start, comes_stop}
use Rattle.rgw_script.proofs.script.Script.play.Goals as goal

pub returns-in-Clock : goal.returns-in-Clock
returns-in-Clock c = as_line _ _ _ _ _ _ _ _ _ c.in-Clock.is (comes_clock c.args.settings.now c.args.self.now c.args.realm.now c.in-Clock.moment c.args.out.now.items c.requires.empty c.requires.holds)

pub returns-in-Start : goal.returns-in-Start
returns-in-Start c = as_line _ _ _ _ _ _ _ _ _ c.in-Start.is
    (comes_start c.args.settings.now c.args.self.now c.start.new.self c.args.realm.now c.in-Start.actor c.in-Start.zone c.in-Start.verb c.args.out.now.items c.start.result
    c.requires.empty c.requires.holds c.start.ensures.holds c.start.ensures.played c.start.ensures.missed c.start.ensures.next c.start.ensures.cause)

pub returns-in-Step : goal.returns-in-Step
returns-in-Step c = as_line _ _ _ _ _ _ _ _ _ c.in-Step.is (record {
  holds = c.step.ensures.holds;
  played = c.step.ensures.played;
  missed = c.step.ensures.missed;
  next = c.step.ensures.next;
  begun = c.step.ensures.begun;
  cause = c.step.ensures.cause;
  is_open = c.step.ensures.open;
})

pub returns-in-Run : goal.returns-in-Run
returns-in-Run c = as_line _ _ _ _ _ _ _ _ _ c.in-Run.is (record {
  holds = c.run.ensures.holds;
  played = c.run.ensures.played;
  missed = c.run.ensures.missed;
  next = c.run.ensures.next;
  begun = c.run.ensures.begun;
  cause = c.run.ensures.cause;
  is_open = c.run.ensures.open;
})

pub returns-in-Stop : goal.returns-in-Stop
returns-in-Stop c = as_line _ _ _ _ _ _ _ _ _ c.in-Stop.is
    (comes_stop c.args.settings.now c.args.self.now c.stop.new.self c.args.realm.now c.in-Stop.actor c.args.out.now.items c.stop.result
    c.requires.empty c.requires.holds c.stop.ensures.holds c.stop.ensures.played c.stop.ensures.missed c.stop.ensures.next)
