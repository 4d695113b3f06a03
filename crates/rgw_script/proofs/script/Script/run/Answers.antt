use Rattle.std.proofs.Common.{subst, Some}
use Rattle.rgw_script.specs.Stages.{IsOpen, HasEnded}
use Rattle.rgw_script.proofs.Playing.{Takes, taken_holds, stood_there, part_taken, any_err, broke_off, ended_first, begun_run, OthersStand, out_holds, ran_out}
use Rattle.rgw_script.proofs.script.Script.run.Goals as goal

pub returns-in_default-clause-holds : goal.returns-in_default-clause-holds
returns-in_default-clause-holds c = taken_holds c.args.settings.now c.args.self.now c.take.new.self c.args.name c.take.result c.args.realm.now
    (record { who = c.take.ensures.who; gone = c.take.ensures.gone; kept = c.take.ensures.kept }) c.requires.holds

pub finish-requires-clause-stands : goal.finish-requires-clause-stands
finish-requires-clause-stands c = stood_there c.args.settings.now c.args.self.now c.take.new.self c.args.name c.in-Some.active c.args.realm.now
    (record { who = c.in-Some.ensures.who; gone = c.in-Some.ensures.gone; kept = c.in-Some.ensures.kept }) c.requires.holds

pub returns-in_err-finish-clause-begun : goal.returns-in_err-finish-clause-begun
returns-in_err-finish-clause-begun c = any_err _ _ (begun_run c.args.settings.now c.args.self.now c.take.new.self c.args.name c.in-Some.active _ _ _
    (record { who = c.in-Some.ensures.who; gone = c.in-Some.ensures.gone; kept = c.in-Some.ensures.kept })
    (broke_off _ c.args.self.now c.in-Some.active _ _ _ c.in_err-finish.ensures.acted _ c.requires.holds.is_open.settings_are c.in_err-finish.ensures.broken))

pub returns-in_err-push_named_ending-clause-begun : goal.returns-in_err-push_named_ending-clause-begun
returns-in_err-push_named_ending-clause-begun c = any_err _ _ (begun_run c.args.settings.now c.args.self.now c.take.new.self c.args.name c.in-Some.active _ _ _
    (record { who = c.in-Some.ensures.who; gone = c.in-Some.ensures.gone; kept = c.in-Some.ensures.kept })
    (ended_first _ c.args.self.now c.in-Some.active _ _ _ c.in_ok-finish.ensures.acted c.finish.new.self c.in_ok-finish.ensures.role _ c.requires.holds.is_open.settings_are c.in_ok-finish.ensures.ended c.push_named_ending.ensures))

pub returns-clause-holds : goal.returns-clause-holds
returns-clause-holds c =
    let eq = c.requires.holds.is_open.settings_are in
    out_holds c.args.settings.now c.args.self.now c.take.new.self c.args.name c.in-Some.active c.finish.new.self c.args.realm.now c.finish.new.realm
    (record { who = c.in-Some.ensures.who; gone = c.in-Some.ensures.gone; kept = c.in-Some.ensures.kept }) c.in_ok-finish.ensures.role
    c.in_ok-finish.ensures.acted.0 c.in_ok-finish.ensures.acted.2 (subst (λ s. IsOpen s c.finish.new.realm) eq c.in_ok-finish.ensures.open)
    (subst (OthersStand c.in-Some.active.pass c.args.realm.now.history c.finish.new.realm.history) eq c.in_ok-finish.ensures.others) c.requires.holds

pub returns-clause-played : goal.returns-clause-played
returns-clause-played c = λ is.
    let takes : Takes c.args.self.now c.take.new.self c.args.name (Some c.in-Some.active) = record { who = c.in-Some.ensures.who; gone = c.in-Some.ensures.gone; kept = c.in-Some.ensures.kept } in (
      _,
      part_taken c.args.self.now c.take.new.self c.args.name c.in-Some.active takes,
      c.in_ok-finish.ensures.acted.0,
      ran_out c.args.settings.now c.args.self.now c.take.new.self c.args.name c.in-Some.active c.finish.new.self c.args.realm.now c.finish.new.realm takes c.in_ok-finish.ensures.role
          c.in_ok-finish.ensures.acted.0 c.args.out.now.items c.push_named_ending.new.out.items c.requires.empty c.in_ok-finish.ensures.acted.2
          (subst (λ s. HasEnded s c.finish.new.realm.history c.finish.new.self) c.requires.holds.is_open.settings_are c.in_ok-finish.ensures.ended)
          (let told = c.in_ok-push_named_ending.ensures in record { outcome = told.0; shown = told.1; bears = told.2; told = told.3 }),
    )
