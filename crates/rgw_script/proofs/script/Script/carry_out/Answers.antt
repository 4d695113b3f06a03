use Rattle.std.proofs.Common.{subst}
use Rattle.rgw_script.specs.Stages.{IsOpen, HasEnded}
use Rattle.rgw_script.proofs.Playing.{any_err, broke_off, ended_first, begun_do, OthersStand, done_holds, done_so}
use Rattle.rgw_script.proofs.script.Script.carry_out.Goals as goal

pub returns-in_err-finish-clause-begun : goal.returns-in_err-finish-clause-begun
returns-in_err-finish-clause-begun c = any_err _ _ (begun_do c.args.settings.now c.args.self.now c.args.zone c.args.verb c.in_ok-active.active _ _ _ c.in_ok-active.ensures.role
    (broke_off _ c.args.self.now c.in_ok-active.active _ _ _ c.in_err-finish.ensures.acted _ c.requires.holds.is_open.settings_are c.in_err-finish.ensures.broken))

pub returns-in_err-push_ending-clause-begun : goal.returns-in_err-push_ending-clause-begun
returns-in_err-push_ending-clause-begun c = any_err _ _ (begun_do c.args.settings.now c.args.self.now c.args.zone c.args.verb c.in_ok-active.active _ _ _ c.in_ok-active.ensures.role
    (ended_first _ c.args.self.now c.in_ok-active.active _ _ _ c.in_ok-finish.ensures.acted c.finish.new.self c.in_ok-finish.ensures.role _ c.requires.holds.is_open.settings_are c.in_ok-finish.ensures.ended c.push_ending.ensures))

pub returns-clause-holds : goal.returns-clause-holds
returns-clause-holds c =
    let eq = c.requires.holds.is_open.settings_are in
    done_holds c.args.settings.now c.args.self.now c.args.zone c.args.verb c.in_ok-active.active c.finish.new.self c.args.realm.now c.finish.new.realm
    c.in_ok-active.ensures.role c.in_ok-finish.ensures.role c.in_ok-finish.ensures.acted.0 c.in_ok-finish.ensures.acted.2
    (subst (λ s. IsOpen s c.finish.new.realm) eq c.in_ok-finish.ensures.open)
    (subst (OthersStand c.in_ok-active.active.pass c.args.realm.now.history c.finish.new.realm.history) eq c.in_ok-finish.ensures.others) c.requires.holds

pub returns-clause-played : goal.returns-clause-played
returns-clause-played c =
    done_so c.args.settings.now c.args.self.now c.args.zone c.args.verb c.in_ok-active.active c.finish.new.self c.args.realm.now c.finish.new.realm
    c.in_ok-active.ensures.role c.in_ok-finish.ensures.role c.in_ok-finish.ensures.acted.0 c.args.out.now.items c.push_ending.new.out.items c.requires.empty c.in_ok-finish.ensures.acted.2
    (subst (λ s. HasEnded s c.finish.new.realm.history c.finish.new.self) c.requires.holds.is_open.settings_are c.in_ok-finish.ensures.ended)
    (let told = c.in_ok-push_ending.ensures in record { outcome = told.0; shown = told.1; bears = told.2; told = told.3 })
