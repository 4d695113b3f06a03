use Rattle.std.proofs.Common.{refl, subst, inl, inr, Some}
use Rattle.script_player.specs.declared.player.Gone.TheVariants.{Short, Ended}
use Rattle.rgw_script.specs.Stages.{IsOpen}
use Rattle.rgw_script.proofs.Playing.{Takes, taken_holds, stood_there, part_taken, any_err, broke_off, ended_first, went_first, begun_step, acted_some, acted_as, stands_as, OthersStand, out_holds, back_holds, ran_out, stepped}
use Rattle.rgw_script.proofs.script.Script.step.Goals as goal

pub returns-in_default-clause-holds : goal.returns-in_default-clause-holds
returns-in_default-clause-holds c = taken_holds c.args.settings.now c.args.self.now c.take.new.self c.args.name c.take.result c.args.realm.now
    (record { who = c.take.ensures.who; gone = c.take.ensures.gone; kept = c.take.ensures.kept }) c.requires.holds

pub act-requires-clause-stands : goal.act-requires-clause-stands
act-requires-clause-stands c = stood_there c.args.settings.now c.args.self.now c.take.new.self c.args.name c.in-Some.active c.args.realm.now
    (record { who = c.in-Some.ensures.who; gone = c.in-Some.ensures.gone; kept = c.in-Some.ensures.kept }) c.requires.holds

pub returns-in_err-act-clause-begun : goal.returns-in_err-act-clause-begun
returns-in_err-act-clause-begun c = any_err _ _ (begun_step c.args.settings.now c.args.self.now c.take.new.self c.args.name c.in-Some.active c.args.events _ _
    (record { who = c.in-Some.ensures.who; gone = c.in-Some.ensures.gone; kept = c.in-Some.ensures.kept })
    (broke_off _ c.args.self.now c.in-Some.active _ _ _ c.in_err-act.ensures.stopped _ c.requires.holds.is_open.settings_are c.in_err-act.ensures.broken))

pub returns-in_err-push_named_ending-in-Ended-clause-begun : goal.returns-in_err-push_named_ending-in-Ended-clause-begun
returns-in_err-push_named_ending-in-Ended-clause-begun c = any_err _ _ (begun_step c.args.settings.now c.args.self.now c.take.new.self c.args.name c.in-Some.active c.args.events _ _
    (record { who = c.in-Some.ensures.who; gone = c.in-Some.ensures.gone; kept = c.in-Some.ensures.kept })
    (ended_first _ c.args.self.now c.in-Some.active _ _ _ (acted_some _ _ _ _ _ _ c.in_ok-act.ensures.acted) c.act.new.self c.in_ok-act.ensures.role _ c.requires.holds.is_open.settings_are
    (stands_as _ Ended _ _ _ _ c.in-Ended.is refl c.in_ok-act.ensures.stands) c.push_named_ending.ensures))

pub returns-in_err-push_count_line-in-Short-clause-begun : goal.returns-in_err-push_count_line-in-Short-clause-begun
returns-in_err-push_count_line-in-Short-clause-begun c = any_err _ _ (begun_step c.args.settings.now c.args.self.now c.take.new.self c.args.name c.in-Some.active c.args.events _ _
    (record { who = c.in-Some.ensures.who; gone = c.in-Some.ensures.gone; kept = c.in-Some.ensures.kept })
    (went_first _ c.args.self.now c.in-Some.active _ _ _ (acted_some _ _ _ _ _ _ c.in_ok-act.ensures.acted) c.act.new.self c.in_ok-act.ensures.role
    (stands_as _ Short _ _ _ _ c.in-Short.is c.requires.holds.is_open.settings_are c.in_ok-act.ensures.stands)))

pub returns-in_err-put-in-Short-clause-begun : goal.returns-in_err-put-in-Short-clause-begun
returns-in_err-put-in-Short-clause-begun c = any_err _ _ (begun_step c.args.settings.now c.args.self.now c.take.new.self c.args.name c.in-Some.active c.args.events _ _
    (record { who = c.in-Some.ensures.who; gone = c.in-Some.ensures.gone; kept = c.in-Some.ensures.kept })
    (went_first _ c.args.self.now c.in-Some.active _ _ _ (acted_some _ _ _ _ _ _ c.in_ok-act.ensures.acted) c.act.new.self c.in_ok-act.ensures.role
    (stands_as _ Short _ _ _ _ c.in-Short.is c.requires.holds.is_open.settings_are c.in_ok-act.ensures.stands)))

pub returns-in_ok-push_named_ending-in-Ended-clause-holds : goal.returns-in_ok-push_named_ending-in-Ended-clause-holds
returns-in_ok-push_named_ending-in-Ended-clause-holds c =
    let eq = c.requires.holds.is_open.settings_are in
    let acted = acted_some _ _ _ _ _ _ c.in_ok-act.ensures.acted in
    out_holds c.args.settings.now c.args.self.now c.take.new.self c.args.name c.in-Some.active c.act.new.self c.args.realm.now c.act.new.realm
    (record { who = c.in-Some.ensures.who; gone = c.in-Some.ensures.gone; kept = c.in-Some.ensures.kept }) c.in_ok-act.ensures.role
    acted.0 acted.2 (subst (λ s. IsOpen s c.act.new.realm) eq c.in_ok-act.ensures.open)
    (subst (OthersStand c.in-Some.active.pass c.args.realm.now.history c.act.new.realm.history) eq c.in_ok-act.ensures.others) c.requires.holds

pub returns-in_ok-put-in-Short-clause-holds : goal.returns-in_ok-put-in-Short-clause-holds
returns-in_ok-put-in-Short-clause-holds c =
    let eq = c.requires.holds.is_open.settings_are in
    let acted = acted_some _ _ _ _ _ _ c.in_ok-act.ensures.acted in
    back_holds c.args.settings.now c.args.self.now c.take.new.self c.args.name c.in-Some.active c.act.new.self c.args.realm.now c.act.new.realm
    (record { who = c.in-Some.ensures.who; gone = c.in-Some.ensures.gone; kept = c.in-Some.ensures.kept }) c.in_ok-act.ensures.role
    acted.0 c.put.new.self acted.2 (subst (λ s. IsOpen s c.act.new.realm) eq c.in_ok-act.ensures.open)
    (subst (OthersStand c.in-Some.active.pass c.args.realm.now.history c.act.new.realm.history) eq c.in_ok-act.ensures.others)
    (stands_as _ Short _ _ _ _ c.in-Short.is eq c.in_ok-act.ensures.stands) c.in_ok-put-in-Short.ensures c.requires.holds

pub returns-in_ok-put-in-Short-clause-played : goal.returns-in_ok-put-in-Short-clause-played
returns-in_ok-put-in-Short-clause-played c = λ is.
    let eq = c.requires.holds.is_open.settings_are in
    let takes : Takes c.args.self.now c.take.new.self c.args.name (Some c.in-Some.active) = record { who = c.in-Some.ensures.who; gone = c.in-Some.ensures.gone; kept = c.in-Some.ensures.kept } in (
      _,
      part_taken c.args.self.now c.take.new.self c.args.name c.in-Some.active takes,
      inl (stepped c.args.settings.now c.args.self.now c.take.new.self c.args.name c.in-Some.active c.act.new.self c.args.realm.now c.act.new.realm takes c.in_ok-act.ensures.role
          c.args.events c.put.new.self c.args.out.now.items c.push_count_line.new.out.items c.requires.empty (acted_as _ Short _ _ _ _ _ c.in-Short.is c.in_ok-act.ensures.acted)
          (stands_as _ Short _ _ _ _ c.in-Short.is eq c.in_ok-act.ensures.stands) c.in_ok-put-in-Short.ensures c.in_ok-push_count_line-in-Short.ensures),
    )

pub returns-in_ok-push_named_ending-in-Ended-clause-played : goal.returns-in_ok-push_named_ending-in-Ended-clause-played
returns-in_ok-push_named_ending-in-Ended-clause-played c = λ is.
    let eq = c.requires.holds.is_open.settings_are in
    let takes : Takes c.args.self.now c.take.new.self c.args.name (Some c.in-Some.active) = record { who = c.in-Some.ensures.who; gone = c.in-Some.ensures.gone; kept = c.in-Some.ensures.kept } in
    let acted = acted_as _ Ended _ _ _ _ _ c.in-Ended.is c.in_ok-act.ensures.acted in (
      _,
      part_taken c.args.self.now c.take.new.self c.args.name c.in-Some.active takes,
      inr (
        acted.0,
        acted.1,
        ran_out c.args.settings.now c.args.self.now c.take.new.self c.args.name c.in-Some.active c.act.new.self c.args.realm.now c.act.new.realm takes c.in_ok-act.ensures.role
            acted.0 c.args.out.now.items c.push_named_ending.new.out.items c.requires.empty acted.2
            (stands_as _ Ended _ _ _ _ c.in-Ended.is eq c.in_ok-act.ensures.stands)
            (let told = c.in_ok-push_named_ending-in-Ended.ensures in record { outcome = told.0; shown = told.1; bears = told.2; told = told.3 }),
      ),
    )
