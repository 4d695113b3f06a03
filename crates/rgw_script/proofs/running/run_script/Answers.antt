use Rattle.std.proofs.Common.{◌∙◌}
use Rattle.std.proofs.lemmas.Result.{err_from_is_err_and}
use Rattle.rgw_script.proofs.Containers.{unbegun, unmade_counts, opens, opens_holds, runs_on}
use Rattle.rgw_script.specs.Runs.{opening}
use Rattle.rgw_script.specs.declared.fault.ScriptFault.TheVariants.{OutOfMemory}
use Rattle.rgw_script.proofs.Lines.{left_at_once, counts_write}
use Rattle.rgw_script.proofs.running.run_script.Goals as goal

pub returns-in_err-asker-clause-runs : goal.returns-in_err-asker-clause-runs
returns-in_err-asker-clause-runs g c =
    let p = err_from_is_err_and c.from_residual-in_err-asker.result c.from_residual-in_err-asker.ensures.1 in
    let s = opening c.args.settings.now c.args.plan.now in
    rw (p.1, p.2) (runs_on c.args.settings.now c.args.plan.now s _ _ _ _ _ _ (λ i. s)
    (left_at_once c.args.settings.now s (g.S.Source.left c.args.input.now) (g.K.Sink.taken c.args.output.now) c.make_planned.new.realm.history c.in_ok-make_planned.ensures.made))

pub returns-in_err-asker-clause-cause : goal.returns-in_err-asker-clause-cause
returns-in_err-asker-clause-cause g c =
    let p = err_from_is_err_and c.from_residual-in_err-asker.result c.from_residual-in_err-asker.ensures.1 in
    rw (p.1, p.2) (counts_write (g.S.Source.faults c.args.input.now) (g.S.Source.faults c.args.input.now) (g.K.Sink.faults c.args.output.now) (g.K.Sink.faults c.args.output.now) OutOfMemory (λ e. absurd (cc)) (λ i. g.S.Source.faults c.args.input.now) (λ i. g.K.Sink.faults c.args.output.now))

pub returns-in_err-make_planned-clause-runs : goal.returns-in_err-make_planned-clause-runs
returns-in_err-make_planned-clause-runs g c =
    let p = err_from_is_err_and c.from_residual.result c.from_residual.ensures.1 in
    rw (p.1, p.2) (unbegun c.args.settings.now c.args.plan.now (g.S.Source.left c.args.input.now) (g.K.Sink.taken c.args.output.now) _ c.in_err-make_planned.field-0.0 c.in_err-make_planned.ensures.stopped)

pub returns-in_err-make_planned-clause-cause : goal.returns-in_err-make_planned-clause-cause
returns-in_err-make_planned-clause-cause g c =
    let p = err_from_is_err_and c.from_residual.result c.from_residual.ensures.1 in
    rw (p.1, p.2) (unmade_counts c.args.settings.now c.args.plan.now _ (g.S.Source.faults c.args.input.now) (g.K.Sink.faults c.args.output.now) c.in_err-make_planned.field-0.0 c.in_err-make_planned.ensures.stopped)

pub play_lines-requires-clause-holds : goal.play_lines-requires-clause-holds
play_lines-requires-clause-holds g c = opens_holds c.args.settings.now c.args.plan.now c.new.result c.in_ok-asker.asker c.make_planned.new.realm c.new.ensures c.in_ok-make_planned.ensures.open c.in_ok-make_planned.ensures.below

pub returns-clause-runs : goal.returns-clause-runs
returns-clause-runs g c = runs_on _ _ _ _ _ _ _ _ _ (opens c.args.settings.now c.args.plan.now c.new.result c.in_ok-asker.asker c.make_planned.new.realm.history (c.in_ok-asker.ensures.cases ∙ c.first_user.ensures) c.new.ensures c.in_ok-make_planned.ensures.made) c.play_lines.ensures.runs
