use Rattle.std.proofs.lemmas.Result.{IfOk-weaker}
use Rattle.task_list.specs.Progresses.{settled_of, rows_in}
use Rattle.task_list.proofs.Staging.{fresh}
use Rattle.task_list.proofs.stage.progress_in.Goals as goal

pub returns-in_default : goal.returns-in_default
returns-in_default c =
    IfOk-weaker c.new.result _ _ (λ p is zone events fits. fresh zone c.args.command.now c.args.container (settled_of p) (rows_in p) events is.0 is.1) c.new.ensures
