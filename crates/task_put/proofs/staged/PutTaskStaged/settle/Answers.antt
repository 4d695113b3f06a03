use Rattle.std.proofs.Common.{sym, subst}
use Rattle.task_put.specs.declared.stage.Stage.{Stage}
use Rattle.task_put.specs.Tasks.{at_stage, fits}
use Rattle.task_put.proofs.Stepping.{settled_task}
use Rattle.task_put.proofs.staged.PutTaskStaged.settle.Goals as goal

pub returns-in-None-clause-fits : goal.returns-in-None-clause-fits
returns-in-None-clause-fits c = λ settings d f.
    subst (λ (s : Stage). fits (at_stage c.args.self.now s) settings d) (sym c.close.ensures.stage) (settled_task settings d c.args.self.now f)
