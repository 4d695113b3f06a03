use Rattle.std.proofs.Common.{refl}
use Rattle.task_get.specs.Stages.{op_of}
use Rattle.task_get.proofs.Turning.{may_step}
use Rattle.task_get.proofs.task.GetTaskStaged.split.Goals as goal

pub returns-clause-may : goal.returns-clause-may
returns-clause-may c = λ settings d fits.
    let t = c.args.self.now in
    may_step settings d t (op_of t.request t.stage) c.requires refl fits
