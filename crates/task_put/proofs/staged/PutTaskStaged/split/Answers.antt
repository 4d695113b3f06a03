use Rattle.std.proofs.lemmas.Result.{IfOk-weaker}
use Rattle.task_put.proofs.Stepping.{may_go_on}
use Rattle.task_put.proofs.staged.PutTaskStaged.split.Goals as goal

pub returns-clause-may : goal.returns-clause-may
returns-clause-may c = IfOk-weaker c.take_out.result _ _ (λ s is settings d f. may_go_on settings d c.args.self.now c.requires f) c.take_out.ensures.op
