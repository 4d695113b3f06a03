use Rattle.task_put.proofs.Staging.{waits}
use Rattle.task_put.proofs.staged.PutTaskStaged.waits.Goals as goal

pub returns : goal.returns
returns c = waits
