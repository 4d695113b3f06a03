use Rattle.task_account.proofs.Waiting.{waits}
use Rattle.task_account.proofs.task.AccountTaskStaged.waits.Goals as goal

pub returns : goal.returns
returns c = λ t settings d e waited legal f. waits t settings d e waited f
