use Rattle.task_get.proofs.Giving.{stays_while_waiting}
use Rattle.task_get.proofs.task.GetTaskStaged.waits.Goals as goal

pub returns : goal.returns
returns c = λ t settings d e waited legal fits. stays_while_waiting t settings d e waited fits
