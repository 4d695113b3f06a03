use Rattle.task_list.proofs.Waiting.{waits}
use Rattle.task_list.proofs.task.ListTaskStaged.waits.Goals as goal

pub returns : goal.returns
returns c = λ t settings d e waited legal f. waits t settings d e waited f
