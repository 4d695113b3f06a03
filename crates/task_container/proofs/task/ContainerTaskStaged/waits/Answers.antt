use Rattle.task_container.proofs.Waiting.{waits}
use Rattle.task_container.proofs.task.ContainerTaskStaged.waits.Goals as goal

pub returns : goal.returns
returns c = λ t settings d e waited legal f. waits t settings d e waited f
