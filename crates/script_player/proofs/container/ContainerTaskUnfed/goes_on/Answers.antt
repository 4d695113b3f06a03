use Rattle.task_container.specs.Fits.{stage_of}
use Rattle.script_player.proofs.Asking.{container_open}
use Rattle.script_player.proofs.container.ContainerTaskUnfed.goes_on.Goals as goal

pub returns : goal.returns
returns c = λ t. container_open (stage_of t)
