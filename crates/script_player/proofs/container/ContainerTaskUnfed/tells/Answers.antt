use Rattle.script_player.proofs.Asking.{container_means}
use Rattle.script_player.proofs.container.ContainerTaskUnfed.tells.Goals as goal

pub returns : goal.returns
returns c = container_means
