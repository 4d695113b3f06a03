use Rattle.script_player.proofs.Asking.{list_means}
use Rattle.script_player.proofs.list.ListTaskUnfed.tells.Goals as goal

pub returns : goal.returns
returns c = list_means
