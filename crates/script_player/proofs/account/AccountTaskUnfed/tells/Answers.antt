use Rattle.script_player.proofs.Asking.{account_means}
use Rattle.script_player.proofs.account.AccountTaskUnfed.tells.Goals as goal

pub returns : goal.returns
returns c = account_means
