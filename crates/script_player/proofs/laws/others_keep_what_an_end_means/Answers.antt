use Rattle.script_player.proofs.Staying.{means_stay}
use Rattle.script_player.proofs.laws.others_keep_what_an_end_means.Goals as goal

pub returns : goal.returns
returns c settings zone asker verb outcome shown d e pass count same = means_stay settings d e pass count same zone asker verb outcome shown
