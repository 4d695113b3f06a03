use Rattle.script_player.proofs.Staying.{player_stays}
use Rattle.script_player.proofs.laws.others_keep_a_player.Goals as goal

pub returns : goal.returns
returns c settings p d e pass count front legal same = player_stays settings d e pass count same front legal p
