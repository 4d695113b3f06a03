use Rattle.object_words.proofs.Sums.{sum-with_entry}
use Rattle.object_words.proofs.laws.sums_move_by_one_entry.Goals as goal

pub returns : goal.returns
returns c f empty s name e gone = sum-with_entry f empty s name e gone
