use Rattle.call_words.proofs.Staying.{stay}
use Rattle.call_words.proofs.laws.right_replies_stay_right.Goals as goal

pub returns : goal.returns
returns c = λ settings zone pass history later next calls last same right. stay settings zone pass history later next calls last same right
