use Rattle.script_words.proofs.LinesSay.{one_meaning}
use Rattle.script_words.proofs.laws.lines_have_one_meaning.Goals as goal

pub returns : goal.returns
returns c = one_meaning
