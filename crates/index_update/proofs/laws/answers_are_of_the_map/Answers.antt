use Rattle.index_update.proofs.ChangingAnswers.{answered_so}
use Rattle.index_update.proofs.laws.answers_are_of_the_map.Goals as goal

pub returns : goal.returns
returns c = answered_so
