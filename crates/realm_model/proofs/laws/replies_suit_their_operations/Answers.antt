use Rattle.realm_model.proofs.SuitsLemmas.{reply_suits}
use Rattle.realm_model.proofs.laws.replies_suit_their_operations.Goals as goal

pub returns : goal.returns
returns c = reply_suits
