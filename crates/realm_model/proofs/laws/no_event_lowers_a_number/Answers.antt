use Rattle.realm_model.proofs.Rising.{rising}
use Rattle.realm_model.proofs.laws.no_event_lowers_a_number.Goals as goal

pub returns : goal.returns
returns c = rising
