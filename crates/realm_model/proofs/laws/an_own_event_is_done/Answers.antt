use Rattle.realm_model.proofs.Doing.{doings-next}
use Rattle.realm_model.proofs.laws.an_own_event_is_done.Goals as goal

pub returns : goal.returns
returns c = doings-next
