use Rattle.realm_model.proofs.TouchLemmas.{refused_stays}
use Rattle.realm_model.proofs.laws.an_event_touches_one_object.Goals as goal

pub returns-clause-refused : goal.returns-clause-refused
returns-clause-refused c = refused_stays
