use Rattle.realm_model.proofs.Deciding.{decided_stands, source_stands, target_stands}
use Rattle.realm_model.proofs.laws.deciding_events_stand.Goals as goal

pub returns-clause-decided : goal.returns-clause-decided
returns-clause-decided c = decided_stands

pub returns-clause-source : goal.returns-clause-source
returns-clause-source c = source_stands

pub returns-clause-target : goal.returns-clause-target
returns-clause-target c = target_stands
