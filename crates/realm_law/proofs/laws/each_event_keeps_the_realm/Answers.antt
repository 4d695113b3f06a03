use Rattle.realm_law.proofs.Keeping.{realm_starts, realm_next}
use Rattle.realm_law.proofs.laws.each_event_keeps_the_realm.Goals as goal

pub returns-clause-start : goal.returns-clause-start
returns-clause-start c = realm_starts

pub returns-clause-events : goal.returns-clause-events
returns-clause-events c = realm_next
