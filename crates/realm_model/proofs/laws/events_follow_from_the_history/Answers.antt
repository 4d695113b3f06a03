use Rattle.realm_model.specs.Worlds.{start}
use Rattle.realm_model.proofs.Runs.{legal_front, legal_both, last_is_next, state-next}
use Rattle.realm_model.proofs.laws.events_follow_from_the_history.Goals as goal

pub returns-clause-answer : goal.returns-clause-answer
returns-clause-answer c settings history e legal = (last_is_next settings history e legal).answer

pub returns-clause-state : goal.returns-clause-state
returns-clause-state c = state-next

pub returns-clause-front : goal.returns-clause-front
returns-clause-front c settings front back legal = legal_front settings (start settings) front back legal

pub returns-clause-next : goal.returns-clause-next
returns-clause-next c settings history e legal next = legal_both settings (start settings) history _ legal (next, tt)
