use Rattle.repair_law.proofs.Staying.{none_later, settled_at}
use Rattle.repair_law.proofs.Unchanged.{map_later}
use Rattle.repair_law.proofs.laws.settled_containers_are_shown.Goals as goal

pub returns-clause-stays : goal.returns-clause-stays
returns-clause-stays c = none_later

pub returns-clause-shown : goal.returns-clause-shown
returns-clause-shown c = settled_at

pub returns-clause-calm : goal.returns-clause-calm
returns-clause-calm c = map_later
