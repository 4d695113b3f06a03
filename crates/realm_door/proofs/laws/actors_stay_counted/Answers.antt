use Rattle.realm_door.proofs.Steps.{counted_begun, counted_grown}
use Rattle.realm_door.proofs.laws.actors_stay_counted.Goals as goal

pub returns-clause-begun : goal.returns-clause-begun
returns-clause-begun c = counted_begun

pub returns-clause-grown : goal.returns-clause-grown
returns-clause-grown c = counted_grown
