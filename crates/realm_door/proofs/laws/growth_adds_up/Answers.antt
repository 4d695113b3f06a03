use Rattle.realm_door.proofs.Steps.{grows_none, grows_both}
use Rattle.realm_door.proofs.laws.growth_adds_up.Goals as goal

pub returns-clause-none : goal.returns-clause-none
returns-clause-none c = grows_none

pub returns-clause-both : goal.returns-clause-both
returns-clause-both c = grows_both
