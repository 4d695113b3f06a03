use Rattle.realm_door.proofs.Waits.{waits_both, waits_none}
use Rattle.realm_door.proofs.laws.waits_add_up.Goals as goal

pub returns-clause-none : goal.returns-clause-none
returns-clause-none c = waits_none

pub returns-clause-both : goal.returns-clause-both
returns-clause-both c = waits_both
