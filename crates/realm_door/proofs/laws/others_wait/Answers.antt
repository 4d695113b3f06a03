use Rattle.realm_door.proofs.Waits.{waits_meanwhile}
use Rattle.realm_door.proofs.laws.others_wait.Goals as goal

pub returns : goal.returns
returns c = waits_meanwhile
