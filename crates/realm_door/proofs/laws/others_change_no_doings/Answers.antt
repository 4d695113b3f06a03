use Rattle.realm_door.proofs.Others.{same_after_others}
use Rattle.realm_door.proofs.laws.others_change_no_doings.Goals as goal

pub returns : goal.returns
returns c = same_after_others
