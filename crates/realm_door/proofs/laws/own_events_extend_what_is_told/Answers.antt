use Rattle.realm_door.proofs.Steps.{extends}
use Rattle.realm_door.proofs.laws.own_events_extend_what_is_told.Goals as goal

pub returns : goal.returns
returns c = extends
