use Rattle.zone_core.proofs.Opening.{new_small}
use Rattle.zone_core.proofs.SmallLemmas.{small_after}
use Rattle.zone_core.proofs.laws.events_leave_room.Goals as goal

pub returns-clause-opening : goal.returns-clause-opening
returns-clause-opening c = new_small

pub returns-clause-event : goal.returns-clause-event
returns-clause-event c settings st op zone fits small = small_after settings st op zone fits small
