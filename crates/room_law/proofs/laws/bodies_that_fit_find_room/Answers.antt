use Rattle.room_law.proofs.Calls.{room_found}
use Rattle.room_law.proofs.laws.bodies_that_fit_find_room.Goals as goal

pub returns : goal.returns
returns c = room_found
