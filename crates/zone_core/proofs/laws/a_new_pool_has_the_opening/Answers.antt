use Rattle.zone_core.proofs.Opening.{new_stands}
use Rattle.zone_core.proofs.laws.a_new_pool_has_the_opening.Goals as goal

pub returns : goal.returns
returns c = new_stands
