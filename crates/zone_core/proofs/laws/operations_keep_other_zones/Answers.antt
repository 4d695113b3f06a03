use Rattle.zone_core.proofs.Apart.{other_zone}
use Rattle.zone_core.proofs.laws.operations_keep_other_zones.Goals as goal

pub returns : goal.returns
returns c = other_zone
