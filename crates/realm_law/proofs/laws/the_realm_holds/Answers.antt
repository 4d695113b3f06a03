use Rattle.realm_law.proofs.Keeping.{realm_at}
use Rattle.realm_law.proofs.laws.the_realm_holds.Goals as goal

pub returns : goal.returns
returns c = realm_at
