use Rattle.realm_model.specs.Worlds.{start}
use Rattle.realm_model.proofs.Agreeing.{maps-run, heads_agree}
use Rattle.realm_model.proofs.laws.maps_are_what_heads_hold.Goals as goal

pub returns-clause-slots : goal.returns-clause-slots
returns-clause-slots c = heads_agree

pub returns-clause-world : goal.returns-clause-world
returns-clause-world c settings history = maps-run settings (start settings) history
