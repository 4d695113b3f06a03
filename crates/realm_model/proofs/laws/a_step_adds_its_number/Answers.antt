use Rattle.realm_model.proofs.Minding.{mine-next}
use Rattle.realm_model.proofs.laws.a_step_adds_its_number.Goals as goal

pub returns : goal.returns
returns c = mine-next
