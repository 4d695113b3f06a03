use Rattle.realm_model.proofs.Computing.{computed}
use Rattle.realm_model.proofs.laws.computed_histories_are_legal.Goals as goal

pub returns : goal.returns
returns c = computed
