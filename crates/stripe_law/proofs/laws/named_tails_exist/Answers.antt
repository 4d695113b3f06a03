use Rattle.stripe_law.proofs.Storing.{named_there, named_stored}
use Rattle.stripe_law.proofs.laws.named_tails_exist.Goals as goal

pub returns-clause-named : goal.returns-clause-named
returns-clause-named c = named_there

pub returns-clause-stored : goal.returns-clause-stored
returns-clause-stored c = named_stored
