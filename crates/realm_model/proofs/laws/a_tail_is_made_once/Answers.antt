use Rattle.realm_model.proofs.MadeOnce.{made_once, tails_agree}
use Rattle.realm_model.proofs.laws.a_tail_is_made_once.Goals as goal

pub returns-clause-once : goal.returns-clause-once
returns-clause-once c = made_once

pub returns-clause-bytes : goal.returns-clause-bytes
returns-clause-bytes c = tails_agree
