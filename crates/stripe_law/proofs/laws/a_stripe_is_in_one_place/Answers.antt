use Rattle.stripe_law.proofs.Storing.{one_head, one_maker, one_changer, made_or_named, replaced_or_named, made_or_replaced}
use Rattle.stripe_law.proofs.laws.a_stripe_is_in_one_place.Goals as goal

pub returns-clause-heads : goal.returns-clause-heads
returns-clause-heads c = one_head

pub returns-clause-makers : goal.returns-clause-makers
returns-clause-makers c = one_maker

pub returns-clause-changers : goal.returns-clause-changers
returns-clause-changers c = one_changer

pub returns-clause-made_or_named : goal.returns-clause-made_or_named
returns-clause-made_or_named c = made_or_named

pub returns-clause-replaced_or_named : goal.returns-clause-replaced_or_named
returns-clause-replaced_or_named c = replaced_or_named

pub returns-clause-made_or_replaced : goal.returns-clause-made_or_replaced
returns-clause-made_or_replaced c = made_or_replaced
