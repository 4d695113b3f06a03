use Rattle.stripe_law.proofs.Storing.{object_parts, object_size, object_slot}
use Rattle.stripe_law.proofs.laws.an_object_is_its_parts.Goals as goal

pub returns-clause-parts : goal.returns-clause-parts
returns-clause-parts c = object_parts

pub returns-clause-size : goal.returns-clause-size
returns-clause-size c = object_size

pub returns-clause-slot : goal.returns-clause-slot
returns-clause-slot c = object_slot
