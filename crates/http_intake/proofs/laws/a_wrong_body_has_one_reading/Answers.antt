use Rattle.http_intake.proofs.WrongBodies.{same_wrong}
use Rattle.http_intake.proofs.laws.a_wrong_body_has_one_reading.Goals as goal

pub returns : goal.returns
returns c = λ largest framing after came others why other a b. same_wrong largest framing after why other came others a b
