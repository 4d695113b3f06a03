use Rattle.http_intake.proofs.RequestLaws.{same_requests}
use Rattle.http_intake.proofs.laws.requests_have_one_reading.Goals as goal

pub returns : goal.returns
returns c = λ largest bytes requests others why other a b. same_requests largest bytes requests others why other a b
