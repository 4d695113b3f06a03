use Rattle.http_intake.proofs.RequestLaws.{first_requests}
use Rattle.http_intake.proofs.laws.a_later_byte_changes_no_whole_request.Goals as goal

pub returns : goal.returns
returns c = λ largest bytes more requests others why other a b. first_requests largest bytes more requests others why other a b
