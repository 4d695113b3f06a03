use Rattle.http_chunks.proofs.Ends.{chunks_unique}
use Rattle.http_chunks.proofs.laws.a_body_has_one_reading.Goals as goal

pub returns : goal.returns
returns c = λ behind room bytes contents others end other rest left a b. chunks_unique contents others behind room bytes end other rest left a b
