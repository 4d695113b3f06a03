use Rattle.http_chunks.proofs.BodyLaws.{chunks_more}
use Rattle.http_chunks.proofs.laws.a_later_byte_changes_no_body.Goals as goal

pub returns : goal.returns
returns c = λ behind room bytes more contents rest a. chunks_more contents behind room bytes more rest a
