use Rattle.http_intake.proofs.WrongBodies.{wrong_body, goes_wrong}
use Rattle.http_intake.proofs.laws.a_body_goes_wrong_where_its_bytes_do.Goals as goal

pub returns : goal.returns
returns c = λ all bytes came before intake head why gives. (
  wrong_body before.largest intake gives.behind gives.room bytes why came head.framing gives.body_left gives.chunked,
  goes_wrong before.largest intake gives.behind gives.room bytes why came head.framing gives.body_left gives.chunked,
)
