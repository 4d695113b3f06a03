use Rattle.call_words.proofs.Reading.{one_stream}
use Rattle.gateway.proofs.laws.a_connection_has_one_reading.Goals as goal

pub returns : goal.returns
returns c = one_stream
