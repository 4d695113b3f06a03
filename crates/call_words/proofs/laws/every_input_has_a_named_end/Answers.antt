use Rattle.call_words.proofs.EveryInput.{every_stream}
use Rattle.call_words.proofs.laws.every_input_has_a_named_end.Goals as goal

pub returns : goal.returns
returns c left largest users k bytes none = every_stream left largest users k bytes none
