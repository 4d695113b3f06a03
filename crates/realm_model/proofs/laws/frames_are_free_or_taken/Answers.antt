use Rattle.realm_model.proofs.Framing.{frames_add_up}
use Rattle.realm_model.proofs.laws.frames_are_free_or_taken.Goals as goal

pub returns : goal.returns
returns c = frames_add_up
