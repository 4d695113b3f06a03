use Rattle.std.proofs.Common.{refl}
use Rattle.swift_requests.proofs.OnLiterals.{heads_on_literals}
use Rattle.swift_requests.proofs.known.metadata_is_read_so.Goals as goal

pub returns : goal.returns
unfolding heads_on_literals
returns c = record { pairs = refl; of_get = refl; text = refl; last_text = refl; long_name = refl; long_value = refl; longest = refl; long_kind = refl; no_name = refl }
