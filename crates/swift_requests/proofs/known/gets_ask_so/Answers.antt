use Rattle.std.proofs.Common.{refl}
use Rattle.swift_requests.proofs.OnLiterals.{heads_on_literals}
use Rattle.swift_requests.proofs.known.gets_ask_so.Goals as goal

pub returns : goal.returns
unfolding heads_on_literals
returns c = record { plain = refl; with_body = refl; fields = refl; range_condition = refl; head = refl; too_large = refl }
