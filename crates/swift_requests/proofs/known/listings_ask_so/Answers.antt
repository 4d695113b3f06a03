use Rattle.std.proofs.Common.{refl}
use Rattle.swift_requests.proofs.OnLiterals.{heads_on_literals}
use Rattle.swift_requests.proofs.known.listings_ask_so.Goals as goal

pub returns : goal.returns
unfolding heads_on_literals
returns c = record { all = refl; slash = refl; some = refl; other = refl }
