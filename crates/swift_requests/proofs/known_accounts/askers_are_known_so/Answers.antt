use Rattle.std.proofs.Common.{refl}
use Rattle.swift_requests.proofs.OnLiterals.{heads_on_literals}
use Rattle.swift_requests.proofs.known_accounts.askers_are_known_so.Goals as goal

pub returns : goal.returns
unfolding heads_on_literals
returns c = record { ann = refl; bob = refl; nobody = refl; lost = refl; empty = refl; last = refl; last_lost = refl }
