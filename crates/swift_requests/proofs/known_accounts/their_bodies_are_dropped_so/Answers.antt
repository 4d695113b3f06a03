use Rattle.std.proofs.Common.{refl}
use Rattle.swift_requests.proofs.OnLiterals.{heads_on_literals}
use Rattle.swift_requests.proofs.known_accounts.their_bodies_are_dropped_so.Goals as goal

pub returns : goal.returns
unfolding heads_on_literals
returns c = record { login = refl; account = refl; listing = refl; change = refl; chunks = refl; no_method = refl; too_large = refl; nobody = refl; login_waits = refl; waits = refl }
