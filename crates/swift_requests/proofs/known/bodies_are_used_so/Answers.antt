use Rattle.std.proofs.Common.{refl}
use Rattle.swift_requests.proofs.OnLiterals.{heads_on_literals}
use Rattle.swift_requests.proofs.known.bodies_are_used_so.Goals as goal

pub returns : goal.returns
unfolding heads_on_literals
returns c = record { fed = refl; awaited = refl; other = refl; of_get_waiting = refl; dropped = refl; none = refl; of_get = refl; no_length = refl; not_built = refl; too_large = refl; nobody = refl; largest = refl; waits = refl; chunks = refl; stays = refl; wants = refl; unread = refl; older = refl; many = refl }
