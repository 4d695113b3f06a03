use Rattle.std.proofs.Common.{refl}
use Rattle.swift_reply.proofs.OnLiterals.{swift_replies_on_literals}
use Rattle.swift_reply.proofs.known_refusals.first_refusals_are_replied_so.Goals as goal

pub returns : goal.returns
unfolding swift_replies_on_literals
returns c = record { head = refl; name = refl; expiry = refl; token = refl; denied = refl; path = refl; path_of_head = refl; method = refl; not_empty = refl }
