use Rattle.std.proofs.Common.{refl}
use Rattle.swift_reply.proofs.OnLiterals.{swift_replies_on_literals}
use Rattle.swift_reply.proofs.known_refusals.later_refusals_are_replied_so.Goals as goal

pub returns : goal.returns
unfolding swift_replies_on_literals
returns c = record { length = refl; not_met = refl; large = refl; target = refl; range = refl; etag = refl; not_built = refl; busy = refl; space = refl }
