use Rattle.std.proofs.Common.{refl}
use Rattle.swift_reply.proofs.OnLiterals.{swift_replies_on_literals}
use Rattle.swift_reply.proofs.known.containers_are_replied_so.Goals as goal

pub returns : goal.returns
unfolding swift_replies_on_literals
returns c = record { made = refl; accepted = refl; done = refl; counted = refl; for_others = refl; account = refl; let_in = refl; waits = refl }
