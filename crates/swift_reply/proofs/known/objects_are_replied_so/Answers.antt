use Rattle.std.proofs.Common.{refl}
use Rattle.swift_reply.proofs.OnLiterals.{swift_replies_on_literals}
use Rattle.swift_reply.proofs.known.objects_are_replied_so.Goals as goal

pub returns : goal.returns
unfolding swift_replies_on_literals
returns c = record { stored = refl; closed = refl; shown = refl; head = refl; part = refl; same = refl }
