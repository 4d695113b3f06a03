use Rattle.std.proofs.Common.{refl}
use Rattle.swift_reply.proofs.OnLiterals.{swift_replies_on_literals}
use Rattle.swift_reply.proofs.known.listings_are_replied_so.Goals as goal

pub returns : goal.returns
unfolding swift_replies_on_literals
returns c = record { plain = refl; json = refl; none = refl; json_none = refl; account = refl; account_none = refl }
