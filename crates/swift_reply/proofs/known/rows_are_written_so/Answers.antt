use Rattle.std.proofs.Common.{refl}
use Rattle.swift_reply.proofs.OnLiterals.{swift_replies_on_literals}
use Rattle.swift_reply.proofs.known.rows_are_written_so.Goals as goal

pub returns : goal.returns
unfolding swift_replies_on_literals
returns c = record { empty = refl; odd = refl; accounts = refl; plain_accounts = refl }
