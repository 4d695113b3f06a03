use Rattle.std.proofs.Common.{refl}
use Rattle.swift_requests.proofs.OnLiterals.{heads_on_literals}
use Rattle.swift_requests.proofs.known.objects_are_asked_for_so.Goals as goal

pub returns : goal.returns
unfolding heads_on_literals
returns c = record { bob = refl; bob_puts = refl; nobody = refl; nobody_puts = refl; last = refl; other_account = refl; put_in_another = refl; empty_account = refl }
