use Rattle.std.proofs.Common.{refl}
use Rattle.swift_requests.proofs.OnLiterals.{heads_on_literals}
use Rattle.swift_requests.proofs.known_accounts.containers_are_looked_at_so.Goals as goal

pub returns : goal.returns
unfolding heads_on_literals
returns c = record { ann = refl; bob = refl; nobody = refl; some = refl; head = refl; head_by_nobody = refl; lost = refl; head_by_lost = refl; too_large = refl; head_too_large = refl; with_body = refl; fields_are_not_looked_at = refl; copy = refl; lower = refl }
