use Rattle.std.proofs.Common.{refl}
use Rattle.swift_requests.proofs.OnLiterals.{heads_on_literals}
use Rattle.swift_requests.proofs.known_accounts.accounts_are_asked_so.Goals as goal

pub returns : goal.returns
unfolding heads_on_literals
returns c = record { all = refl; some = refl; head = refl; own = refl; post = refl; put_by_nobody = refl; delete_by_lost = refl; query_first = refl; nobody = refl; lost = refl; bob = refl; no_user_has_it = refl; too_large = refl; too_large_first = refl }
