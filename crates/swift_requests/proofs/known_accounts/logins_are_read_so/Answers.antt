use Rattle.std.proofs.Common.{refl}
use Rattle.swift_requests.proofs.OnLiterals.{heads_on_literals}
use Rattle.swift_requests.proofs.known_accounts.logins_are_read_so.Goals as goal

pub returns : goal.returns
unfolding heads_on_literals
returns c = record { first = refl; second = refl; key_of_another = refl; name_alone = refl; key_alone = refl; account_alone = refl; last = refl; no_host = refl; last_host = refl; other_paths = refl; token = refl; head = refl; post = refl; too_large = refl; unauthorized_first = refl }
