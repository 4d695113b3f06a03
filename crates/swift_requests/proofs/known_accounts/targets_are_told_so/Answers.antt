use Rattle.std.proofs.Common.{refl}
use Rattle.swift_requests.proofs.OnLiterals.{heads_on_literals}
use Rattle.swift_requests.proofs.known_accounts.targets_are_told_so.Goals as goal

pub returns : goal.returns
unfolding heads_on_literals
returns c = record { host = refl; no_host = refl; star = refl; name = refl; format = refl; path = refl }
