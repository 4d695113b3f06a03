use Rattle.std.proofs.Common.{refl}
use Rattle.swift_requests.proofs.OnLiterals.{heads_on_literals}
use Rattle.swift_requests.proofs.known_accounts.names_are_counted_so.Goals as goal

pub returns : goal.returns
unfolding heads_on_literals
returns c = record { most = refl; removed_again = refl; many = refl; set_again = refl }
