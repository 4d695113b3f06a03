use Rattle.std.proofs.Common.{refl}
use Rattle.swift_requests.proofs.OnLiterals.{heads_on_literals}
use Rattle.swift_requests.proofs.known.objects_are_named_so.Goals as goal

pub returns : goal.returns
unfolding heads_on_literals
returns c = record { slashes = refl; escaped = refl; plus = refl; older = refl; copies_nothing = refl }
