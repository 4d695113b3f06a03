use Rattle.std.proofs.Common.{refl}
use Rattle.swift_requests.proofs.OnLiterals.{heads_on_literals}
use Rattle.swift_requests.proofs.known.etags_are_read_so.Goals as goal

pub returns : goal.returns
unfolding heads_on_literals
returns c = record { one = refl; three = refl; star = refl; weak = refl; quoted_star = refl; listed_star = refl; empty = refl; no_text = refl; blanks = refl; one_pair = refl; upper = refl }
