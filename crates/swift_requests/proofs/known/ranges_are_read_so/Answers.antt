use Rattle.std.proofs.Common.{refl}
use Rattle.swift_requests.proofs.OnLiterals.{heads_on_literals}
use Rattle.swift_requests.proofs.known.ranges_are_read_so.Goals as goal

pub returns : goal.returns
unfolding heads_on_literals
returns c = record { first_500 = refl; second_500 = refl; last_500 = refl; from_9500 = refl; two = refl; two_more = refl; blanks = refl; crossed = refl; zeros = refl; greatest = refl; above = refl; many_last = refl; none_last = refl; dash = refl; nothing = refl; no_dash = refl; two_dashes = refl; sign = refl; letter = refl; upper = refl; other_unit = refl; short = refl }
