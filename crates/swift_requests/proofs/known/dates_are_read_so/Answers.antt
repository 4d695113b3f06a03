use Rattle.std.proofs.Common.{refl}
use Rattle.swift_requests.proofs.OnLiterals.{heads_on_literals}
use Rattle.swift_requests.proofs.known.dates_are_read_so.Goals as goal

pub returns : goal.returns
unfolding heads_on_literals
returns c = record { fixed = refl; rfc_850 = refl; asctime = refl; other_day = refl; no_date = refl; last = refl }
