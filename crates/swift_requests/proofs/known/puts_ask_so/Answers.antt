use Rattle.std.proofs.Common.{refl}
use Rattle.swift_requests.proofs.OnLiterals.{heads_on_literals}
use Rattle.swift_requests.proofs.known.puts_ask_so.Goals as goal

pub returns : goal.returns
unfolding heads_on_literals
returns c = record { plain = refl; waiting = refl; fields = refl; no_kind = refl; odd_etag = refl; largest = refl; too_large = refl; no_length = refl; chunks = refl }
