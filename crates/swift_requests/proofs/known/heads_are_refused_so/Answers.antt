use Rattle.std.proofs.Common.{refl}
use Rattle.swift_requests.proofs.OnLiterals.{heads_on_literals}
use Rattle.swift_requests.proofs.known.heads_are_refused_so.Goals as goal

pub returns : goal.returns
unfolding heads_on_literals
returns c = record { host = refl; two_hosts = refl; star = refl; escape = refl; utf8 = refl; name = refl; limit = refl; format = refl; path = refl; method = refl; lower = refl; deleted = refl; posted = refl; copied = refl; copy = refl; lost = refl; other_token = refl; text = refl; text_of_nobody = refl; etag = refl; kind_text = refl; last_text = refl }
