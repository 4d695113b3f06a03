use Rattle.std.proofs.Common.{◌≡◌, map}
use Rattle.swift_requests.specs.Etags.{etag_in}
use Rattle.swift_requests.proofs.etag.etags_in.Given as goal

abbrev pub invariant-loop-part : goal.invariant-loop-part
invariant-loop-part l = l.etags ≡ map (λ part. etag_in part.now) l.yielded
