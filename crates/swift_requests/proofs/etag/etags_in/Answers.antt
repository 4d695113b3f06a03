use Rattle.std.proofs.Common.{ap, ◌∙◌, sym, lit<, map}
use Rattle.std.proofs.lemmas.Simd.{map-map}
use Rattle.std.proofs.lemmas.Iterator.Consumers.{YieldsList-end}
use Rattle.std.proofs.lemmas.Iterator.Splits.{YieldsList-from_str_split}
use Rattle.swift_requests.specs.Etags.{etag_in}
use Rattle.swift_requests.proofs.etag.etags_in.Goals as goal

pub returns : goal.returns
returns c =
    let ended = YieldsList-end (YieldsList-from_str_split 44 c.args.list.now (lit< tt) (cc) (cc) (cc))
    c.loop-part.yielded _ c.loop-part.yielded_by _ _ c.in-None.is c.next.ensures.steps in
    c.loop-part.invariant ∙ sym (map-map etag_in (λ part. part.now) c.loop-part.yielded) ∙ ap (map etag_in) ended.0
