use Rattle.std.proofs.Common.{◌≡◌, length, take, sym, ap, ◌∙◌, subst, arith}
use Rattle.std.proofs.lemmas.List.{take_all}
use Rattle.object_pool.specs.Places.{object_of}
use Rattle.object_words.specs.declared.head.SeenSlot.TheVariants.{Live}
use Rattle.object_words.specs.Heads.{first_bytes}
use Rattle.cls_head.specs.Layouts.{IsSlot, texts_of}
use Rattle.cls_head.proofs.HeadLemmas.{shows_live}
use Rattle.cls_head.proofs.heads.read_stored.Goals as goal

pub returns : goal.returns
returns c h is =
    let o = object_of c.args.head.now in
    let here = c.attrs.ensures ∙ is.attrs in
    let f = c.read_front-front.ensures in
    let l = shows_live h.slot c.in-Some.stamp c.in-Some-etag.etag c.unwrap-manifest.result
    (sym c.in-Some.is ∙ f.stamp h is.bounds here) (sym c.in-Some-etag.is ∙ f.etag h is.bounds here) (sym c.unwrap-manifest.ensures ∙ f.manifest h is.bounds here) in
    let bounds = subst (IsSlot h.version) l.slot_is is.bounds in
    let texts = f.texts h is.bounds here ∙ ap texts_of l.slot_is in
    let version = f.version h is.bounds here in
    let first : c.in_ok-first.first ≡ l.new.first =
    c.in_ok-first.ensures ∙ ap (λ n. take n o.bytes) c.size.ensures ∙ take_all (length o.bytes) o.bytes (omega arith) ∙ is.bytes ∙ ap first_bytes l.slot_is in
    let kind = c.in_ok-kind.ensures.kind l.new bounds.2 texts in
    let meta = c.in_ok-kind.ensures.meta l.new bounds.2 texts in
    let slot : Live (record { manifest = c.unwrap-manifest.result; first = c.in_ok-first.first; kind = c.in_ok-kind.kind; meta = c.in_ok-kind.meta; etag = c.in-Some-etag.etag }) c.in-Some.stamp ≡ h.slot =
    (λ i. Live (record { manifest = l.manifest_is i; first = first i; kind = kind i; meta = meta i; etag = l.etag_is i }) c.in-Some.stamp) ∙ sym l.slot_is in
    λ i. record { version = version i; slot = slot i }
