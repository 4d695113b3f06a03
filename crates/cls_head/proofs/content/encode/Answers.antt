use Rattle.std.proofs.Common.{◌∷◌, [], refl, ap, ◌∙◌, length}
use Rattle.manifest.specs.Layouts.{encoding}
use Rattle.index_entry.specs.Numbers.{number_bytes}
use Rattle.cls_head.specs.Layouts.{pairs_bytes, text_bytes}
use Rattle.cls_head.proofs.TextLemmas.{added}
use Rattle.cls_head.proofs.HeadLemmas.{flat}
use Rattle.cls_head.proofs.content.encode.Goals as goal

pub returns-clause-form : goal.returns-clause-form
unfolding number_bytes
returns-clause-form c =
    let new = c.args.new.now in
    let p1 = added c.in_ok-extend.ensures.ok c.in_ok-bytes.ensures c.to_be_bytes.ensures in
    let p2 = added c.in_ok-extend-2.ensures.ok p1 c.to_be_bytes-2.ensures in
    let p3 = added c.in_ok-extend-3.ensures.ok p2 refl in
    let p4 = added c.in_ok-extend-4.ensures.ok p3 refl in
    let p5 = added c.in_ok-extend-5.ensures.ok p4 c.encode.ensures.form in
    let p6 = added c.in_ok-push_text.ensures.ok p5 (ap text_bytes c.as_text.ensures.text) in
    let p7 = added c.in_ok-extend-6.ensures.ok p6 (c.to_be_bytes-3.ensures ∙ ap number_bytes c.len.ensures) in
    let p8 = added c.in_ok-push_pairs.ensures.ok p7 (ap pairs_bytes c.as_slice.ensures.pairs) in
    p8 ∙ flat (235 ∷ 1 ∷ 1 ∷ []) (number_bytes c.args.version) (number_bytes c.args.stamp.micros) (c.args.stamp.zone ∷ []) new.etag (encoding new.manifest)
    (text_bytes new.kind) (number_bytes (length new.meta)) (pairs_bytes new.meta)
