use Rattle.std.proofs.Common.{◌≡◌, ◌++◌, ap, ap₂, ◌∙◌, append_assoc, length}
use Rattle.std.proofs.lemmas.Result.{IfOk-equal}
use Rattle.index_entry.specs.Numbers.{number_bytes}
use Rattle.cls_head.proofs.pieces.push_text.Goals as goal

pub returns-clause-ok : goal.returns-clause-ok
unfolding number_bytes
returns-clause-ok c =
    let text = c.args.text.now in
    let written : c.extend.new.self ≡ c.args.bytes.now ++ number_bytes (length text) =
    c.in_ok-extend.ensures.ok ∙ ap (λ z. c.args.bytes.now ++ z) (c.to_be_bytes.ensures ∙ ap (λ t. number_bytes (length t)) c.as_str-text.ensures) in
    let bytes = c.as_bytes.ensures.value ∙ c.as_str-text.ensures in
    IfOk-equal _ _ _ _ c.extend-2.ensures.ok (ap₂ (λ x y. x ++ y) written bytes ∙ append_assoc c.args.bytes.now (number_bytes (length text)) text)
