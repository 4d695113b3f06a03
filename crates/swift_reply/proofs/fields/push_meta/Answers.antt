use Rattle.std.proofs.Common.{◌≡◌, ◌++◌, ℕ, List, take, flat_map, length, sym, ap, ◌∙◌, arith}
use Rattle.std.proofs.lemmas.List.{take_all}
use Rattle.std.proofs.lemmas.List.Folds.{flat_map-map}
use Rattle.http_model.specs.Replies.{field_line}
use Rattle.swift_reply.specs.Fields.{text_field}
use Rattle.swift_reply.proofs.fields.push_meta.Goals as goal

pub returns : goal.returns
returns c =
    let pairs = c.args.meta.now in
    let out = c.args.out.now.items in
    let all : take c.loop-pair.pair-index pairs ≡ pairs = take_all c.loop-pair.pair-index pairs (omega (arith, c.loop-pair-test.false, ap length c.as_slice-pair-items.ensures.pairs)) in
    c.loop-pair.invariant
    ∙ ap (λ (ps : List (List ℕ × List ℕ)). out ++ flat_map (λ (pair : List ℕ × List ℕ). field_line (text_field (c.args.front.now ++ pair.0) pair.1)) ps) all
    ∙ ap (λ (l : List ℕ). out ++ l) (sym (flat_map-map field_line (λ (pair : List ℕ × List ℕ). text_field (c.args.front.now ++ pair.0) pair.1) pairs))
