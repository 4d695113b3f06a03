use Rattle.std.proofs.Common.{List, ℕ, ◌∷◌, ◌++◌, ◌∙◌, sym, ap}
use Rattle.http_model.specs.Replies.{content_length_field, closing_fields, head_text, text_of}
use Rattle.swift_reply.proofs.Pieces.{empty, written_nothing}
use Rattle.swift_reply.proofs.bare.push_empty.Goals as goal

pub returns : goal.returns
unfolding head_text text_of
returns c =
    empty c.args.out.now.items _ _ _ _ _ _ _ _ c.in_ok-push_status.ensures c.in_ok-push_length.ensures
    c.in_ok-push_closing.ensures c.in_ok-extend_from_slice.ensures.items
    ∙ ap (λ (body : List ℕ). c.args.out.now.items ++ (head_text (record { code = c.args.status; fields = content_length_field 0 ∷ closing_fields c.args.form }) ++ body)) (sym (written_nothing c.args.form))
