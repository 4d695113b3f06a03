use Rattle.std.proofs.Common.{ℕ, ◌+◌, List, ◌++◌, length, ◌∙◌, ap, arith, codes}
use Rattle.http_model.specs.Replies.{crlf, field_line, content_length_field, content_type_field, line_kind, line_body, written_body, bad_request_line, head_text, text_of, bad_request_text}
use Rattle.swift_reply.proofs.Pieces.{broken}
use Rattle.swift_reply.proofs.broken.push_bad_request.Goals as goal

pub returns : goal.returns
unfolding head_text text_of bad_request_text
returns c =
    let a = field_line (content_length_field (length (bad_request_line c.args.fault) + 1)) in
    let b = field_line (content_type_field line_kind) in
    broken c.args.out.now.items _ _ _ _ _ _ a b _ crlf _
    c.in_ok-push_status.ensures
    (c.in_ok-push_line_fields.ensures ∙ ap (λ (n : ℕ). c.push_status.new.out.items ++ (field_line (content_length_field (n + 1)) ++ b)) (omega (arith, ap length c.word_of-word.ensures.text)))
    c.in_ok-push_closing.ensures c.in_ok-extend_from_slice.ensures.items
    (c.in_ok-push_word.ensures ∙ ap (λ (word : List ℕ). c.extend_from_slice.new.self.items ++ written_body c.args.form (line_body (codes "Bad request: " ++ word))) c.word_of-word.ensures.text)
