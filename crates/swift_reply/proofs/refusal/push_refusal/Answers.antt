use Rattle.std.proofs.Common.{ℕ, ◌≡◌, ◌+◌, List, ◌++◌, length, flat_map, ◌∙◌, sym, ap, arith, append_assoc}
use Rattle.std.proofs.lemmas.List.{length-append}
use Rattle.std.proofs.lemmas.List.Concat.{flat_map-append}
use Rattle.http_model.specs.Replies.{crlf, status_line, field_line, closing_fields, content_length_field, content_type_field, field_if, line_kind, line_body, written_body, head_text, text_of}
use Rattle.swift_reply.specs.Fields.{field_for, allow_field, challenge_field}
use Rattle.swift_reply.specs.Replies.{refusal_code, refusal_front, refusal_rest, refusal_line, refusal_range, refusal_allow, refusal_challenges, own_fields, reply_text}
use Rattle.swift_reply.proofs.Pieces.{refused}
use Rattle.swift_reply.proofs.refusal.push_refusal.Goals as goal

pub returns : goal.returns
unfolding head_text text_of reply_text
returns c =
    let refusal = c.args.refusal.now in
    let out = c.args.out.now.items in
    let s = status_line (refusal_code refusal) in
    let a = field_line (content_length_field (length (refusal_line refusal) + 1)) in
    let b = field_line (content_type_field line_kind) in
    let body = written_body c.args.form (line_body (refusal_line refusal)) in
    let close = closing_fields c.args.form in
    let range = field_for (λ f. f) (refusal_range refusal) in
    let allow = field_for allow_field (refusal_allow refusal) in
    let challenge = field_if (refusal_challenges refusal) challenge_field in
    let flat : (range ++ (allow ++ challenge)) ++ close ≡ range ++ (allow ++ (challenge ++ close)) = simp append_assoc in
    let fields = sym (flat_map-append field_line (own_fields refusal) close) ∙ ap (flat_map field_line) flat in
    refused out _ _ _ _ _ _ s a b _ _ crlf body
    (c.in_ok-push_status.ensures ∙ ap (λ (code : ℕ). out ++ status_line code) c.status_of.ensures)
    (c.in_ok-push_line_fields.ensures ∙ ap (λ (n : ℕ). c.push_status.new.out.items ++ (field_line (content_length_field (n + 1)) ++ b)) (omega (arith, ap length c.front.ensures.text, c.rest_len.ensures.count, length-append (refusal_front refusal) (refusal_rest refusal))))
    c.in_ok-push_own_field.ensures c.in_ok-push_closing.ensures c.in_ok-extend_from_slice.ensures.items c.in_ok-push_line.ensures
    ∙ ap (λ (f : List ℕ). out ++ ((s ++ (a ++ (b ++ f)) ++ crlf) ++ body)) fields
