use Rattle.std.proofs.Common.{rules, ◌≡◌, true, false, List, ℕ, ◌==◌, ◌++◌, length, ◌∙◌, ap}
use Rattle.std.proofs.lemmas.Result.{on_ok_weaker}
use Rattle.http_model.specs.Replies.{crlf, field_line, content_length_field, content_type_field, written_body}
use Rattle.swift_reply.specs.Replies.{listing_kind}
use Rattle.swift_reply.proofs.ListingTexts.{empty_text, some_text}
use Rattle.swift_reply.proofs.Pieces.{broken}
use Rattle.swift_reply.proofs.listed.push_listing.Goals as goal

pub returns-then-is_empty : goal.returns-then-is_empty
returns-then-is_empty c =
    let is : (length c.args.text.now == 0) ≡ true = search rules in
    on_ok_weaker c.push_done.result (λ e. e ∙ ap (λ (l : List ℕ). c.args.out.now.items ++ l) (empty_text c.args.form c.args.listing c.args.text.now is)) c.push_done.ensures

pub returns : goal.returns
returns c =
    let is : (length c.args.text.now == 0) ≡ false = search rules in
    let a = field_line (content_length_field (length c.args.text.now)) in
    let b = field_line (content_type_field (listing_kind c.args.listing)) in
    on_ok_weaker c.push_body.result
    (λ e. broken c.args.out.now.items _ _ _ _ _ _ a b _ crlf (written_body c.args.form c.args.text.now)
    c.in_ok-push_status.ensures c.in_ok-push_text_fields.ensures c.in_ok-push_closing.ensures c.in_ok-extend_from_slice.ensures.items e
    ∙ ap (λ (l : List ℕ). c.args.out.now.items ++ l) (some_text c.args.form c.args.listing c.args.text.now is))
    c.push_body.ensures
