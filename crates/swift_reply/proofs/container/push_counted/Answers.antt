use Rattle.std.proofs.Common.{List, ℕ, [], ◌++◌, ◌∙◌, sym, ap, codes, flat_map, None, if◌then◌else◌}
use Rattle.std.proofs.lemmas.List.Concat.{flat_map-append}
use Rattle.http_model.specs.Replies.{crlf, status_line, field_line, closing_fields, head_text, text_of}
use Rattle.swift_reply.specs.declared.reply.SwiftReply.TheVariants.{Counted}
use Rattle.swift_reply.specs.Fields.{number_field, text_field, meta_fields, field_for}
use Rattle.swift_reply.specs.Replies.{filled, counts_of, reply_head, reply_text}
use Rattle.swift_reply.proofs.Pieces.{counted, written_nothing}
use Rattle.swift_reply.proofs.container.push_counted.Goals as goal

pub returns : goal.returns
unfolding head_text text_of reply_text
returns c =
    let out = c.args.out.now.items in
    let row = c.args.row.now in
    let a = field_line (number_field (codes "X-Container-Object-Count") c.args.objects) in
    let b = field_line (number_field (codes "X-Container-Bytes-Used") c.args.bytes) in
    let meta = meta_fields (codes "X-Container-Meta-") row.meta in
    let readers = field_for (text_field (codes "X-Container-Read")) (if c.args.own then filled row.readers else None) in
    let writers = field_for (text_field (codes "X-Container-Write")) (if c.args.own then filled row.writers else None) in
    let close = closing_fields c.args.form in
    let apart = sym (flat_map-append field_line meta (readers ++ (writers ++ close))
    ∙ ap (λ (l : List ℕ). flat_map field_line meta ++ l) (flat_map-append field_line readers (writers ++ close)
    ∙ ap (λ (l : List ℕ). flat_map field_line readers ++ l) (flat_map-append field_line writers close))) in
    counted out _ _ _ _ _ _ _ _ _ _ _ _ _ _ _ _ c.in_ok-push_status.ensures c.in_ok-push_number_field.ensures c.in_ok-push_number_field-2.ensures
    c.in_ok-push_meta.ensures c.in_ok-push_list.ensures c.in_ok-push_list-2.ensures c.in_ok-push_closing.ensures c.in_ok-extend_from_slice.ensures.items
    ∙ ap (λ (fields : List ℕ). out ++ ((status_line 204 ++ (a ++ (b ++ fields)) ++ crlf) ++ [])) apart
    ∙ ap (λ (body : List ℕ). out ++ (head_text (reply_head c.args.form (Counted (counts_of row c.args.objects c.args.bytes c.args.own))) ++ body)) (sym (written_nothing c.args.form))
