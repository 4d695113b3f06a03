use Rattle.std.proofs.Common.{List, ℕ, ◌++◌, ◌∙◌, ap}
use Rattle.http_model.specs.Replies.{field_line, content_type_field}
use Rattle.swift_reply.proofs.Pieces.{five}
use Rattle.swift_reply.proofs.object.push_object_fields.Goals as goal

pub returns : goal.returns
returns c =
    five c.args.out.now.items _ _ _ _ _ _ _ _ _ _ c.in_ok-push_length.ensures
    (c.in_ok-push_field.ensures ∙ ap (λ (kind : List ℕ). c.push_length.new.out.items ++ field_line (content_type_field kind)) c.as_bytes.ensures)
    c.in_ok-push_etag.ensures c.in_ok-push_modified.ensures c.in_ok-push_field-2.ensures
