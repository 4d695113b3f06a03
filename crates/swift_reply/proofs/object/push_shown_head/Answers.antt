use Rattle.std.proofs.Common.{◌++◌, codes, flat_map}
use Rattle.http_model.specs.Replies.{crlf, status_line, field_line, closing_fields, content_length_field, content_type_field, etag_field, last_modified_field, accept_ranges_field, head_text}
use Rattle.swift_reply.specs.Fields.{meta_fields}
use Rattle.swift_reply.proofs.Pieces.{shown}
use Rattle.swift_reply.proofs.object.push_shown_head.Goals as goal

pub returns : goal.returns
unfolding head_text
returns c =
    shown c.args.out.now.items c.push_status.new.out.items c.push_object_fields.new.out.items c.push_object_end.new.out.items (status_line 200)
    (field_line (content_length_field c.args.size)) (field_line (content_type_field c.args.kind.now)) (field_line (etag_field c.args.etag.now))
    (field_line (last_modified_field c.args.stamp.micros)) (field_line accept_ranges_field)
    (flat_map field_line (meta_fields (codes "X-Object-Meta-") c.args.meta.now ++ closing_fields c.args.form)) crlf
    c.in_ok-push_status.ensures c.in_ok-push_object_fields.ensures c.in_ok-push_object_end.ensures
