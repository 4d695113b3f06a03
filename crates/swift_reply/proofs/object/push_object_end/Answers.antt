use Rattle.std.proofs.Common.{List, ℕ, ◌++◌, ◌∙◌, sym, ap, codes}
use Rattle.std.proofs.lemmas.List.Concat.{flat_map-append}
use Rattle.http_model.specs.Replies.{crlf, field_line, closing_fields}
use Rattle.swift_reply.specs.Fields.{meta_fields}
use Rattle.swift_reply.proofs.Pieces.{ended}
use Rattle.swift_reply.proofs.object.push_object_end.Goals as goal

pub returns : goal.returns
returns c =
    ended c.args.out.now.items _ _ _ _ _ _ c.in_ok-push_meta.ensures c.in_ok-push_closing.ensures c.in_ok-extend_from_slice.ensures.items
    ∙ ap (λ (l : List ℕ). c.args.out.now.items ++ (l ++ crlf)) (sym (flat_map-append field_line (meta_fields (codes "X-Object-Meta-") c.args.meta.now) (closing_fields c.args.form)))
