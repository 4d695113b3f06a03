use Rattle.std.proofs.Common.{List, ℕ, ◌++◌, ◌∙◌, sym, ap, codes}
use Rattle.http_model.specs.Replies.{field_line, head_text, text_of}
use Rattle.swift_reply.specs.declared.reply.SwiftReply.TheVariants.{LetIn}
use Rattle.swift_reply.specs.Fields.{text_field}
use Rattle.swift_reply.specs.Replies.{reply_head, reply_text}
use Rattle.swift_reply.proofs.Pieces.{same, written_nothing}
use Rattle.swift_reply.proofs.login.push_let_in.Goals as goal

pub returns : goal.returns
unfolding head_text text_of reply_text
returns c =
    same c.args.out.now.items _ _ _ _ _ _ _ _ _ _ c.in_ok-push_status.ensures c.in_ok-push_storage_url.ensures
    (c.in_ok-push_field.ensures ∙ ap (λ (token : List ℕ). c.push_storage_url.new.out.items ++ field_line (text_field (codes "X-Auth-Token") token)) c.as_bytes.ensures)
    c.in_ok-push_closing.ensures c.in_ok-extend_from_slice.ensures.items
    ∙ ap (λ (body : List ℕ). c.args.out.now.items ++ (head_text (reply_head c.args.form (LetIn c.args.host.now c.args.account.now c.args.token.now)) ++ body)) (sym (written_nothing c.args.form))
