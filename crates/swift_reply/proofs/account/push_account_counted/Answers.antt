use Rattle.std.proofs.Common.{List, ℕ, ◌++◌, ◌∙◌, sym, ap}
use Rattle.http_model.specs.Replies.{head_text, text_of}
use Rattle.swift_reply.specs.declared.reply.SwiftReply.TheVariants.{AccountCounted}
use Rattle.swift_reply.specs.Replies.{reply_head, reply_text}
use Rattle.swift_reply.proofs.Pieces.{stored, written_nothing}
use Rattle.swift_reply.proofs.account.push_account_counted.Goals as goal

pub returns : goal.returns
unfolding head_text text_of reply_text
returns c =
    stored c.args.out.now.items _ _ _ _ _ _ _ _ _ _ _ _ c.in_ok-push_status.ensures c.in_ok-push_number_field.ensures
    c.in_ok-push_number_field-2.ensures c.in_ok-push_number_field-3.ensures c.in_ok-push_closing.ensures c.in_ok-extend_from_slice.ensures.items
    ∙ ap (λ (body : List ℕ). c.args.out.now.items ++ (head_text (reply_head c.args.form (AccountCounted c.args.containers c.args.objects c.args.bytes)) ++ body)) (sym (written_nothing c.args.form))
