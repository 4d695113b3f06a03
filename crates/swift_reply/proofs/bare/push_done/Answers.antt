use Rattle.std.proofs.Common.{List, ℕ, ◌++◌, ◌∙◌, sym, ap}
use Rattle.http_model.specs.Replies.{head_text, text_of}
use Rattle.swift_reply.specs.declared.reply.SwiftReply.TheVariants.{Done}
use Rattle.swift_reply.specs.Replies.{reply_head, reply_text}
use Rattle.swift_reply.proofs.Pieces.{done, written_nothing}
use Rattle.swift_reply.proofs.bare.push_done.Goals as goal

pub returns : goal.returns
unfolding head_text text_of reply_text
returns c =
    done c.args.out.now.items _ _ _ _ _ _ c.in_ok-push_status.ensures c.in_ok-push_closing.ensures
    c.in_ok-extend_from_slice.ensures.items
    ∙ ap (λ (body : List ℕ). c.args.out.now.items ++ (head_text (reply_head c.args.form Done) ++ body)) (sym (written_nothing c.args.form))
