use Rattle.std.proofs.Common.{sym, ap}
use Rattle.std.specs.Fmt.{digits}
use Rattle.call_words.specs.Texts.{refusal_in}
use Rattle.swift_auth.specs.declared.policy.Rule.{Rule}
use Rattle.task_words.specs.declared.reply.Refusal.TheVariants.{Denied}
use Rattle.script_words.specs.Replies.{refusal_text}
use Rattle.script_words.proofs.replies.denial_text.Goals as goal

pub returns-in-Account : goal.returns-in-Account
unfolding digits
returns-in-Account c = ap (λ (r : Rule). refusal_text (refusal_in (Denied r))) (sym c.in-Account.is)

pub returns-in-Read : goal.returns-in-Read
unfolding digits
returns-in-Read c = ap (λ (r : Rule). refusal_text (refusal_in (Denied r))) (sym c.in-Read.is)

pub returns-in-Write : goal.returns-in-Write
unfolding digits
returns-in-Write c = ap (λ (r : Rule). refusal_text (refusal_in (Denied r))) (sym c.in-Write.is)
