use Rattle.std.proofs.Common.{sym, ap}
use Rattle.std.specs.Fmt.{digits}
use Rattle.call_words.specs.Texts.{refusal_in}
use Rattle.task_words.specs.declared.reply.Refusal.{Refusal}
use Rattle.script_words.specs.Replies.{refusal_text}
use Rattle.script_words.proofs.replies.refusal_text.Goals as goal

pub returns-in-Unauthorized : goal.returns-in-Unauthorized
unfolding digits
returns-in-Unauthorized c = ap (λ (r : Refusal). refusal_text (refusal_in r)) (sym c.in-Unauthorized.is)

pub returns-in-NoContainer : goal.returns-in-NoContainer
unfolding digits
returns-in-NoContainer c = ap (λ (r : Refusal). refusal_text (refusal_in r)) (sym c.in-NoContainer.is)

pub returns-in-NoObject : goal.returns-in-NoObject
unfolding digits
returns-in-NoObject c = ap (λ (r : Refusal). refusal_text (refusal_in r)) (sym c.in-NoObject.is)

pub returns-in-NotMet : goal.returns-in-NotMet
unfolding digits
returns-in-NotMet c = ap (λ (r : Refusal). refusal_text (refusal_in r)) (sym c.in-NotMet.is)

pub returns-in-NoRange : goal.returns-in-NoRange
unfolding digits
returns-in-NoRange c = ap (λ (r : Refusal). refusal_text (refusal_in r)) (sym c.in-NoRange.is)

pub returns-in-OtherEtag : goal.returns-in-OtherEtag
unfolding digits
returns-in-OtherEtag c = ap (λ (r : Refusal). refusal_text (refusal_in r)) (sym c.in-OtherEtag.is)
