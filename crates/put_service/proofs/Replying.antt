-- The reply to a PUT.
use Rattle.std.proofs.Common.{◌≡◌, None, refl}
use Rattle.http_chunks.specs.declared.body.BodyEnd.{BodyEnd}
use Rattle.http_chunks.specs.declared.body.BodyEnd.TheVariants as Body
use Rattle.http_model.specs.declared.reply.ReplyForm.{ReplyForm}
use Rattle.call_words.specs.Bodies.{Fate, broken_off, IsWrong}
use Rattle.call_words.specs.Texts.{outcome_reply, told_reply, HasReply, front_if, broken_text}
use Rattle.call_words.proofs.Fates.{broken_has_reply}
use Rattle.task_words.specs.declared.outcome.Outcome.{Outcome}
use Rattle.task_words.specs.declared.outcome.Outcome.TheVariants.{Done, BodyFailed, Busy, MovedOften, LateTag, NoSpace}
use Rattle.task_words.specs.declared.reply.MapReply.TheVariants.{Stored, Refused}
use Rattle.put_service.specs.Standing.{IsEndAt}
use Rattle.put_service.specs.Parts.{fate_of, text_of}

-- the end of a PUT has a reply
pub end_has_reply : (outcome : Outcome) (fate : Fate) → IsEndAt outcome fate → HasReply (told_reply None fate outcome)
end_has_reply (Done (Stored etag stamp)) fate is = tt
end_has_reply (Done (Refused why)) fate is = tt
end_has_reply (Done reply) fate is = absurd is
end_has_reply BodyFailed (broken_off why) is = broken_has_reply None why is
end_has_reply BodyFailed fate is = absurd is
end_has_reply (Busy id) fate is = tt
end_has_reply MovedOften fate is = tt
end_has_reply LateTag fate is = tt
end_has_reply (NoSpace free needed) fate is = tt
end_has_reply outcome fate is = absurd is

-- also by itself, where the body did not fail
pub plain_has_reply : (outcome : Outcome) (fate : Fate) → (outcome ≡ BodyFailed → ⊥) → IsEndAt outcome fate → HasReply (outcome_reply None outcome)
plain_has_reply (Done (Stored etag stamp)) fate not is = tt
plain_has_reply (Done (Refused why)) fate not is = tt
plain_has_reply (Done reply) fate not is = absurd is
plain_has_reply BodyFailed fate not is = absurd (not refl)
plain_has_reply (Busy id) fate not is = tt
plain_has_reply MovedOften fate not is = tt
plain_has_reply LateTag fate not is = tt
plain_has_reply (NoSpace free needed) fate not is = tt
plain_has_reply outcome fate not is = absurd is

-- which shows no bytes
pub end_text : (form : ReplyForm) (outcome : Outcome) (end : BodyEnd) → (outcome ≡ BodyFailed → ⊥) → IsEndAt outcome (fate_of end) → front_if form (outcome_reply None outcome) ≡ text_of form end outcome
end_text form (Done (Stored etag stamp)) end not is = refl
end_text form (Done (Refused why)) end not is = refl
end_text form (Done reply) end not is = absurd is
end_text form BodyFailed end not is = absurd (not refl)
end_text form (Busy id) end not is = refl
end_text form MovedOften end not is = refl
end_text form LateTag end not is = refl
end_text form (NoSpace free needed) end not is = refl
end_text form outcome end not is = absurd is

-- a body that failed broke off
pub failed_wrong : (end : BodyEnd) → IsEndAt BodyFailed (fate_of end) → IsWrong end
failed_wrong Body.Whole is = absurd is
failed_wrong Body.Cut is = absurd is
failed_wrong Body.BadChunk is = tt
failed_wrong Body.TooLarge is = tt

pub failed_text : (form : ReplyForm) (end : BodyEnd) → IsEndAt BodyFailed (fate_of end) → broken_text form end ≡ text_of form end BodyFailed
failed_text form Body.Whole is = absurd is
failed_text form Body.Cut is = absurd is
failed_text form Body.BadChunk is = refl
failed_text form Body.TooLarge is = refl
