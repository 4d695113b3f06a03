-- Replies by what became of the body.
use Rattle.std.proofs.Common.{◌≡◌, Option, refl}
use Rattle.http_chunks.specs.declared.body.BodyEnd.{BodyEnd}
use Rattle.http_intake.specs.Grammar.{IsWrong}
use Rattle.http_chunks.specs.declared.body.BodyEnd.TheVariants as Body
use Rattle.swift_reply.specs.declared.reply.ListingForm.{ListingForm}
use Rattle.task_words.specs.declared.outcome.Outcome.{Outcome}
use Rattle.task_words.specs.declared.outcome.Outcome.TheVariants.{Done, BodyFailed, Busy, MovedOften, RacedOften, LateTag, LateRead, NoSpace}
use Rattle.task_words.specs.declared.span.Span.{Span}
use Rattle.call_words.specs.Bodies.{read_whole, broken_off}
use Rattle.call_words.specs.Texts.{outcome_reply, list_reply, told_reply, told_list, HasReply}

-- behind a whole body the end of the task alone tells
pub told_whole : (asked : Option Span) (outcome : Outcome) → told_reply asked read_whole outcome ≡ outcome_reply asked outcome
told_whole asked (Done reply) = refl
told_whole asked BodyFailed = refl
told_whole asked (Busy id) = refl
told_whole asked MovedOften = refl
told_whole asked RacedOften = refl
told_whole asked LateTag = refl
told_whole asked (LateRead read_at clock) = refl
told_whole asked (NoSpace free needed) = refl

pub list_told_whole : (listing : ListingForm) (outcome : Outcome) → told_list listing read_whole outcome ≡ list_reply listing outcome
list_told_whole listing (Done reply) = refl
list_told_whole listing BodyFailed = refl
list_told_whole listing (Busy id) = refl
list_told_whole listing MovedOften = refl
list_told_whole listing RacedOften = refl
list_told_whole listing LateTag = refl
list_told_whole listing (LateRead read_at clock) = refl
list_told_whole listing (NoSpace free needed) = refl

-- a body that broke off has its refusal
pub broken_has_reply : (asked : Option Span) (why : BodyEnd) → IsWrong why → HasReply (told_reply asked (broken_off why) BodyFailed)
broken_has_reply asked Body.Whole wrong = absurd wrong
broken_has_reply asked Body.Cut wrong = absurd wrong
broken_has_reply asked Body.BadChunk wrong = tt
broken_has_reply asked Body.TooLarge wrong = tt

pub broken_has_list_reply : (listing : ListingForm) (why : BodyEnd) → IsWrong why → HasReply (told_list listing (broken_off why) BodyFailed)
broken_has_list_reply listing Body.Whole wrong = absurd wrong
broken_has_list_reply listing Body.Cut wrong = absurd wrong
broken_has_list_reply listing Body.BadChunk wrong = tt
broken_has_list_reply listing Body.TooLarge wrong = tt

-- a body that ended otherwise broke off
pub wrong_of : (why : BodyEnd) → (why ≡ Body.Whole → ⊥) → (why ≡ Body.Cut → ⊥) → IsWrong why
wrong_of Body.Whole not_whole not_cut = not_whole refl
wrong_of Body.Cut not_whole not_cut = not_cut refl
wrong_of Body.BadChunk not_whole not_cut = tt
wrong_of Body.TooLarge not_whole not_cut = tt
