-- The text of a reply, by its head and the bytes behind it.
use Rattle.std.proofs.Common.{◌≡◌, ℕ, Bool, true, false, cond, List, [], ◌++◌, Option, Some, None, refl, sym, ap, ◌∙◌, append_assoc}
use Rattle.std.proofs.lemmas.List.{append-nil}
use Rattle.http_chunks.specs.declared.body.BodyEnd.{BodyEnd}
use Rattle.http_model.specs.declared.reply.ReplyForm.{ReplyForm}
use Rattle.http_model.specs.Replies.{head_text, text_of, written_body}
use Rattle.swift_reply.specs.declared.reply.SwiftReply.{SwiftReply}
use Rattle.swift_reply.specs.declared.reply.SwiftReply.TheVariants as Swift
use Rattle.swift_reply.specs.Replies.{reply_head, reply_text}
use Rattle.swift_requests.specs.declared.asked.Asked.{Asked}
use Rattle.swift_requests.specs.declared.asked.Asked.TheVariants.{Put, Unfed}
use Rattle.swift_requests.specs.declared.asked.UnfedCommand.TheVariants.{Get, Listing, Container, Account as OfAccount}
use Rattle.task_words.specs.declared.asker.Asker.{Asker}
use Rattle.task_words.specs.declared.outcome.Outcome.{Outcome}
use Rattle.task_words.specs.declared.outcome.Outcome.TheVariants.{Done, BodyFailed, LateRead}
use Rattle.task_words.specs.declared.reply.MapReply.{MapReply}
use Rattle.task_words.specs.declared.reply.MapReply.TheVariants.{Shown, Refused as Refuses}
use Rattle.task_words.specs.declared.reply.Refusal.TheVariants.{Unauthorized, Denied, NoContainer}
use Rattle.task_words.specs.declared.command.GetCommand.{GetCommand}
use Rattle.task_words.specs.declared.span.Span.{Span}
use Rattle.task_words.specs.Answers.{span_of}
use Rattle.call_words.specs.Bodies.{Fate, read_whole, broken_off}
use Rattle.call_words.specs.Calls.{task, text_by}
use Rattle.call_words.specs.Ends.{TaskEnd, on_object, on_container, body_failed, is_by_row}
use Rattle.call_words.specs.Texts.{told_by, HasReply, outcome_reply, reply_in, front_of, front_if, text_if, broken_text}
use Rattle.call_words.proofs.Fates.{told_whole}
use Rattle.call_service.specs.Serving.{is_by_end}
use Rattle.call_service.specs.Replying.{IsUnwanted}
use Rattle.request_service.specs.declared.ending.Ending.TheVariants.{Replied, ByRow}
use Rattle.request_service.specs.Requests.{IsUnfed, MayEnd, ending_of, text_at, HasBytes}

-- ---- bytes

none_written : (form : ReplyForm) → written_body form [] ≡ []
none_written form = elim form.bodiless as (λ b. cond {A = List ℕ} b [] [] ≡ []) [ true ↦ refl | false ↦ refl ]

both_written : (form : ReplyForm) (first second : List ℕ) → written_body form (first ++ second) ≡ written_body form first ++ written_body form second
both_written form first second =
    elim form.bodiless as (λ b. cond b [] (first ++ second) ≡ cond b [] first ++ cond b [] second) [ true ↦ refl | false ↦ refl ]

no_bytes : (form : ReplyForm) (reply : SwiftReply) → front_of form reply ≡ reply_text form reply []
unfolding reply_text text_of
no_bytes form (Swift.Shown object span) =
    sym (append-nil (head_text (reply_head form (Swift.Shown object span)))) ∙ ap (λ l. head_text (reply_head form (Swift.Shown object span)) ++ l) (sym (none_written form))
no_bytes form reply = refl

-- the text of a reply that shows no bytes
pub front_text : (form : ReplyForm) (reply : Option SwiftReply) → front_if form reply ≡ text_if form reply []
front_text form None = refl
front_text form (Some reply) = no_bytes form reply

-- further bytes follow the text of one that shows them
pub text_grows : (form : ReplyForm) (asked : Asked) (reply : MapReply) (actor : ℕ) (bytes more : List ℕ) → HasBytes asked reply
    → text_by form asked read_whole (task actor (on_object (Done reply))) (bytes ++ more) ≡ text_by form asked read_whole (task actor (on_object (Done reply))) bytes ++ written_body form more
unfolding reply_text text_of
text_grows form (Unfed asker (Get c)) (Shown kind meta etag stamp size start count) actor bytes more has =
    let front = front_if form (reply_in (span_of c) (Shown kind meta etag stamp size start count)) in
    ap (λ l. front ++ l) (both_written form bytes more) ∙ sym (append_assoc front (written_body form bytes) (written_body form more))
text_grows form asked reply actor bytes more has = absurd has

pub shows_by_event : (asked : Asked) (reply : MapReply) → HasBytes asked reply → is_by_end (on_object (Done reply)) ≡ false
shows_by_event (Unfed asker (Get c)) (Shown kind meta etag stamp size start count) has = refl
shows_by_event asked reply has = absurd has

-- ---- requests without a wanted body

pub unwanted : (asked : Asked) → IsUnfed asked → IsUnwanted asked
unwanted (Unfed asker u) unfed = tt
unwanted asked unfed = absurd unfed

-- what the row's refusal is told as, whatever became of the body
row_told : (asked : Asked) (fate : Fate) (end : TaskEnd) → is_by_row end ≡ true → told_by asked read_whole end ≡ told_by asked fate end
row_told asked fate (on_object BodyFailed) is = let clash : false ≡ true = is in absurd (cc)
row_told (Put asker c) fate (on_object outcome) is = refl
row_told (Unfed asker (Get c)) fate (on_object outcome) is = refl
row_told (Unfed asker (Listing c listing)) fate (on_object outcome) is = refl
row_told (Unfed asker (Container c)) fate (on_object outcome) is = refl
row_told (Unfed asker (OfAccount c listing)) fate (on_object outcome) is = refl
row_told (Unfed asker (Get c)) fate end is = refl
row_told (Unfed asker (Listing c listing)) fate end is = refl
row_told (Unfed asker (Container c)) fate end is = refl
row_told (Unfed asker (OfAccount c listing)) fate end is = refl
row_told asked fate end is = refl

pub row_text : (form : ReplyForm) (asked : Asked) (fate : Fate) (end : TaskEnd) → is_by_row end ≡ true → text_at form asked end ≡ text_by form asked fate (task 0 end) []
row_text form (Put asker c) fate end is = ap (λ r. text_if form r []) (row_told (Put asker c) fate end is)
row_text form (Unfed asker (Get c)) fate end is = ap (λ r. text_if form r []) (row_told (Unfed asker (Get c)) fate end is)
row_text form (Unfed asker u) fate end is = ap (λ r. text_if form r []) (row_told (Unfed asker u) fate end is)
row_text form asked fate end is = refl

-- that the body broke off has the text for that
pub broken_is : (form : ReplyForm) (asked : Asked) (why : BodyEnd) → IsUnfed asked → broken_text form why ≡ text_by form asked (broken_off why) (task 0 body_failed) []
broken_is form (Unfed asker (Get c)) why unfed = refl
broken_is form (Unfed asker (Listing c listing)) why unfed = refl
broken_is form (Unfed asker (Container c)) why unfed = refl
broken_is form (Unfed asker (OfAccount c listing)) why unfed = refl
broken_is form asked why unfed = absurd unfed

pub row_by_event : (end : TaskEnd) → is_by_row end ≡ true → is_by_end end ≡ false
row_by_event (on_object (Done (Refuses Unauthorized))) is = refl
row_by_event (on_object (Done (Refuses (Denied rule)))) is = refl
row_by_event (on_object (Done (Refuses NoContainer))) is = refl
row_by_event (on_container outcome) is = refl
row_by_event end is = let clash : false ≡ true = is in absurd (cc)

-- ---- what is written at an end

by_cond : (b : Bool) → cond b ByRow Replied ≡ ByRow → b ≡ true
by_cond true is = refl
by_cond false is = cc

-- the row refused it just where that is what is written
pub row_ending : (end : TaskEnd) → ending_of end ≡ ByRow → is_by_row end ≡ true
row_ending (on_object (LateRead read_at clock)) is = cc
row_ending end is = by_cond (is_by_row end) is

pub other_ending : (end : TaskEnd) → (ending_of end ≡ ByRow → ⊥) → is_by_row end ≡ false
other_ending (on_object (LateRead read_at clock)) other = refl
other_ending end other = by_test (is_by_row end) refl
  where
    by_test : (test : Bool) → is_by_row end ≡ test → is_by_row end ≡ false
    by_test true is = absurd (other (ap (λ b. cond b ByRow Replied) is))
    by_test false is = is

-- its refusal has a reply
pub row_has_reply : (asked : Asked) (shown : Option MapReply) (end : TaskEnd) → is_by_row end ≡ true → MayEnd asked shown end → HasReply (told_by asked read_whole end)
row_has_reply asked shown (on_object (LateRead read_at clock)) is may = let clash : false ≡ true = is in absurd (cc)
row_has_reply asked shown end is may = may.has_reply

-- ---- a GET

pub get_text : (form : ReplyForm) (asker : Asker) (c : GetCommand) (span : Option Span) (outcome : Outcome) → span ≡ span_of c → front_if form (outcome_reply span outcome) ≡ text_at form (Unfed asker (Get c)) (on_object outcome)
get_text form asker c span outcome is =
    ap (λ s. front_if form (outcome_reply s outcome)) is
    ∙ front_text form (outcome_reply (span_of c) outcome)
    ∙ sym (ap (λ o. text_if form o []) (told_whole (span_of c) outcome))
