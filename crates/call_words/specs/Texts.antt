-- The reply of the Swift API that an end of a task is, and its text (OpenStack Object Storage API v1).
use Rattle.std.specs.Prelude.{ℕ, Bool, true, false, List, [], ◌∷◌, ◌++◌, Option, Some, None, option_map, if◌then◌else◌, codes}
use Rattle.http_chunks.specs.declared.body.BodyEnd.{BodyEnd}
use Rattle.http_chunks.specs.declared.body.BodyEnd.TheVariants as Body
use Rattle.http_model.specs.declared.reply.ReplyForm.{ReplyForm}
use Rattle.http_model.specs.Replies.{head_text, written_body}
use Rattle.swift_auth.specs.declared.policy.Rule.{Rule}
use Rattle.swift_auth.specs.declared.policy.Rule.TheVariants as Rules
use Rattle.swift_reply.specs.declared.reply.Denial.{Denial}
use Rattle.swift_reply.specs.declared.reply.Denial.TheVariants as Denied
use Rattle.swift_reply.specs.declared.reply.Invalid.TheVariants.{Chunk}
use Rattle.swift_reply.specs.declared.reply.ListingForm.{ListingForm}
use Rattle.swift_reply.specs.declared.reply.ShownSpan.{ShownSpan}
use Rattle.swift_reply.specs.declared.reply.SwiftRefusal.{SwiftRefusal}
use Rattle.swift_reply.specs.declared.reply.SwiftRefusal.TheVariants as Why
use Rattle.swift_reply.specs.declared.reply.SwiftReply.{SwiftReply}
use Rattle.swift_reply.specs.declared.reply.SwiftReply.TheVariants as Swift
use Rattle.swift_reply.specs.Replies.{counts_of, reply_head, reply_text}
use Rattle.swift_auth.specs.Policies.{is_of}
use Rattle.swift_requests.specs.declared.asked.Asked.{Asked}
use Rattle.swift_requests.specs.declared.asked.Asked.TheVariants.{Put, Unfed}
use Rattle.swift_requests.specs.declared.asked.UnfedCommand.{UnfedCommand}
use Rattle.swift_requests.specs.declared.asked.UnfedCommand.TheVariants as commands
use Rattle.task_account.specs.declared.reply.AccountOutcome.{AccountOutcome}
use Rattle.task_account.specs.declared.reply.AccountOutcome.TheVariants as account
use Rattle.task_account.specs.declared.reply.AccountReply.TheVariants as accounts
use Rattle.task_container.specs.declared.outcome.ContainerOutcome.{ContainerOutcome}
use Rattle.task_container.specs.declared.outcome.ContainerOutcome.TheVariants as container
use Rattle.task_container.specs.declared.outcome.ContainerReply.{ContainerReply}
use Rattle.task_container.specs.declared.outcome.ContainerReply.TheVariants as containers
use Rattle.task_container.specs.declared.outcome.ContainerRefusal.{ContainerRefusal}
use Rattle.task_container.specs.declared.outcome.ContainerRefusal.TheVariants as cause
use Rattle.task_words.specs.declared.asker.Asker.{Asker}
use Rattle.task_words.specs.Answers.{span_of}
use Rattle.task_words.specs.declared.outcome.Outcome.{Outcome}
use Rattle.task_words.specs.declared.outcome.Outcome.TheVariants.{Done, BodyFailed, Busy, MovedOften, RacedOften, LateTag, LateRead, NoSpace}
use Rattle.task_words.specs.declared.reply.MapReply.{MapReply}
use Rattle.task_words.specs.declared.reply.MapReply.TheVariants.{Stored, Shown, Same, Counted, Listed, Refused}
use Rattle.task_words.specs.declared.reply.Refusal.{Refusal}
use Rattle.task_words.specs.declared.reply.Refusal.TheVariants as Map
use Rattle.task_words.specs.declared.span.Span.{Span}
use Rattle.task_words.specs.Spans.{is_partial}
use Rattle.call_words.specs.Bodies.{Fate, read_whole, broken_off, unread}
use Rattle.call_words.specs.Ends.{TaskEnd, on_object, on_container, on_account}

abbrev pub denial_of : Rule → Denial
denial_of Rules.Account = Denied.Account
denial_of Rules.Read = Denied.Read
denial_of Rules.Write = Denied.Write

-- the refusal of the Swift API that a refusal by what is stored is
abbrev pub refusal_in : Refusal → SwiftRefusal
refusal_in Map.Unauthorized = Why.Unauthorized
refusal_in (Map.Denied rule) = Why.Denied (denial_of rule)
refusal_in Map.NoContainer = Why.NoContainer
refusal_in Map.NoObject = Why.NoObject
refusal_in Map.NotMet = Why.NotMet
refusal_in (Map.NoRange size) = Why.NoRange size
refusal_in Map.OtherEtag = Why.OtherEtag

-- the bytes that are shown, where a range was asked for and can be had
abbrev pub span_shown : Option Span → ℕ → ℕ → ℕ → Option ShownSpan
span_shown asked size start count =
    if is_partial asked size then Some (record { start = start; count = count }) else None

-- the reply of the Swift API that a reply on an object is, where this range was asked for; none on a container
abbrev pub reply_in : Option Span → MapReply → Option SwiftReply
reply_in asked (Stored etag stamp) = Some (Swift.Stored etag stamp)
reply_in asked (Shown kind meta etag stamp size start count) = Some (Swift.Shown (record {
  kind = kind;
  meta = meta;
  etag = etag;
  stamp = stamp;
  size = size;
  expires = None;
}) (span_shown asked size start count))
reply_in asked (Same etag stamp) = Some (Swift.Same etag stamp)
reply_in asked (Counted row objects bytes) = None
reply_in asked (Listed rows) = None
reply_in asked (Refused refusal) = Some (Swift.Refused (refusal_in refusal))

-- the refusal that an end of a task without a reply by what is stored is. A body that failed, and a stripe that was gone, have
-- none
abbrev pub refusal_by : Outcome → Option SwiftRefusal
refusal_by (Done reply) = None
refusal_by BodyFailed = None
refusal_by (Busy id) = Some (Why.Busy id)
refusal_by MovedOften = Some Why.MovedOften
refusal_by RacedOften = Some Why.RacedOften
refusal_by LateTag = Some Why.LateTag
refusal_by (LateRead read_at clock) = None
refusal_by (NoSpace free needed) = Some (Why.NoSpace free needed)

-- the reply that is written where a task ended so
abbrev pub outcome_reply : Option Span → Outcome → Option SwiftReply
outcome_reply asked (Done reply) = reply_in asked reply
outcome_reply asked outcome = option_map Swift.Refused (refusal_by outcome)

-- the reply to a listing whose task ended so, with its rows in this form
abbrev pub list_reply : ListingForm → Outcome → Option SwiftReply
list_reply listing (Done (Listed rows)) = Some (Swift.Listed rows listing)
list_reply listing (Done (Refused refusal)) = Some (Swift.Refused (refusal_in refusal))
list_reply listing (Done reply) = None
list_reply listing outcome = option_map Swift.Refused (refusal_by outcome)

-- ---- containers and accounts

-- the refusal of the Swift API that one of a request on a container is
abbrev pub container_refusal_in : ContainerRefusal → SwiftRefusal
container_refusal_in (cause.ByRow refusal) = refusal_in refusal
container_refusal_in cause.NotYours = Why.NotYours
container_refusal_in (cause.NotEmpty name) = Why.NotEmpty name
container_refusal_in (cause.Unsettled name) = Why.Unsettled name

-- the reply on a container; its lists are shown to users of its account
abbrev pub container_reply_in : Asker → ContainerReply → SwiftReply
container_reply_in asker (containers.Counted row objects bytes) =
    Swift.Counted (counts_of row objects bytes (is_of asker.account asker.user))
container_reply_in asker containers.Made = Swift.Created
container_reply_in asker containers.Accepted = Swift.Accepted
container_reply_in asker containers.Changed = Swift.Done
container_reply_in asker containers.Removed = Swift.Done
container_reply_in asker (containers.Refused why) = Swift.Refused (container_refusal_in why)

-- the reply where a request on a container ended so
abbrev pub container_reply : Asker → ContainerOutcome → SwiftReply
container_reply asker (container.Done reply) = container_reply_in asker reply
container_reply asker (container.Busy id) = Swift.Refused (Why.Busy id)
container_reply asker container.MovedOften = Swift.Refused Why.MovedOften
container_reply asker container.RacedOften = Swift.Refused Why.RacedOften

-- the reply where a request on an account ended so, with its rows in this form
abbrev pub account_reply : ListingForm → AccountOutcome → SwiftReply
account_reply listing (account.Done (accounts.Counted containers objects bytes)) = Swift.AccountCounted containers objects bytes
account_reply listing (account.Done (accounts.Listed rows)) = Swift.AccountListed rows listing
account_reply listing account.MovedOften = Swift.Refused Why.MovedOften

-- ---- bodies that break off

-- the refusal of a body that was wanted and broke off
abbrev pub refusal_at : Fate → Option SwiftRefusal
refusal_at read_whole = None
refusal_at (broken_off Body.Whole) = None
refusal_at (broken_off Body.Cut) = None
refusal_at (broken_off Body.BadChunk) = Some (Why.Invalid Chunk)
refusal_at (broken_off Body.TooLarge) = Some Why.TooLarge
refusal_at unread = None

-- the reply where a task ended so over a body of that fate
abbrev pub told_reply : Option Span → Fate → Outcome → Option SwiftReply
told_reply asked fate BodyFailed = option_map Swift.Refused (refusal_at fate)
told_reply asked fate outcome = outcome_reply asked outcome

abbrev pub told_list : ListingForm → Fate → Outcome → Option SwiftReply
told_list listing fate BodyFailed = option_map Swift.Refused (refusal_at fate)
told_list listing fate outcome = list_reply listing outcome

-- only the end of a request on an object says that its body failed
abbrev pub told_container : Asker → Fate → TaskEnd → Option SwiftReply
told_container asker fate (on_object BodyFailed) = option_map Swift.Refused (refusal_at fate)
told_container asker fate (on_container outcome) = Some (container_reply asker outcome)
told_container asker fate end = None

abbrev pub told_account : ListingForm → Fate → TaskEnd → Option SwiftReply
told_account listing fate (on_object BodyFailed) = option_map Swift.Refused (refusal_at fate)
told_account listing fate (on_account outcome) = Some (account_reply listing outcome)
told_account listing fate end = None

-- ---- by what was asked

abbrev pub told_unfed : Asker → UnfedCommand → Fate → TaskEnd → Option SwiftReply
told_unfed asker (commands.Get c) fate (on_object outcome) = told_reply (span_of c) fate outcome
told_unfed asker (commands.Listing c listing) fate (on_object outcome) = told_list listing fate outcome
told_unfed asker (commands.Container c) fate end = told_container asker fate end
told_unfed asker (commands.Account c listing) fate end = told_account listing fate end
told_unfed asker u fate end = None

-- the reply where the task of a request ended so over a body of that fate
abbrev pub told_by : Asked → Fate → TaskEnd → Option SwiftReply
told_by (Put asker c) fate (on_object outcome) = told_reply None fate outcome
told_by (Unfed asker u) fate end = told_unfed asker u fate end
told_by asked fate end = None

-- ---- before a body

-- what tells a client that waits to send the body (RFC 9110, section 15.2.1)
abbrev pub continue_text : List ℕ
continue_text = codes "HTTP/1.1 100 Continue" ++ 13 ∷ 10 ∷ 13 ∷ 10 ∷ []

-- it is written where the client waits for it and the body is read
abbrev pub continue_if : Bool → Fate → List ℕ
continue_if true read_whole = continue_text
continue_if true (broken_off why) = continue_text
continue_if true unread = []
continue_if false fate = []

-- ---- texts

-- a reply is written for it
abbrev pub HasReply : Option SwiftReply → Type 0
HasReply None = ⊥
HasReply (Some reply) = Unit {0}

-- what is written of a reply before the bytes of an object: of a reply that shows one the head, of another all
abbrev pub front_of : ReplyForm → SwiftReply → List ℕ
front_of form (Swift.Shown object span) = head_text (reply_head form (Swift.Shown object span))
front_of form reply = reply_text form reply []

-- the bytes of an object that are written behind it
abbrev pub rest_of : ReplyForm → SwiftReply → List ℕ → List ℕ
rest_of form (Swift.Shown object span) shown = written_body form shown
rest_of form reply shown = []

abbrev pub front_if : ReplyForm → Option SwiftReply → List ℕ
front_if form None = []
front_if form (Some reply) = front_of form reply

abbrev pub text_if : ReplyForm → Option SwiftReply → List ℕ → List ℕ
text_if form None shown = []
text_if form (Some reply) shown = reply_text form reply shown

-- the text for a body that was wanted and broke off
abbrev pub broken_text : ReplyForm → BodyEnd → List ℕ
broken_text form why = text_if form (option_map Swift.Refused (refusal_at (broken_off why))) []
