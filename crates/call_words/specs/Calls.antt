-- A call: one request of a connection that was replied, and what its reply rests on in the one history of the realm.
use Rattle.std.specs.Prelude.{◌≡◌, ℕ, ◌+◌, ◌<◌, ◌≤◌, Bool, true, false, List, [], ◌∷◌, ◌++◌, Option, Some, None, is_some}
use Rattle.http_model.specs.declared.head.Head.{Head}
use Rattle.http_model.specs.declared.head.Request.{Request}
use Rattle.http_model.specs.Forms.{waits}
use Rattle.http_model.specs.declared.reply.BadRequest.TheVariants.{Host}
use Rattle.http_model.specs.declared.reply.ReplyForm.{ReplyForm}
use Rattle.http_model.specs.Replies.{bad_request_text}
use Rattle.realm_model.specs.Accounts.{Account, Decided}
use Rattle.realm_model.specs.Histories.{account_of}
use Rattle.realm_model.specs.Owns.{OwnEvent, own_events}
use Rattle.realm_model.specs.Settings.{SettingsView}
use Rattle.realm_model.specs.declared.event.Event.{Event}
use Rattle.realm_model.specs.declared.op.Op.TheVariants.{BucketRead}
use Rattle.realm_model.specs.Shown.{row_shown}
use Rattle.realm_door.specs.Steps.{IsSame, actor_of_pass}
use Rattle.swift_reply.specs.declared.reply.SwiftReply.TheVariants as Swift
use Rattle.swift_reply.specs.Replies as swift
use Rattle.swift_auth.specs.declared.policy.Deed.{Deed}
use Rattle.swift_auth.specs.declared.policy.Deed.TheVariants.{ListContainer, ChangeThing}
use Rattle.swift_requests.specs.declared.asked.Asked.{Asked}
use Rattle.swift_requests.specs.declared.asked.Asked.TheVariants.{BadHost, Refused, Login, Put, Unfed}
use Rattle.swift_requests.specs.declared.asked.UnfedCommand.{UnfedCommand}
use Rattle.swift_requests.specs.declared.asked.UnfedCommand.TheVariants.{Get, Listing, Container, Account as OfAccount}
use Rattle.task_account.specs.declared.request.AccountRequest.{AccountRequest}
use Rattle.task_account.specs.Tasks.{IsAccountSoFar, IsAccountEnd}
use Rattle.task_container.specs.declared.progress.Stage.{Stage}
use Rattle.task_container.specs.declared.progress.Stage.TheVariants.{Ended}
use Rattle.task_container.specs.declared.request.ContainerRequest.{ContainerRequest}
use Rattle.task_container.specs.Ends.{IsContainerEnd}
use Rattle.task_container.specs.Orders.{led, IsContainerSoFar}
use Rattle.task_container.specs.Requests.{name_of, looked_zone}
use Rattle.task_container.specs.Stages.{begun}
use Rattle.task_words.specs.declared.asker.Asker.{Asker}
use Rattle.task_account.specs.declared.request.AccountCommand.{AccountCommand}
use Rattle.task_container.specs.declared.request.ContainerCommand.{ContainerCommand}
use Rattle.task_words.specs.declared.command.GetCommand.{GetCommand}
use Rattle.task_words.specs.declared.command.BodyEnd.TheVariants.{Whole, Failed}
use Rattle.task_words.specs.declared.outcome.Outcome.{Outcome}
use Rattle.task_words.specs.declared.outcome.Outcome.TheVariants.{Done, BodyFailed}
use Rattle.task_words.specs.declared.reply.MapReply.TheVariants.{Shown}
use Rattle.task_words.specs.Answers.{get, answer, deed_of, span_of}
use Rattle.task_words.specs.Cuts.{AreCut}
use Rattle.task_words.specs.Rows.{row_refusal}
use Rattle.task_words.specs.Outcomes.{Body, Granted, IsGetOutcome, IsPutOutcome}
use Rattle.task_put.specs.Orders.{path_of, IsFinished}
use Rattle.task_put.specs.SoFar.{IsPutSoFar}
use Rattle.task_list.specs.Listed.{IsListOutcome, AreOfListing}
use Rattle.task_list.specs.declared.request.ListRequest.{ListRequest}
use Rattle.call_words.specs.Bodies.{Fate, read_whole, broken_off, unread, stays_unread}
use Rattle.call_words.specs.Ends.{TaskEnd, on_object, on_container, on_account, is_by_row}
use Rattle.call_words.specs.Texts.{told_by, continue_if, HasReply, text_if}
use Rattle.call_words.specs.Events.{AreOfGet, AreOfPut}

-- ---- calls

-- what a reply rests on: the request alone, for which no event was made; or how the task of the pass's actor with this
-- count ended
pub data Ground : Type 0 where
  alone : Ground
  task : (actor : ℕ) → TaskEnd → Ground

-- a request with what it asks, what became of its body, what its reply rests on, and the bytes that the reply shows
pub record Call : Type 0 where
  pub request : Request
  pub asked : Asked
  pub fate : Fate
  pub ground : Ground
  pub shown : List ℕ

-- ---- texts

-- the text of a reply, by what was asked, what became of the body, and what it rests on; only a GET of an object shows bytes
abbrev pub text_by : ReplyForm → Asked → Fate → Ground → List ℕ → List ℕ
text_by form BadHost fate ground shown = bad_request_text form Host
text_by form (Refused why) fate ground shown = swift.reply_text form (Swift.Refused why) []
text_by form (Login host account token) fate ground shown = swift.reply_text form (Swift.LetIn host account token) []
text_by form (Put asker c) fate alone shown = []
text_by form (Put asker c) fate (task actor end) shown = text_if form (told_by (Put asker c) fate end) []
text_by form (Unfed asker u) fate alone shown = []
text_by form (Unfed asker (Get c)) fate (task actor end) shown = text_if form (told_by (Unfed asker (Get c)) fate end) shown
text_by form (Unfed asker u) fate (task actor end) shown = text_if form (told_by (Unfed asker u) fate end) []

abbrev pub call_text : ReplyForm → Call → List ℕ
call_text form call = text_by form call.asked call.fate call.ground call.shown

-- the client of a PUT waits for a 100
abbrev pub is_waiting : Asked → Head → Bool
is_waiting (Put asker c) head = waits head
is_waiting asked head = false

-- all that is written for a call: the reply, behind the 100 where one is written
abbrev pub whole_text : ReplyForm → Call → List ℕ
whole_text form call = continue_if (is_waiting call.asked call.request.head) call.fate ++ call_text form call

-- ---- what a reply rests on

-- the bytes are those that the bucket map shows at the event that decides
pub record AreShown (zone : ℕ) (c : GetCommand) (shown : List ℕ) (last : Option Decided) : Type 0 where
  pub event : Decided
  pub is_last : last ≡ Some event
  pub bytes : shown ≡ (answer event.before (get c) zone event.clock).shown

-- only an object that is there has bytes to show
abbrev pub AreShownBy : ℕ → GetCommand → Outcome → List ℕ → Option Decided → Type 0
AreShownBy zone c (Done (Shown kind meta etag stamp size start count)) shown last = AreShown zone c shown last
AreShownBy zone c outcome shown last = shown ≡ []

-- a body of that fate, as the task of a PUT knows it at its end
abbrev pub body_at : Fate → List ℕ → Body
body_at read_whole bytes = record { bytes = bytes; end = Some Whole }
body_at (broken_off why) bytes = record { bytes = bytes; end = Some Failed }
body_at unread bytes = record { bytes = []; end = None }

-- where the body broke off, the row of the container alone decides
abbrev pub IsEarly : Fate → TaskEnd → Type 0
IsEarly read_whole end = Unit {0}
IsEarly (broken_off why) end = is_by_row end ≡ true
IsEarly unread end = Unit {0}

-- the row of the container was read once, and nothing else was done
pub record ReadsRowAlone (zone : ℕ) (container : List ℕ) (events : List OwnEvent) : Type 0 where
  pub look : OwnEvent
  pub alone : events ≡ look ∷ []
  pub op : look.op ≡ BucketRead zone container

-- the row of the container was read first
pub record ReadsRowFirst (zone : ℕ) (container : List ℕ) (events : List OwnEvent) : Type 0 where
  pub look : OwnEvent
  pub others : List OwnEvent
  pub begins : events ≡ look ∷ others
  pub op : look.op ≡ BucketRead zone container

-- the row that was read grants it, and nothing else was done
abbrev pub IsGrantedAlone : ℕ → Asker → List ℕ → Deed → Account → List OwnEvent → Type 0
IsGrantedAlone zone asker container deed y events =
    Granted zone asker container deed y × (y.decided ≡ None) × ReadsRowAlone zone container events

-- the end of a GET or a HEAD over a body of that fate
abbrev pub IsGetEnd : ℕ → Asker → GetCommand → Fate → Outcome → Account → List OwnEvent → Type 0
IsGetEnd zone asker c fate BodyFailed y events = IsGrantedAlone zone asker c.container (deed_of (get c)) y events
IsGetEnd zone asker c fate outcome y events = IsGetOutcome zone asker c outcome y × IsEarly fate (on_object outcome)

-- the end of a listing over a body of that fate
abbrev pub IsListEnd : ListRequest → Fate → Outcome → Account → List OwnEvent → Type 0
IsListEnd r fate BodyFailed y events = IsGrantedAlone r.zone r.asker r.command.container ListContainer y events
IsListEnd r fate outcome y events = IsListOutcome r outcome y events × IsEarly fate (on_object outcome)

-- the row of the container ended the request by refusing it
abbrev pub is_refused_at : Stage → Bool
is_refused_at (Ended outcome) = is_by_row (on_container outcome)
is_refused_at stage = false

-- the row of the container was read once, does not refuse the request, and nothing else was done
pub record LooksAlone (r : ContainerRequest) (settings : SettingsView) (events : List OwnEvent) : Type 0 where
  pub reads : ReadsRowAlone (looked_zone r) (name_of r.command) events
  pub ordered : IsContainerSoFar r settings events
  pub lets : is_refused_at (led r settings.shards begun events).stage ≡ false

-- the end of a request on a container over a body of that fate
abbrev pub IsContainerEndOver : ContainerRequest → SettingsView → Fate → TaskEnd → Account → List OwnEvent → Type 0
IsContainerEndOver r settings fate (on_object BodyFailed) y events = LooksAlone r settings events
IsContainerEndOver r settings fate (on_container outcome) y events =
    IsContainerEnd r outcome settings y events × IsEarly fate (on_container outcome)
IsContainerEndOver r settings fate end y events = ⊥

-- one event came
pub record IsOne (events : List OwnEvent) : Type 0 where
  pub event : OwnEvent
  pub alone : events ≡ event ∷ []

-- the end of a request on an account over a body of that fate: no row decides it, so a body that broke off does
abbrev pub IsAccountEndOver : AccountRequest → Fate → TaskEnd → Account → List OwnEvent → Type 0
IsAccountEndOver r fate (on_object BodyFailed) y events = IsAccountSoFar r events × IsOne events
IsAccountEndOver r fate (on_account outcome) y events = IsAccountEnd r outcome y events × IsEarly fate (on_account outcome)
IsAccountEndOver r fate end y events = ⊥

-- what is asked of a container, and of an account
abbrev pub container_request : ℕ → Asker → ContainerCommand → ContainerRequest
container_request zone asker c = record { zone = zone; asker = asker; command = c }

abbrev pub account_request : ℕ → Asker → AccountCommand → AccountRequest
account_request zone asker c = record { zone = zone; account = asker.account; command = c }

-- the account and the events of an actor bear the end of its task out, and the events are those that such a task makes; those of
-- a PUT came in their order, and to its end
abbrev pub IsUnfedBorneOut : SettingsView → ℕ → Asker → UnfedCommand → Fate → TaskEnd → List ℕ → Account → List OwnEvent → Type 0
IsUnfedBorneOut settings zone asker (Get c) fate (on_object outcome) shown y events =
    IsGetEnd zone asker c fate outcome y events × AreShownBy zone c outcome shown y.decided × AreOfGet events
IsUnfedBorneOut settings zone asker (Listing c listing) fate (on_object outcome) shown y events =
    IsListEnd (record { zone = zone; asker = asker; command = c }) fate outcome y events × (shown ≡ []) × AreOfListing events
IsUnfedBorneOut settings zone asker (Container c) fate end shown y events =
    IsContainerEndOver (container_request zone asker c) settings fate end y events × (shown ≡ [])
IsUnfedBorneOut settings zone asker (OfAccount c listing) fate end shown y events =
    IsAccountEndOver (account_request zone asker c) fate end y events × (shown ≡ [])
IsUnfedBorneOut settings zone asker u fate end shown y events = ⊥

abbrev pub IsBorneOut : SettingsView → ℕ → Asked → Fate → List ℕ → TaskEnd → List ℕ → Account → List OwnEvent → Type 0
IsBorneOut settings zone (Put asker c) fate body (on_object outcome) shown y events =
    IsPutOutcome zone asker c (body_at fate body) outcome y events × HasReply (told_by (Put asker c) fate (on_object outcome)) × (shown ≡ []) × AreOfPut events
    × AreCut zone settings.stripe body events × IsFinished (path_of events)
IsBorneOut settings zone (Unfed asker u) fate body end shown y events =
    IsUnfedBorneOut settings zone asker u fate end shown y events × HasReply (told_by (Unfed asker u) fate end)
IsBorneOut settings zone asked fate body end shown y events = ⊥

-- the account and the events of an actor are those of such a request so far, of whose body so much came. Only a PUT changes a
-- head, once and when its body came whole; one that is answered by its head alone makes no event
abbrev pub IsUnfedSoFar : SettingsView → ℕ → Asker → UnfedCommand → List OwnEvent → Type 0
IsUnfedSoFar settings zone asker (Get c) events = AreOfGet events
IsUnfedSoFar settings zone asker (Listing c listing) events = AreOfListing events
IsUnfedSoFar settings zone asker (Container c) events = IsContainerSoFar (container_request zone asker c) settings events
IsUnfedSoFar settings zone asker (OfAccount c listing) events = IsAccountSoFar (account_request zone asker c) events

abbrev pub IsSoFar : SettingsView → ℕ → Asked → Body → Account → List OwnEvent → Type 0
IsSoFar settings zone (Put asker c) body y events = IsPutSoFar settings.stripe zone asker c body y events × AreOfPut events
IsSoFar settings zone (Unfed asker u) body y events = IsUnfedSoFar settings zone asker u events
IsSoFar settings zone asked body y events = events ≡ []

-- ---- bodies that are waited for

-- the first own event, the read of the container's row, showed one that refuses so much
abbrev pub first_refuses : Asker → Deed → List OwnEvent → Bool
first_refuses asker deed [] = false
first_refuses asker deed (e ∷ events) = is_some (row_refusal asker (row_shown e.reply) deed)

-- where the client of a PUT waits for a 100, the row of its container is read first, and the body is left just where that row
-- refuses the PUT
abbrev pub IsLeftByRow : ℕ → Asked → Bool → Fate → List OwnEvent → Type 0
IsLeftByRow zone (Put asker c) true fate events =
    ReadsRowFirst zone c.container events × (stays_unread fate ≡ first_refuses asker ChangeThing events)
IsLeftByRow zone asked waits fate events = Unit {0}

-- the events of the task that a reply rests on
abbrev pub events_for : ℕ → List Event → Ground → List OwnEvent
events_for pass history alone = []
events_for pass history (task actor end) = own_events history (actor_of_pass pass actor)

-- ---- right replies

-- the request is answered by its head alone: before any name is looked at
abbrev pub IsByHead : Asked → Type 0
IsByHead (Put asker c) = ⊥
IsByHead (Unfed asker u) = ⊥
IsByHead asked = Unit {0}

-- what a reply rests on is so in a history
abbrev pub RestsOn : SettingsView → ℕ → ℕ → List Event → Asked → Fate → List ℕ → List ℕ → Ground → Type 0
RestsOn settings zone pass history asked fate body shown alone = IsByHead asked × (shown ≡ [])
RestsOn settings zone pass history asked fate body shown (task actor end) =
    IsBorneOut settings zone asked fate body end shown
    (account_of settings history (actor_of_pass pass actor)) (own_events history (actor_of_pass pass actor))

-- the reply to a call is right in a history, and where its client waited for a 100, the row decided whether the body was read
abbrev pub IsRight : SettingsView → ℕ → ℕ → List Event → Call → Type 0
IsRight settings zone pass history call =
    RestsOn settings zone pass history call.asked call.fate call.request.body call.shown call.ground
    × IsLeftByRow zone call.asked (is_waiting call.asked call.request.head) call.fate (events_for pass history call.ground)

-- ---- the calls of a connection

-- a task is that of the next actor
abbrev pub IsOfNext : ℕ → Ground → Type 0
IsOfNext next alone = Unit {0}
IsOfNext next (task actor end) = actor ≡ next

-- the actor after it; a request alone uses none
abbrev pub actor_after : ℕ → Ground → ℕ
actor_after next alone = next
actor_after next (task actor end) = next + 1

-- each reply is right; the tasks are those of actors of the pass, one after another from this one up to the last
abbrev pub AreRight : SettingsView → ℕ → ℕ → List Event → ℕ → List Call → ℕ → Type 0
AreRight settings zone pass history next [] last = next ≡ last
AreRight settings zone pass history next (call ∷ calls) last =
    IsOfNext next call.ground × IsRight settings zone pass history call
    × AreRight settings zone pass history (actor_after next call.ground) calls last

-- both histories say the same of each actor of the pass from this one up to, but not with, that one
abbrev pub AreSame : SettingsView → ℕ → List Event → List Event → ℕ → ℕ → Type 0
AreSame settings pass history later next last =
    (count : ℕ) → next ≤ count → count < last → IsSame settings history later (actor_of_pass pass count)
