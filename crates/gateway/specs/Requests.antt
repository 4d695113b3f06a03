-- What serving one request comes to, from the moment when its head was read.
use Rattle.std.specs.Prelude.{◌≡◌, ◌⊎◌, ℕ, ◌+◌, ◌≤◌, Bool, true, false, List, [], ◌++◌, Option, Some, None}
use Rattle.std.specs.Io.KnownBytes.{Appends, IsAtEnd}
use Rattle.http_intake.specs.Intake.{IntakeState, IsBetween, is_in_chunks}
use Rattle.http_model.specs.declared.head.Head.{Head}
use Rattle.http_model.specs.declared.reply.ReplyForm.{ReplyForm}
use Rattle.http_model.specs.Forms.{content_length}
use Rattle.http_model.specs.Framings.{framing_of}
use Rattle.realm_model.specs.Doors.{DoorView}
use Rattle.realm_model.specs.Owns.{own_events}
use Rattle.realm_model.specs.declared.event.Event.{Event}
use Rattle.realm_door.specs.Steps.{begun, next_count, actor_of_pass}
use Rattle.swift_requests.specs.declared.asked.Asked.{Asked}
use Rattle.swift_requests.specs.declared.asked.Asked.TheVariants.{Put, Unfed}
use Rattle.swift_requests.specs.declared.body.BodyUse.{BodyUse}
use Rattle.swift_requests.specs.Bodies.{is_unread, is_awaited}
use Rattle.http_chunks.specs.declared.body.BodyEnd.{BodyEnd}
use Rattle.http_chunks.specs.declared.body.BodyEnd.TheVariants as Body
use Rattle.task_words.specs.declared.asker.Asker.{Asker}
use Rattle.task_words.specs.declared.command.PutCommand.{PutCommand}
use Rattle.task_words.specs.Outcomes.{Body as AskedBody}
use Rattle.call_words.specs.Calls.{Ground, alone as by_itself, Call, IsLeftByRow, text_by, whole_text}
use Rattle.call_words.specs.Bodies.{Fate, read_whole, broken_off, unread, is_left, is_broken, Suits}
use Rattle.call_words.specs.Texts.{continue_if}
use Rattle.call_service.specs.Bodies.{FallsBehind, HasFate}
use Rattle.call_service.specs.Serving.{Site, Side, side, AppendsFront, form_at, body_of, IsStopped}
use Rattle.door_moments.specs.Acts.{own_moments}
use Rattle.call_service.specs.declared.fault.ServeFault.{ServeFault}
use Rattle.call_service.specs.declared.fault.ServeFault.TheVariants as faults
use Rattle.call_service.specs.declared.served.Served.{Served}
use Rattle.call_service.specs.declared.served.Served.TheVariants as services
use Rattle.gateway.specs.Moments.{AreToldFor}
use Rattle.call_service.specs.Waiting.{IsPutStopped}
use Rattle.gateway.specs.Texts.{is_failing, is_refusing}
use Rattle.call_words.specs.Made.{AreBy}
use Rattle.gateway.specs.Calls.{DoesSoFar, Advances, IsSettled}

-- ---- the intake

-- the intake stands before the next request
abbrev pub IsReady : ℕ → IntakeState → Type 0
IsReady largest intake = (intake.failed ≡ None) × IsBetween intake × (intake.largest ≡ largest)

-- the intake stands right behind this head
pub record IsBehindHead (largest : ℕ) (intake : IntakeState) (head : Head) : Type 0 where
  pub failed : intake.failed ≡ None
  pub body_left : intake.body_left ≡ content_length head.framing
  pub chunked : intake.chunked ≡ is_in_chunks head.framing
  pub behind : intake.behind ≡ false
  pub room : intake.room ≡ largest
  pub largest_is : intake.largest ≡ largest
  pub framed : framing_of head.minor head.fields ≡ Some head.framing

-- the body had that fate, which suits its use
abbrev pub TakesBody : BodyUse → Fate → IntakeState → IntakeState → Option (List ℕ) → Option (List ℕ) → List ℕ → Type 0
TakesBody plan fate old new before after body = Suits plan fate × HasFate fate old new before after body

-- what became of a body that was read to where it ended so, or not read
abbrev pub fate_by : Option BodyEnd → Fate
fate_by None = unread
fate_by (Some Body.Whole) = read_whole
fate_by (Some end) = broken_off end

-- the input ended inside it
abbrev pub is_cut : Option BodyEnd → Bool
is_cut (Some Body.Cut) = true
is_cut end = false

-- a body that is read fell short behind some bytes
abbrev pub FallsIn : BodyUse → IntakeState → Option (List ℕ) → Option (List ℕ) → Type 0
FallsIn plan old before after = (is_unread plan ≡ false) × (given : List ℕ) × FallsBehind old before after given

-- the body was used, or the input ended inside it
abbrev pub UsesBody : BodyUse → IntakeState → IntakeState → Option (List ℕ) → Option (List ℕ) → Option BodyEnd → Type 0
UsesBody plan old new before after (Some Body.Cut) = FallsIn plan old before after × IsAtEnd after
UsesBody plan old new before after end = (body : List ℕ) × TakesBody plan (fate_by end) old new before after body

-- a read failed inside the body; nothing else ends it early
abbrev pub LeavesBody : BodyUse → IntakeState → Option (List ℕ) → Option (List ℕ) → ServeFault → Type 0
LeavesBody plan old before after faults.ReadFault = FallsIn plan old before after
LeavesBody plan old before after fault = ⊥

-- ---- replies by the head alone

-- the body had that fate, and the text of the reply was written in the form for it
abbrev pub RepliesAt : ReplyForm → Asked → BodyUse → Fate → IntakeState → IntakeState → Option (List ℕ) → Option (List ℕ) → (List ℕ → Type 0) → Type 0
RepliesAt form asked plan fate old new left left' grown =
    ((body : List ℕ) × TakesBody plan fate old new left left' body) × grown (text_by (form_at form fate) asked fate by_itself [])

-- the reply was written behind the body, or behind what was read of one that broke off; or the input ended inside it
abbrev pub RepliesByHead : ReplyForm → Asked → BodyUse → IntakeState → IntakeState → Option (List ℕ) → Option (List ℕ) → Option (List ℕ) → Option (List ℕ) → Served → Type 0
RepliesByHead form asked plan old new left left' taken taken' services.Replied =
    (fate : Fate) × (is_broken fate ≡ false) × RepliesAt form asked plan fate old new left left' (Appends taken taken')
RepliesByHead form asked plan old new left left' taken taken' services.Closed =
    (why : BodyEnd) × RepliesAt form asked plan (broken_off why) old new left left' (Appends taken taken')
RepliesByHead form asked plan old new left left' taken taken' services.Refused = ⊥
RepliesByHead form asked plan old new left left' taken taken' services.Cut =
    (FallsIn plan old left left' × IsAtEnd left') × Appends taken taken' []

-- the text was not made, or not written whole; or a read failed inside the body
abbrev pub LeavesReply : ReplyForm → Asked → BodyUse → IntakeState → IntakeState → Option (List ℕ) → Option (List ℕ) → Option (List ℕ) → Option (List ℕ) → ServeFault → Type 0
LeavesReply form asked plan old new left left' taken taken' faults.OutOfMemory =
    ((fate : Fate) × (body : List ℕ) × TakesBody plan fate old new left left' body) × Appends taken taken' []
LeavesReply form asked plan old new left left' taken taken' faults.ReadFault =
    LeavesBody plan old left left' faults.ReadFault × Appends taken taken' []
LeavesReply form asked plan old new left left' taken taken' faults.WriteFault =
    (fate : Fate) × RepliesAt form asked plan fate old new left left' (AppendsFront taken taken')
LeavesReply form asked plan old new left left' taken taken' faults.Worn = ⊥
LeavesReply form asked plan old new left left' taken taken' (faults.Late read_at clock) = ⊥

-- ---- good ends

-- a request was replied: what was written and told for it, and what the history says
pub record IsAnswered (tells alone : Type 0) (site : Site) (form : ReplyForm) (d e : DoorView) (taken taken' told told' : Option (List ℕ)) (call : Call) : Type 0 where
  pub written : Appends taken taken' (whole_text form call)
  pub moments : List ℕ
  pub asked_clock : Appends told told' moments
  pub each : AreToldFor tells e.seen d.pass call.ground moments
  pub settled : tells → IsSettled alone site d e call

-- the history grew by events of the next actor, which may have begun
pub record IsLeftBy (alone : Type 0) (site : Site) (d e : DoorView) : Type 0 where
  pub begun : next_count e ≤ next_count d + 1
  pub advances : Advances site.settings d e
  pub only : alone → (more : List Event) × (e.seen ≡ d.seen ++ more) × AreBy d.pass (next_count d) more

-- of a request, of whose body so much came, nothing but this was written; the next actor's events are those of the request so
-- far, and the moments that were told are theirs
pub record IsUnanswered (tells alone : Type 0) (site : Site) (asked : Asked) (body : AskedBody) (text : List ℕ) (d e : DoorView) (taken taken' told told' : Option (List ℕ)) : Type 0 where
  pub written : Appends taken taken' text
  pub so_far : tells → DoesSoFar site asked body d.pass (next_count d) e.seen
  pub moments : List ℕ
  pub asked_clock : Appends told told' moments
  pub each : tells → moments ≡ own_moments e.seen (actor_of_pass d.pass (next_count d))
  pub left_by : tells → IsLeftBy alone site d e

-- the body had that fate, and the whole reply was written
pub record Replies (tells alone : Type 0) (site : Site) (head : Head) (asked : Asked) (plan : BodyUse) (form : ReplyForm) (fate : Fate) (z y : Side) : Type 0 where
  pub body : List ℕ
  pub taken : TakesBody plan fate z.intake y.intake z.ends.left y.ends.left body
  pub ground : Ground
  pub shown : List ℕ
  pub answered : IsAnswered tells alone site (form_at form fate) z.door y.door z.ends.taken y.ends.taken z.ends.told y.ends.told
      (record { request = record { head = head; body = body }; asked = asked; fate = fate; ground = ground; shown = shown })

-- what is written before a body that is read: the 100 for a client that waits for it
abbrev pub text_before : BodyUse → List ℕ
text_before plan = continue_if (is_awaited plan) read_whole

-- where the client of a PUT waits for a 100, the row of its container was read first, and grants that the body is read
abbrev pub IsLetIn : Site → Asked → BodyUse → ℕ → ℕ → List Event → Type 0
IsLetIn site asked plan pass count history =
    IsLeftByRow site.zone asked (is_awaited plan) read_whole (own_events history (actor_of_pass pass count))

-- the body fell short behind these bytes, and no reply was written
pub record FallsShort (tells alone : Type 0) (site : Site) (asked : Asked) (plan : BodyUse) (z y : Side) : Type 0 where
  pub is_read : is_unread plan ≡ false
  pub given : List ℕ
  pub falls : FallsBehind z.intake z.ends.left y.ends.left given
  pub let_in : tells → IsLetIn site asked plan z.door.pass (next_count z.door) y.door.seen
  pub unanswered : IsUnanswered tells alone site asked (body_of given) (text_before plan) z.door y.door z.ends.taken y.ends.taken z.ends.told y.ends.told

-- how a request was served
abbrev pub Serves : Type 0 → Type 0 → Site → Head → Asked → BodyUse → ReplyForm → Side → Side → Served → Type 0
Serves tells alone site head asked plan form z y services.Replied =
    (fate : Fate) × (is_broken fate ≡ false) × (is_left fate ≡ true → form.close ≡ true)
    × (r : Replies tells alone site head asked plan form fate z y) × (is_failing r.ground ≡ false)
Serves tells alone site head asked plan form z y services.Closed =
    (fate : Fate) × (is_left fate ≡ true) × (is_refusing asked ≡ false)
    × (r : Replies tells alone site head asked plan form fate z y) × (is_failing r.ground ≡ false)
Serves tells alone site head asked plan form z y services.Refused =
    (why : BodyEnd) × (r : Replies tells alone site head asked plan form (broken_off why) z y) × (is_failing r.ground ≡ true)
Serves tells alone site head asked plan form z y services.Cut = FallsShort tells alone site asked plan z y × IsAtEnd y.ends.left

-- ---- faults

-- no actor began, and no moment was told
pub record IsIdle (z y : Side) : Type 0 where
  pub door : y.door ≡ z.door
  pub untold : Appends z.ends.told y.ends.told []

-- a reply by the head alone was left
abbrev pub LeavesByHead : ReplyForm → Asked → BodyUse → Side → Side → ServeFault → Type 0
LeavesByHead form asked plan z y fault =
    LeavesReply form asked plan z.intake y.intake z.ends.left y.ends.left z.ends.taken y.ends.taken fault × IsIdle z y

-- the next actor began, and its task was left so
abbrev pub IsLeftFrom : Type 0 → Side → (Side → Type 0) → Type 0
IsLeftFrom tells z IsLeftThere = (d : DoorView) × (tells → d ≡ begun z.door) × IsLeftThere (side d z.intake z.ends)

abbrev pub LeavesTask : Type 0 → Type 0 → Site → ReplyForm → Asked → BodyUse → List Event → Side → Side → ServeFault → Type 0
LeavesTask tells alone site form asked plan found z y fault =
    IsLeftFrom tells z (λ x. IsStopped tells alone site form asked plan found x y fault)

-- that of a PUT, whose client waits for a 100 or not
abbrev pub LeavesPut : Type 0 → Type 0 → Site → ReplyForm → Asker → PutCommand → BodyUse → List Event → Side → Side → ServeFault → Type 0
LeavesPut tells alone site form asker c plan found z y fault =
    IsLeftFrom tells z (λ x. IsPutStopped (is_awaited plan) tells alone site form asker c found x y fault)

abbrev pub LeavesAsked : Type 0 → Type 0 → Site → ReplyForm → Asked → BodyUse → List Event → Side → Side → ServeFault → Type 0
LeavesAsked tells alone site form (Put asker c) plan found z y fault = LeavesPut tells alone site form asker c plan found z y fault
LeavesAsked tells alone site form (Unfed asker u) plan found z y fault = LeavesTask tells alone site form (Unfed asker u) plan found z y fault
LeavesAsked tells alone site form asked plan found z y fault = LeavesByHead form asked plan z y fault

-- what a fault other than a failed read leaves behind a head: memory was wanting before anything was done, or the reply by the
-- head alone or the task was left
abbrev pub LeavesRequest : Type 0 → Type 0 → Site → ReplyForm → Asked → BodyUse → List Event → Side → Side → ServeFault → Type 0
LeavesRequest tells alone site form asked plan found z y fault =
    ((fault ≡ faults.OutOfMemory) × (y ≡ z)) ⊎ LeavesAsked tells alone site form asked plan found z y fault

abbrev pub Stops : Type 0 → Type 0 → Site → ReplyForm → Asked → BodyUse → List Event → Side → Side → ServeFault → Type 0
Stops tells alone site form asked plan found z y faults.ReadFault = FallsShort tells alone site asked plan z y
Stops tells alone site form asked plan found z y fault = LeavesRequest tells alone site form asked plan found z y fault
