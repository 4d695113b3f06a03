-- What serving one request comes to: its reply, the events that it rests on, the moments that were told for
-- them, and what a fault leaves.
use Rattle.std.specs.Prelude.{◌≡◌, ◌≢◌, ◌⊎◌, ℕ, ◌^◌, ◌<◌, ◌≤◌, Bool, true, false, List, [], ◌++◌, length, Option, None, Result, Err}
use Rattle.std.specs.Io.KnownBytes.{Appends, IsAtEnd}
use Rattle.gw_io.specs.Ends.{EndsState}
use Rattle.gw_io.specs.Outside.{Rose}
use Rattle.http_chunks.specs.declared.body.BodyEnd.{BodyEnd}
use Rattle.http_model.specs.declared.reply.ReplyForm.{ReplyForm}
use Rattle.http_intake.specs.Intake.{IntakeState}
use Rattle.realm_model.specs.Doors.{DoorView, actor_at}
use Rattle.realm_model.specs.Histories.{Legal, account_of, phase_of}
use Rattle.realm_model.specs.Accounts.{blank}
use Rattle.realm_model.specs.Phases.{fresh}
use Rattle.realm_model.specs.Owns.{own_events}
use Rattle.realm_model.specs.Settings.{SettingsView}
use Rattle.realm_model.specs.declared.event.Event.{Event}
use Rattle.door_moments.specs.Acts.{Asks}
use Rattle.swift_requests.specs.declared.asked.Asked.{Asked}
use Rattle.swift_requests.specs.declared.asked.Asked.TheVariants.{Unfed}
use Rattle.swift_requests.specs.declared.asked.UnfedCommand.TheVariants.{Get}
use Rattle.task_words.specs.declared.outcome.Outcome.TheVariants.{Done, BodyFailed, LateRead}
use Rattle.task_words.specs.declared.reply.MapReply.TheVariants as Map
use Rattle.task_words.specs.declared.reply.Refusal.TheVariants.{OtherEtag}
use Rattle.task_words.specs.Outcomes.{Body, IsGetOutcome}
use Rattle.task_get.specs.Gets.{MissesTail}
use Rattle.swift_requests.specs.Bodies.{is_unread}
use Rattle.swift_requests.specs.declared.body.BodyUse.{BodyUse}
use Rattle.call_words.specs.Bodies.{Fate, read_whole, broken_off, unread, is_left, is_broken, Suits}
use Rattle.call_words.specs.Ends.{TaskEnd, on_object, body_failed}
use Rattle.call_words.specs.Calls.{task, text_by, body_at, IsBorneOut, IsSoFar}
use Rattle.call_service.specs.Connections.{Names}
use Rattle.call_service.specs.Bodies.{FallsBehind, HasFate, HasCome}
use Rattle.call_service.specs.declared.fault.ServeFault.{ServeFault}
use Rattle.call_service.specs.declared.fault.ServeFault.TheVariants as faults
use Rattle.call_service.specs.declared.served.Served.{Served}
use Rattle.call_service.specs.declared.served.Served.TheVariants as services

-- ---- where and when

-- where a connection is served: the realm's settings, and the zone
pub record Site : Type 0 where
  pub settings : SettingsView
  pub zone : ℕ

-- what stands at one moment of a connection: what the door tells, the intake, and the ends
pub record Side : Type 0 where
  pub door : DoorView
  pub intake : IntakeState
  pub ends : EndsState

abbrev pub side : DoorView → IntakeState → EndsState → Side
side door intake ends = record { door = door; intake = intake; ends = ends }

-- ---- events

-- the present actor made no event
pub record IsNew (settings : SettingsView) (d : DoorView) : Type 0 where
  pub legal : Legal settings d.seen
  pub account : account_of settings d.seen (actor_at d) ≡ blank
  pub phase : phase_of settings d.seen (actor_at d) ≡ fresh
  pub events : own_events d.seen (actor_at d) ≡ []

-- ---- before

-- a request may be served: its zone is one of the realm's, its head was read without a fault, the present actor made no event,
-- and the buffer for pieces of its body has room
pub record MayServe (tells : Type 0) (settings : SettingsView) (zone : ℕ) (d : DoorView) (intake : IntakeState) (buffer : ℕ) : Type 0 where
  pub room : 0 < buffer
  pub low : 1 ≤ zone
  pub high : zone ≤ settings.zones
  pub failed : intake.failed ≡ None
  pub new : tells → IsNew settings d

-- ---- moments

-- the body's end decided, in a turn that made no event: a moment is told for it
abbrev pub is_by_end : TaskEnd → Bool
is_by_end (on_object BodyFailed) = true
is_by_end (on_object (Done (Map.Refused OtherEtag))) = true
is_by_end outcome = false

-- ---- texts

-- known bytes grew by some first bytes of these, all of them or not
pub record AppendsFront (old new : Option (List ℕ)) (bytes : List ℕ) : Type 0 where
  pub front : List ℕ
  pub rest : List ℕ
  pub grown : Appends old new front
  pub whole : bytes ≡ front ++ rest

-- of a body that has not ended these bytes came
abbrev pub body_of : List ℕ → Body
body_of bytes = record { bytes = bytes; end = None }

-- what a fault leaves of a text: nothing for want of memory, a front where a write failed
abbrev pub LeavesText : Option (List ℕ) → Option (List ℕ) → List ℕ → ServeFault → Type 0
LeavesText old new text faults.OutOfMemory = Appends old new []
LeavesText old new text faults.WriteFault = AppendsFront old new text
LeavesText old new text fault = ⊥

-- the form of a reply behind a body of that fate: what is left of one closes the connection
abbrev pub form_at : ReplyForm → Fate → ReplyForm
form_at form read_whole = form
form_at form (broken_off why) = record form { close = true }
form_at form unread = record form { close = true }

-- the present actor's account and events bear out that its task ended so, over a body of that fate
abbrev pub BearsOut : Site → Asked → Fate → List ℕ → TaskEnd → List ℕ → DoorView → Type 0
BearsOut site asked fate body outcome shown e =
    IsBorneOut site.settings site.zone asked fate body outcome shown (account_of site.settings e.seen (actor_at e)) (own_events e.seen (actor_at e))

-- they are those of such a request so far, of whose body so much came
abbrev pub BearsOutSoFar : Site → Asked → Body → DoorView → Type 0
BearsOutSoFar site asked body e =
    IsSoFar site.settings site.zone asked body (account_of site.settings e.seen (actor_at e)) (own_events e.seen (actor_at e))

-- ---- good ends

-- the body had that fate, the task ended so, and its whole reply was written
pub record IsReplied (tells alone : Type 0) (site : Site) (form : ReplyForm) (asked : Asked) (fate : Fate) (x y : Side) : Type 0 where
  pub body : List ℕ
  pub has_fate : HasFate fate x.intake y.intake x.ends.left y.ends.left body
  pub outcome : TaskEnd
  pub shown : List ℕ
  pub written : Appends x.ends.taken y.ends.taken (text_by (form_at form fate) asked fate (task x.door.count outcome) shown)
  pub right : tells → BearsOut site asked fate body outcome shown y.door
  pub asks : Asks tells alone site.settings (is_by_end outcome) x.door y.door x.ends.told y.ends.told

-- nothing was written for a request of whose body so much came
pub record LeavesUnwritten (tells alone : Type 0) (site : Site) (asked : Asked) (body : Body) (more : Bool) (x y : Side) : Type 0 where
  pub unwritten : Appends x.ends.taken y.ends.taken []
  pub asks : Asks tells alone site.settings more x.door y.door x.ends.told y.ends.told
  pub so_far : tells → BearsOutSoFar site asked body y.door

-- the body fell short behind these bytes, and nothing was written
pub record StopsShort (tells alone : Type 0) (site : Site) (asked : Asked) (plan : BodyUse) (x y : Side) : Type 0 where
  pub is_read : is_unread plan ≡ false
  pub given : List ℕ
  pub falls : FallsBehind x.intake x.ends.left y.ends.left given
  pub leaves : LeavesUnwritten tells alone site asked (body_of given) false x y

-- since the input ended
abbrev pub IsCutOff : Type 0 → Type 0 → Site → Asked → BodyUse → Side → Side → Type 0
IsCutOff tells alone site asked plan x y = StopsShort tells alone site asked plan x y × IsAtEnd y.ends.left

-- how a request was served whose body is used so
abbrev pub IsServed : Type 0 → Type 0 → Site → ReplyForm → Asked → BodyUse → Side → Side → Served → Type 0
IsServed tells alone site form asked plan x y services.Replied =
    (fate : Fate) × Suits plan fate × (is_broken fate ≡ false)
    × (r : IsReplied tells alone site form asked fate x y) × (r.outcome ≢ body_failed)
IsServed tells alone site form asked plan x y services.Closed =
    (fate : Fate) × Suits plan fate × (is_left fate ≡ true)
    × (r : IsReplied tells alone site form asked fate x y) × (r.outcome ≢ body_failed)
IsServed tells alone site form asked plan x y services.Refused =
    (why : BodyEnd) × Suits plan (broken_off why)
    × (r : IsReplied tells alone site form asked (broken_off why) x y) × (r.outcome ≡ body_failed)
IsServed tells alone site form asked plan x y services.Cut = IsCutOff tells alone site asked plan x y

-- ---- faults

-- the body had a fate, and of the reply of a task that ended so, or will, a front was written
pub record IsInPart (tells alone : Type 0) (site : Site) (form : ReplyForm) (asked : Asked) (plan : BodyUse) (x y : Side) : Type 0 where
  pub fate : Fate
  pub suits : Suits plan fate
  pub body : List ℕ
  pub has_fate : HasFate fate x.intake y.intake x.ends.left y.ends.left body
  pub outcome : TaskEnd
  pub shown : List ℕ
  pub written : AppendsFront x.ends.taken y.ends.taken (text_by (form_at form fate) asked fate (task x.door.count outcome) shown)
  pub right : tells → BearsOut site asked fate body outcome shown y.door
  pub more : Bool
  pub asks : Asks tells alone site.settings more x.door y.door x.ends.told y.ends.told

-- a step was refused: some of the body was read, unless it is left, and nothing or a front of the reply was written; the
-- clock may have been asked for the event that did not come
abbrev pub IsLeft : Type 0 → Type 0 → Site → ReplyForm → Asked → BodyUse → Side → Side → Type 0
IsLeft tells alone site form asked plan x y =
    ((body : Body) × HasCome plan x.intake y.intake x.ends.left y.ends.left body
    × (more : Bool) × LeavesUnwritten tells alone site asked body more x y)
    ⊎ IsInPart tells alone site form asked plan x y

-- a body that did not break off had a fate that suits its use, and nothing was written
pub record IsBeforeReply (tells alone : Type 0) (site : Site) (asked : Asked) (plan : BodyUse) (x y : Side) : Type 0 where
  pub fate : Fate
  pub suits : Suits plan fate
  pub whole : is_broken fate ≡ false
  pub body : List ℕ
  pub has_fate : HasFate fate x.intake y.intake x.ends.left y.ends.left body
  pub leaves : LeavesUnwritten tells alone site asked (body_at fate body) false x y

-- A stripe of what the GET shows was gone: behind the reads of the row and, at the first clock, of the head, each tail of the
-- range was read once, in order, up to the one that was gone at the second.
abbrev pub IsLateIn : Site → Asked → DoorView → ℕ → ℕ → Type 0
IsLateIn site (Unfed asker (Get c)) e read_at clock =
    IsGetOutcome site.zone asker c (LateRead read_at clock) (account_of site.settings e.seen (actor_at e))
    × MissesTail (record { zone = site.zone; asker = asker; get = c }) read_at clock (own_events e.seen (actor_at e))
IsLateIn site asked e read_at clock = ⊥

-- what a fault leaves of a request whose body is used so, where the door's last step found this history
abbrev pub IsStopped : Type 0 → Type 0 → Site → ReplyForm → Asked → BodyUse → List Event → Side → Side → ServeFault → Type 0
IsStopped tells alone site form asked plan found x y faults.ReadFault = StopsShort tells alone site asked plan x y
IsStopped tells alone site form asked plan found x y faults.OutOfMemory = IsLeft tells alone site form asked plan x y
IsStopped tells alone site form asked plan found x y faults.Worn =
    (tells → length found ≡ 2 ^ 62) × IsLeft tells alone site form asked plan x y
IsStopped tells alone site form asked plan found x y faults.WriteFault =
    (part : IsInPart tells alone site form asked plan x y) × (part.more ≡ is_by_end part.outcome)
IsStopped tells alone site form asked plan found x y (faults.Late read_at clock) =
    (tells → IsLateIn site asked y.door read_at clock)
    × (IsBeforeReply tells alone site asked plan x y ⊎ ((part : IsInPart tells alone site form asked plan x y) × (part.more ≡ false)))

-- ---- counts of faults

-- the sink's count of faults rose where a write failed, and stayed at every other end
pub record WritesAtFault {T : Type 0} (before now : ℕ) (result : Result T ServeFault) : Type 0 where
  pub rose : result ≡ Err faults.WriteFault → Rose before now
  pub kept : result ≢ Err faults.WriteFault → now ≡ before

-- each count of faults rose where its call failed, and stayed at every other end; the clock keeps its plan
pub record HasServeCause {T : Type 0} (old new : EndsState) (result : Result T ServeFault) : Type 0 where
  pub plan : new.plan ≡ old.plan
  pub read_rose : result ≡ Err faults.ReadFault → Rose old.read_faults new.read_faults
  pub read_kept : result ≢ Err faults.ReadFault → new.read_faults ≡ old.read_faults
  pub write_rose : result ≡ Err faults.WriteFault → Rose old.write_faults new.write_faults
  pub write_kept : result ≢ Err faults.WriteFault → new.write_faults ≡ old.write_faults

-- ---- what stays

-- the door's settings and home, and the clock's plan
pub record Outside : Type 0 where
  pub settings : SettingsView
  pub home : ℕ
  pub plan : Option (ℕ → ℕ)

abbrev pub outside : SettingsView → ℕ → Option (ℕ → ℕ) → Outside
outside settings home plan = record { settings = settings; home = home; plan = plan }

-- none of these changes
pub record Stays (old new : Outside) : Type 0 where
  pub settings : new.settings ≡ old.settings
  pub home : new.home ≡ old.home
  pub plan : new.plan ≡ old.plan

-- what stands around a call that serves a request: the ends of the connection, the door's settings and home, how long the
-- buffer for pieces of the body is, and the borrows that the connection is made of
pub record Around : Type 0 where
  pub ends : EndsState
  pub settings : SettingsView
  pub home : ℕ
  pub buffer : ℕ
  pub names : Names

abbrev pub around : EndsState → SettingsView → ℕ → ℕ → Names → Around
around ends settings home buffer names = record { ends = ends; settings = settings; home = home; buffer = buffer; names = names }

-- each count of faults rose where its call failed, and all else stays
pub record StaysAround {T : Type 0} (old new : Around) (result : Result T ServeFault) : Type 0 where
  pub cause : HasServeCause old.ends new.ends result
  pub settings : new.settings ≡ old.settings
  pub home : new.home ≡ old.home
  pub kept : new.buffer ≡ old.buffer
  pub names : new.names ≡ old.names
