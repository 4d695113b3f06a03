-- What a request asks that wants no body, and how its task may end.
use Rattle.std.specs.Prelude.{◌≡◌, ℕ, ◌≤◌, Bool, true, false, List, [], ◌++◌, length, Option, Some, None, IsSome, if◌then◌else◌}
use Rattle.http_model.specs.declared.reply.ReplyForm.{ReplyForm}
use Rattle.realm_model.specs.Accounts.{blank}
use Rattle.realm_model.specs.Doors.{DoorView, actor_at}
use Rattle.realm_model.specs.Histories.{account_of}
use Rattle.realm_model.specs.Owns.{own_events}
use Rattle.realm_model.specs.Settings.{SettingsView}
use Rattle.swift_requests.specs.declared.asked.Asked.{Asked}
use Rattle.swift_requests.specs.declared.asked.Asked.TheVariants.{Unfed}
use Rattle.swift_requests.specs.declared.asked.UnfedCommand.TheVariants.{Get}
use Rattle.task_words.specs.declared.outcome.Outcome.TheVariants.{Done, LateRead}
use Rattle.task_words.specs.declared.reply.MapReply.{MapReply}
use Rattle.task_words.specs.declared.reply.MapReply.TheVariants.{Shown}
use Rattle.call_words.specs.Bodies.{read_whole}
use Rattle.call_words.specs.Calls.{task, text_by}
use Rattle.call_words.specs.Ends.{TaskEnd, on_object, is_by_row}
use Rattle.call_words.specs.Texts.{told_by, HasReply}
use Rattle.call_service.specs.Serving.{Site, BearsOut, IsLateIn, is_by_end}
use Rattle.request_service.specs.declared.ending.Ending.{Ending}
use Rattle.request_service.specs.declared.ending.Ending.TheVariants.{Replied, ByRow, Late}

-- in which zone, and what is asked
pub record Question : Type 0 where
  pub zone : ℕ
  pub asked : Asked

-- where it is served
abbrev pub site_of : SettingsView → Question → Site
site_of settings q = record { settings = settings; zone = q.zone }

-- it has a task, which wants no body
abbrev pub IsUnfed : Asked → Type 0
IsUnfed (Unfed asker u) = Unit {0}
IsUnfed asked = ⊥

-- a task of a zone fits what an actor is told under these settings that made no event
abbrev pub FitsFirst : SettingsView → ℕ → (SettingsView → DoorView → Type 0) → Type 0
FitsFirst settings zone fits = (d : DoorView) → 1 ≤ zone → zone ≤ settings.zones
    → account_of settings d.seen (actor_at d) ≡ blank → own_events d.seen (actor_at d) ≡ [] → fits settings d

-- ---- replies

-- the text behind a whole body, but for bytes of an object
abbrev pub text_at : ReplyForm → Asked → TaskEnd → List ℕ
text_at form asked end = text_by form asked read_whole (task 0 end) []

-- bytes of an object may follow that of this reply
abbrev pub HasBytes : Asked → MapReply → Type 0
HasBytes (Unfed asker (Get c)) (Shown kind meta etag stamp size start count) = Unit {0}
HasBytes asked reply = ⊥

-- the same, of the reply whose bytes come
abbrev pub shown_text : ReplyForm → Asked → Option MapReply → List ℕ
shown_text form asked None = []
shown_text form asked (Some reply) = text_at form asked (on_object (Done reply))

-- ---- ends, also where nothing is told

-- a stripe was gone
abbrev pub is_late : TaskEnd → Bool
is_late (on_object (LateRead read_at clock)) = true
is_late end = false

-- what is written at an end
abbrev pub ending_of : TaskEnd → Ending
ending_of (on_object (LateRead read_at clock)) = Late read_at clock
ending_of end = if is_by_row end then ByRow else Replied

-- a reply is written for it, and an event decided; where bytes came, it is the reply that has them
pub record IsReplied (asked : Asked) (shown : Option MapReply) (end : TaskEnd) : Type 0 where
  pub has_reply : HasReply (told_by asked read_whole end)
  pub by_event : is_by_end end ≡ false
  pub is_shown : (reply : MapReply) → shown ≡ Some reply → end ≡ on_object (Done reply)

-- a task may end so whose bytes are those of this reply
abbrev pub MayEnd : Asked → Option MapReply → TaskEnd → Type 0
MayEnd asked shown (on_object (LateRead read_at clock)) = Unit {0}
MayEnd asked shown end = IsReplied asked shown end

-- the outcome that is there, or none while the task goes on
abbrev pub IsThere : {Outcome : Type 0} → Type 0 → (Outcome → Type 0) → Option Outcome → Type 0
IsThere over ends None = over → ⊥
IsThere over ends (Some outcome) = ends outcome

-- an event leaves the reply whose bytes come, and brings bytes only where there is one
pub record GoesOn (shown next : Option MapReply) (piece : List ℕ) : Type 0 where
  pub shows : (reply : MapReply) → shown ≡ Some reply → next ≡ Some reply
  pub brings : 1 ≤ length piece → IsSome next

-- ---- what is borne out

-- what an end says of the events of the door's actor, which brought these bytes
abbrev pub EndsSo : Site → Asked → List ℕ → DoorView → TaskEnd → Type 0
EndsSo site asked brought d (on_object (LateRead read_at clock)) = IsLateIn site asked d read_at clock
EndsSo site asked brought d end = (body : List ℕ) → BearsOut site asked read_whole body end brought d

-- those bytes are a front of all that the reply has, with which the task may end
pub record ShowsFront (site : Site) (asked : Asked) (reply : MapReply) (brought whole : List ℕ) (d : DoorView) : Type 0 where
  pub rest : List ℕ
  pub joined : whole ≡ brought ++ rest
  pub borne : (body : List ℕ) → BearsOut site asked read_whole body (on_object (Done reply)) whole d
