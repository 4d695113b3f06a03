-- A reply that rests on no body, while its task goes on: what is written of it, and what a fault leaves.
use Rattle.std.specs.Prelude.{◌≡◌, ◌⊎◌, ℕ, ◌^◌, Bool, false, List, [], length, Option}
use Rattle.std.specs.Io.KnownBytes.{Appends}
use Rattle.http_model.specs.declared.reply.ReplyForm.{ReplyForm}
use Rattle.realm_model.specs.Doors.{DoorView}
use Rattle.realm_model.specs.Settings.{SettingsView}
use Rattle.realm_model.specs.declared.event.Event.{Event}
use Rattle.swift_requests.specs.declared.asked.Asked.{Asked}
use Rattle.swift_requests.specs.declared.asked.Asked.TheVariants.{Put}
use Rattle.task_words.specs.Outcomes.{Body}
use Rattle.call_words.specs.Bodies.{read_whole}
use Rattle.call_words.specs.Ends.{TaskEnd}
use Rattle.call_words.specs.Calls.{task, text_by}
use Rattle.call_service.specs.declared.fault.ServeFault.{ServeFault}
use Rattle.call_service.specs.declared.fault.ServeFault.TheVariants as faults
use Rattle.call_service.specs.Serving.{Site, AppendsFront, BearsOut, BearsOutSoFar, IsLateIn, is_by_end}
use Rattle.door_moments.specs.Acts.{Asks}

-- an event was refused: for want of memory, or since the realm has as many events as it may have
abbrev pub StopsEvent : Type 0 → List Event → ServeFault → Type 0
StopsEvent tells found faults.OutOfMemory = Unit {0}
StopsEvent tells found faults.Worn = tells → length found ≡ 2 ^ 62
StopsEvent tells found fault = ⊥

-- the request wants no body
abbrev pub IsUnwanted : Asked → Type 0
IsUnwanted (Put asker c) = ⊥
IsUnwanted asked = Unit {0}

-- ---- what was written

-- the reply of a task that ended so, or will, behind a whole body: what the door tells bears it out, whatever body was sent
pub record Replies (tells : Type 0) (site : Site) (form : ReplyForm) (asked : Asked) (e : DoorView) (grown : List ℕ → Type 0) : Type 0 where
  pub outcome : TaskEnd
  pub shown : List ℕ
  pub by_event : is_by_end outcome ≡ false
  pub written : grown (text_by form asked read_whole (task e.count outcome) shown)
  pub right : tells → (body : List ℕ) → BearsOut site asked read_whole body outcome shown e

-- nothing was written, and the events are those of the request so far, whatever body was sent
abbrev pub IsUnwritten : Type 0 → Site → Asked → DoorView → Option (List ℕ) → Option (List ℕ) → Type 0
IsUnwritten tells site asked e before now = Appends before now [] × (tells → (body : Body) → BearsOutSoFar site asked body e)

-- nothing was written, or a front of a reply
abbrev pub IsPartly : Type 0 → Site → ReplyForm → Asked → DoorView → Option (List ℕ) → Option (List ℕ) → Type 0
IsPartly tells site form asked e before now = IsUnwritten tells site asked e before now ⊎ Replies tells site form asked e (AppendsFront before now)

-- ---- faults

-- what the door tells, what the sink has taken, and what the clock has told
pub record Stand : Type 0 where
  pub door : DoorView
  pub taken : Option (List ℕ)
  pub told : Option (List ℕ)

abbrev pub stand : DoorView → Option (List ℕ) → Option (List ℕ) → Stand
stand door taken told = record { door = door; taken = taken; told = told }

-- the clock was asked once for each event, and once more or not
abbrev pub AsksFrom : Type 0 → Type 0 → SettingsView → Bool → Stand → Stand → Type 0
AsksFrom tells alone settings more x y = Asks tells alone settings more x.door y.door x.told y.told

-- what a fault leaves, where the door's last step found this history
abbrev pub StopsReply : Type 0 → Type 0 → Site → ReplyForm → Asked → List Event → Stand → Stand → ServeFault → Type 0
StopsReply tells alone site form asked found x y faults.ReadFault = ⊥
StopsReply tells alone site form asked found x y faults.OutOfMemory =
    ((more : Bool) × AsksFrom tells alone site.settings more x y) × IsPartly tells site form asked y.door x.taken y.taken
StopsReply tells alone site form asked found x y faults.Worn =
    (tells → length found ≡ 2 ^ 62)
    × ((more : Bool) × AsksFrom tells alone site.settings more x y) × IsPartly tells site form asked y.door x.taken y.taken
StopsReply tells alone site form asked found x y faults.WriteFault =
    AsksFrom tells alone site.settings false x y × Replies tells site form asked y.door (AppendsFront x.taken y.taken)
StopsReply tells alone site form asked found x y (faults.Late read_at clock) =
    AsksFrom tells alone site.settings false x y × (tells → IsLateIn site asked y.door read_at clock)
    × IsPartly tells site form asked y.door x.taken y.taken
