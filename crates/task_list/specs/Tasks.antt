-- Where a task of a listing stands, and how an answer brings it on.
use Rattle.std.specs.Prelude.{◌≡◌, ◌++◌, ℕ, ◌+◌, ◌-◌, ◌^◌, ◌<◌, ◌≤◌, nat_lt, min, Bool, true, false, List, [], ◌∷◌, length, Option, Some, None, if◌then◌else◌}
use Rattle.std.specs.List.{All}
use Rattle.object_words.specs.declared.bucket.Bucket.{Bucket}
use Rattle.object_words.specs.declared.entry.EntryPage.{EntryPage}
use Rattle.object_words.specs.declared.head.HeadSeen.{HeadSeen}
use Rattle.object_words.specs.declared.head.SeenSlot.{SeenSlot}
use Rattle.object_words.specs.declared.head.SeenSlot.TheVariants.{Nothing}
use Rattle.realm_model.specs.Settings.{SettingsView}
use Rattle.realm_model.specs.Accounts.{Looked, Account}
use Rattle.realm_model.specs.Doors.{DoorView, actor_at}
use Rattle.realm_model.specs.Histories.{account_of}
use Rattle.realm_model.specs.Owns.{OwnEvent, own_events}
use Rattle.realm_model.specs.declared.op.Op.{Op}
use Rattle.realm_model.specs.declared.event.Reply.{Reply}
use Rattle.realm_model.specs.declared.event.Reply.TheVariants.{Head as head_reply}
use Rattle.swift_auth.specs.declared.policy.Deed.TheVariants.{ListContainer}
use Rattle.task_words.specs.declared.outcome.Outcome.{Outcome}
use Rattle.task_words.specs.declared.outcome.Outcome.TheVariants.{Done, MovedOften}
use Rattle.task_words.specs.declared.reply.MapReply.TheVariants.{Listed, Refused}
use Rattle.task_words.specs.declared.reply.Refusal.{Refusal}
use Rattle.task_words.specs.Outcomes.{most_moved}
use Rattle.task_words.specs.Rows.{row_refusal}
use Rattle.list_words.specs.declared.command.ListCommand.{ListCommand}
use Rattle.task_list.specs.declared.merging.NextPage.{NextPage}
use Rattle.task_list.specs.declared.merging.Merging.{Merging}
use Rattle.task_list.specs.declared.request.ListRequest.{ListRequest}
use Rattle.task_list.specs.declared.stage.Known.{Known}
use Rattle.task_list.specs.declared.stage.Stage.{Stage}
use Rattle.task_list.specs.declared.stage.Stage.TheVariants.{Look, Page, Head, Suggest, Broken, Ended}
use Rattle.task_list.specs.declared.task.ListTask.{ListTask}
use Rattle.task_list.specs.Progresses.{settled_of, rows_in}
use Rattle.task_list.specs.Listed.{asks_row, asks_page, asks_head, AreOfListing, AreInZone, AreShown, AreUnsettled, IsRefusal, IsListOutcome}
use Rattle.task_list.specs.Repairs.{told_by, untold, IsRepairing}
use Rattle.realm_model.specs.Shown.{row_shown, page_shown}
use Rattle.task_list.specs.Sightings.{StageTold, RowTold, PageTold, HeadTold, OnTold, asks_suggestion, owes}
use Rattle.task_list.specs.Stages.{IsSettledTo, IsRowShown, MergingFits, HeadFits, IsPageEvent, IsHeadEvent}

-- ---- stages

-- the outcome is there
abbrev pub IsOver : Stage → Type 0
IsOver (Ended outcome) = Unit {0}
IsOver stage = ⊥

-- there was no memory to go on
abbrev pub is_broken : Stage → Bool
is_broken Broken = true
is_broken stage = false

-- the outcome, once it is there
abbrev pub ended_in : Stage → Option Outcome
ended_in (Ended outcome) = Some outcome
ended_in stage = None

-- the row was read: a refusal is one of the row
abbrev pub IsPast : Stage → Type 0
IsPast (Look known) = ⊥
IsPast (Ended (Done (Refused refusal))) = IsRefusal refusal
IsPast stage = Unit {0}

-- a listing may end so
abbrev pub MayEnd : Outcome → Type 0
MayEnd (Done (Listed rows)) = Unit {0}
MayEnd (Done (Refused refusal)) = IsRefusal refusal
MayEnd MovedOften = Unit {0}
MayEnd outcome = ⊥

-- it ends as a listing may, whatever a door answered
abbrev pub IsSound : Stage → Type 0
IsSound (Ended outcome) = MayEnd outcome
IsSound stage = Unit {0}

-- an operation comes next
abbrev pub IsGoing : Stage → Type 0
IsGoing (Ended outcome) = ⊥
IsGoing Broken = ⊥
IsGoing stage = Unit {0}

-- the operation that comes next
abbrev pub op_of : ListRequest → Stage → Op
op_of r (Look known) = asks_row r.zone r.command
op_of r (Page m next) = asks_page r.zone m.row next.shard next.after
op_of r (Head m wanted) = asks_head r.zone (m.row).id wanted.name
op_of r (Suggest m s) = asks_suggestion r.zone m.row s
op_of r Broken = asks_row r.zone r.command
op_of r (Ended outcome) = asks_row r.zone r.command

-- ---- answers

-- what an answer shows of a head
abbrev pub head_shown : Reply → HeadSeen
head_shown (head_reply seen clock) = seen
head_shown reply = record { version = 0; slot = Nothing }

abbrev pub one_moved : ℕ → ℕ
one_moved moved = min (moved + 1) (2 ^ 32 - 1)

-- after so many answers Moved or Closed: the listing goes on behind what is settled
abbrev pub after_left : Merging → ℕ → Stage
after_left m moved =
    if nat_lt moved most_moved then Look (Some (record { container = (m.row).id; progress = m.progress })) else Ended MovedOften

-- what was settled of a container, if one was found
abbrev pub KnownFits : ℕ → ListCommand → Option Known → List OwnEvent → Type 0
KnownFits zone c None events = Unit {0}
KnownFits zone c (Some k) events = IsSettledTo zone c k.container (settled_of k.progress) (rows_in k.progress) events

-- the listing has its rows
abbrev pub HasRows : ℕ → ListCommand → Bucket → Outcome → List OwnEvent → Type 0
HasRows zone c row (Done (Listed rows)) events = AreShown zone c row.id rows events
HasRows zone c row outcome events = ⊥

-- it goes on, or has its rows
abbrev pub WentOn : ℕ → ListCommand → Bucket → Stage → List OwnEvent → Type 0
WentOn zone c row (Page m next) events = (m.row ≡ row) × MergingFits zone c m (Some next) events × (m.used_up ≡ None)
WentOn zone c row (Head m wanted) events = (m.row ≡ row) × HeadFits zone c m wanted.name events
WentOn zone c row (Suggest m s) events = (m.row ≡ row) × MergingFits zone c m m.used_up events
WentOn zone c row (Ended outcome) events = HasRows zone c row outcome events
WentOn zone c row stage events = ⊥

-- the row is refused, or its shards are read
abbrev pub AfterRow : ListCommand → Option Known → Option Refusal → Option Bucket → Stage → Type 0
AfterRow c known (Some refusal) row stage = stage ≡ Ended (Done (Refused refusal))
AfterRow c known None None stage = ⊥
AfterRow c known None (Some row) stage =
    (zone : ℕ) (events : List OwnEvent) → KnownFits zone c known events → IsRowShown zone c row events → WentOn zone c row stage events

-- a page came, or its shard no longer serves
abbrev pub AfterPage : ListCommand → Merging → NextPage → ℕ → Option EntryPage → Stage → ℕ → Type 0
AfterPage c m next moved None stage now = (stage ≡ after_left m (one_moved moved)) × (now ≡ one_moved moved)
AfterPage c m next moved (Some page) stage now =
    ((zone : ℕ) (events : List OwnEvent) (own : OwnEvent) → MergingFits zone c m (Some next) events → m.used_up ≡ None
    → IsPageEvent zone m.row next page events own → WentOn zone c m.row stage (events ++ own ∷ []))
    × (now ≡ moved)

-- the head of a name came
abbrev pub AfterHead : ListCommand → Merging → List ℕ → SeenSlot → Stage → Type 0
AfterHead c m name slot stage =
    (zone : ℕ) (events : List OwnEvent) (own : OwnEvent) → HeadFits zone c m name events
    → IsHeadEvent zone (m.row).id name slot events own → WentOn zone c m.row stage (events ++ own ∷ [])

-- it goes on, whatever the suggestion was answered
abbrev pub AfterSuggestion : ListCommand → Merging → Stage → Type 0
AfterSuggestion c m stage =
    (zone : ℕ) (events : List OwnEvent) → MergingFits zone c m m.used_up events → WentOn zone c m.row stage events

-- what an answer to the operation brings
abbrev pub Takes : ListRequest → Stage → ℕ → Reply → Stage → ℕ → Type 0
Takes r (Look known) moved reply stage now =
    AfterRow r.command known (row_refusal r.asker (row_shown reply) ListContainer) (row_shown reply) stage × (now ≡ moved)
Takes r (Page m next) moved reply stage now = AfterPage r.command m next moved (page_shown reply) stage now
Takes r (Head m wanted) moved reply stage now = AfterHead r.command m wanted.name (head_shown reply).slot stage × (now ≡ moved)
Takes r (Suggest m s) moved reply stage now = AfterSuggestion r.command m stage × (now ≡ moved)
Takes r Broken moved reply stage now = Unit {0}
Takes r (Ended outcome) moved reply stage now = Unit {0}

-- what an answer to the operation brings of what is told
abbrev pub TakesTold : Stage → Reply → Stage → Type 0
TakesTold (Look known) reply stage = RowTold (row_shown reply) stage
TakesTold (Page m next) reply stage = PageTold m next (page_shown reply) stage
TakesTold (Head m wanted) reply stage = HeadTold m wanted (head_shown reply) stage
TakesTold (Suggest m s) reply stage = OnTold m stage
TakesTold Broken reply stage = Unit {0}
TakesTold (Ended outcome) reply stage = Unit {0}

-- ---- what the own events came to

-- no head was changed, and heads were read where changes are under way; so many answers were Moved or Closed
pub record Going (r : ListRequest) (moved : ℕ) (y : Account) (events : List OwnEvent) (last : ℕ) : Type 0 where
  pub untried : y.target ≡ None
  pub unchanged : y.changes ≡ 0
  pub heads : AreUnsettled r.zone r.command events
  pub moved_is : y.moved.count ≡ moved
  pub few : moved < most_moved
  pub moved_before : y.moved.last ≤ last
  pub numbered : All (λ e. e.number ≤ last) events
  pub reads : AreOfListing events
  pub inside : AreInZone r.zone events

-- the stage keeps what the own events told, and what was owed was suggested, but for what the stage still owes
pub record Heard (r : ListRequest) (stage : Stage) (events : List OwnEvent) : Type 0 where
  pub told : StageTold stage (told_by untold events)
  pub repairs : IsRepairing untold None events (owes r.zone stage)

-- the last own read of a row showed this one, after the last answer Moved or Closed, and lets the asker list
pub record Looking (r : ListRequest) (row : Bucket) (y : Account) (last : ℕ) : Type 0 where
  pub look : Looked
  pub is_last : y.looked ≡ Some look
  pub in_zone : look.zone ≡ r.zone
  pub under_name : look.name ≡ (r.command).container
  pub showed : look.row ≡ Some row
  pub later : y.moved.last < look.number
  pub before : look.number ≤ last
  pub granted : row_refusal r.asker (Some row) ListContainer ≡ None

-- the stage is what the own events came to, of which the last has at most this number
abbrev pub FitsAt : ListRequest → Stage → ℕ → Account → List OwnEvent → ℕ → Type 0
FitsAt r (Look known) moved y events last =
    Going r moved y events last × KnownFits r.zone r.command known events × Heard r (Look known) events
FitsAt r (Page m next) moved y events last =
    Going r moved y events last × Looking r m.row y last × MergingFits r.zone r.command m (Some next) events × (m.used_up ≡ None)
    × Heard r (Page m next) events
FitsAt r (Head m wanted) moved y events last =
    Going r moved y events last × Looking r m.row y last × HeadFits r.zone r.command m wanted.name events
    × Heard r (Head m wanted) events
FitsAt r (Suggest m s) moved y events last =
    Going r moved y events last × Looking r m.row y last × MergingFits r.zone r.command m m.used_up events
    × Heard r (Suggest m s) events
FitsAt r Broken moved y events last = Unit {0}
FitsAt r (Ended outcome) moved y events last = IsListOutcome r outcome y events

-- the zone is one of the realm's, and the task stands where the actor's own events bring it
abbrev pub fits : ListTask → SettingsView → DoorView → Type 0
fits t settings d =
    (1 ≤ t.request.zone) × (t.request.zone ≤ settings.zones)
    × FitsAt t.request t.stage t.moved (account_of settings d.seen (actor_at d)) (own_events d.seen (actor_at d)) (length d.seen)

-- where the task stands
abbrev pub stage_of : ListTask → Stage
stage_of t = t.stage

-- what the task is asked
abbrev pub request_of : ListTask → ListRequest
request_of t = t.request

-- how an answer brings the task on, also where nothing is told
pub record Steps (t u : ListTask) : Type 0 where
  pub looked : t.stage ≡ Look None → IsPast u.stage
  pub sound : IsSound u.stage
