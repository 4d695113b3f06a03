-- What the end of a task of an account means: the order of its own events, and what they came to.
use Rattle.std.specs.Prelude.{◌≡◌, ◌⊎◌, ℕ, ◌<◌, ◌≤◌, true, false, List, [], ◌∷◌, ◌++◌, Some, None}
use Rattle.realm_model.specs.Settings.{SettingsView}
use Rattle.realm_model.specs.Accounts.{Account}
use Rattle.realm_model.specs.Histories.{account_of}
use Rattle.realm_model.specs.Doors.{DoorView, actor_at}
use Rattle.realm_model.specs.Owns.{OwnEvent, own_events}
use Rattle.realm_model.specs.declared.event.Reply.{Reply}
use Rattle.task_account.specs.declared.asked.Asked.{Asked}
use Rattle.list_words.specs.Listings.{is_before}
use Rattle.task_words.specs.Outcomes.{most_moved, left_count}
use Rattle.task_account.specs.declared.asked.Place.TheVariants.{Due}
use Rattle.task_account.specs.declared.reply.AccountReply.{AccountReply}
use Rattle.task_account.specs.declared.reply.AccountOutcome.{AccountOutcome}
use Rattle.task_account.specs.declared.request.AccountRequest.{AccountRequest}
use Rattle.task_account.specs.declared.stage.Stage.{Stage}
use Rattle.task_account.specs.declared.stage.Stage.TheVariants.{Page, Look, Count, Broken, Ended}
use Rattle.task_account.specs.declared.stage.Visit.{Visit}
use Rattle.task_account.specs.declared.task.AccountTask.{AccountTask}
use Rattle.task_account.specs.Asking.{asked_of, command_of, IsStart, empty_reply, is_full, place_of}
use Rattle.task_account.specs.Counts.{names_of, last_row, CountedBy, Tally, IsUntouched, IsAccountOutcome}
use Rattle.task_account.specs.Stages.{IsOpen, op_of, step_of}

-- ---- the order of events

-- where events bring a stage, and the count of answers Moved or Closed
abbrev pub stage_after : List ℕ → Asked → Stage × ℕ → List OwnEvent → Stage × ℕ
stage_after account asked at [] = at
stage_after account asked at (e ∷ events) =
    stage_after account asked (step_of account asked at.0 at.1 e.reply) events

-- each event is the operation that comes next at its stage
abbrev pub IsWalk : ℕ → List ℕ → Asked → Stage × ℕ → List OwnEvent → Type 0
IsWalk zone account asked at [] = Unit {0}
IsWalk zone account asked at (e ∷ events) =
    (IsOpen at.0 × (e.op ≡ op_of zone account at.0))
    × IsWalk zone account asked (step_of account asked at.0 at.1 e.reply) events

-- the first page comes next, above this text
abbrev pub first_stage : Asked → List ℕ → Stage × ℕ
first_stage asked start = (Page (empty_reply asked) start, 0)

-- where the events bring the request, whose first page is above this text
abbrev pub stands_at : AccountRequest → List ℕ → List OwnEvent → Stage × ℕ
stands_at r start events = stage_after r.account (asked_of r.command) (first_stage (asked_of r.command) start) events

-- the events are those of the request, in their order, as far as it came
pub record IsAccountSoFar (r : AccountRequest) (events : List OwnEvent) : Type 0 where
  pub start : List ℕ
  pub begins : IsStart (asked_of r.command) start
  pub in_order : IsWalk r.zone r.account (asked_of r.command) (first_stage (asked_of r.command) start) events

-- ---- the task

-- what the task is asked
abbrev pub request_of : AccountTask → AccountRequest
request_of t = record { zone = t.zone; account = t.account; command = command_of t.asked }

-- where the task stands
abbrev pub stage_of : AccountTask → Stage
stage_of t = t.stage

-- the stage is where the events bring the request, unless there was no memory to go on
abbrev pub StandsAt : AccountRequest → List ℕ → Stage → ℕ → List OwnEvent → Type 0
StandsAt r start stage moved events = (stage ≡ Broken) ⊎ ((stage, moved) ≡ stands_at r start events)

-- ---- what the own events came to

-- each name is above the one before it, and the first above that one
abbrev pub Rises : List ℕ → List (List ℕ) → Type 0
Rises from [] = Unit {0}
Rises from (name ∷ names) = (is_before from name ≡ true) × Rises name names

-- the last of the names, or that one where there are none
abbrev pub last_in : List ℕ → List (List ℕ) → List ℕ
last_in from [] = from
last_in from (name ∷ names) = last_in name names

-- no name above this one was read
abbrev pub AreUnread : List ℕ → List OwnEvent → Type 0
AreUnread last events = (name : List ℕ) → is_before last name ≡ true → last_row name events ≡ None

-- names rise over all pages, so many answers were Moved or Closed, and no head was touched
pub record Going (start : List ℕ) (moved : ℕ) (y : Account) (events : List OwnEvent) : Type 0 where
  pub rise : Rises start (names_of events)
  pub moved_is : left_count events ≡ moved
  pub few : moved < most_moved
  pub untouched : IsUntouched y

-- all names of the pages were passed, and this is the last
pub record Paging (r : AccountRequest) (start : List ℕ) (reply : AccountReply) (last : List ℕ) (events : List OwnEvent) : Type 0 where
  pub tally : Tally r.zone r.account (asked_of r.command) reply (names_of events) events
  pub is_last : last ≡ last_in start (names_of events)
  pub unread : AreUnread last events

-- the names of the pages before that of the visit were passed, and those behind it were not read
pub record Visiting (r : AccountRequest) (v : Visit) (events : List OwnEvent) : Type 0 where
  pub passed : List (List ℕ)
  pub pages : names_of events ≡ passed ++ v.name ∷ v.left.rest
  pub tally : Tally r.zone r.account (asked_of r.command) v.reply passed events
  pub room : is_full (asked_of r.command) v.reply ≡ false
  pub due : place_of (asked_of r.command) v.reply v.name ≡ Due v.subdir
  pub unread : AreUnread v.name events

-- the stage is what the own events came to
abbrev pub FitsAt : AccountRequest → List ℕ → Stage → ℕ → Account → List OwnEvent → Type 0
FitsAt r start (Page reply last) moved y events = Going start moved y events × Paging r start reply last events
FitsAt r start (Look v) moved y events = Going start moved y events × Visiting r v events
FitsAt r start (Count v c) moved y events =
    Going start moved y events × Visiting r v events × (v.subdir ≡ None) × (c.next < c.row.shards)
    × CountedBy r.zone r.account v.name c.row c.next c.objects c.bytes events × (last_row v.name events ≡ Some c.row)
FitsAt r start Broken moved y events = Unit {0}
FitsAt r start (Ended outcome) moved y events = IsAccountOutcome r outcome y events

-- the own events are those of the request, in their order, and the stage is where they bring it
pub record Fits (r : AccountRequest) (stage : Stage) (moved : ℕ) (y : Account) (events : List OwnEvent) : Type 0 where
  pub so_far : IsAccountSoFar r events
  pub stands : StandsAt r so_far.start stage moved events
  pub told : FitsAt r so_far.start stage moved y events

-- the end: the own events are those of the request, in their order and to their end, and the outcome is what they came to
pub record IsAccountEnd (r : AccountRequest) (outcome : AccountOutcome) (y : Account) (events : List OwnEvent) : Type 0 where
  pub so_far : IsAccountSoFar r events
  pub ends : (stands_at r so_far.start events).0 ≡ Ended outcome
  pub is_outcome : IsAccountOutcome r outcome y events

-- the zone is one of the realm's, and the task stands where the actor's own events bring it, which are its own
abbrev pub fits : AccountTask → SettingsView → DoorView → Type 0
fits t settings d =
    (1 ≤ t.zone) × (t.zone ≤ settings.zones) × (t.asked ≡ asked_of (command_of t.asked))
    × Fits (request_of t) t.stage t.moved (account_of settings d.seen (actor_at d)) (own_events d.seen (actor_at d))

-- how an answer brings the task on, also where nothing is told
pub record Steps (t u : AccountTask) : Type 0 where
  pub reply : Reply
  pub took : (u.stage ≡ Broken) ⊎ ((u.stage, u.moved) ≡ step_of t.account t.asked t.stage t.moved reply)
  pub same : u.asked ≡ t.asked
