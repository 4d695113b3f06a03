-- Where a request for a container stands among its actor's own events.
use Rattle.std.specs.Prelude.{◌≡◌, ℕ, ◌<◌, ◌≤◌, true, false, List, [], ◌∷◌, ◌++◌, map, length, Option, Some, None}
use Rattle.std.specs.List.{range_with_len}
use Rattle.object_words.specs.declared.bucket.Bucket.{Bucket}
use Rattle.object_words.specs.Keys.{shard_key}
use Rattle.object_words.specs.Limits.{is_name, shard_limit}
use Rattle.object_words.specs.Names.{at}
use Rattle.realm_model.specs.Accounts.{Looked, Account}
use Rattle.realm_model.specs.Doors.{DoorView, actor_at}
use Rattle.realm_model.specs.Histories.{account_of, phase_of}
use Rattle.realm_model.specs.Owns.{OwnEvent, own_events, learnt_from}
use Rattle.realm_model.specs.Phases.{OwnNumber, Phase, fresh}
use Rattle.realm_model.specs.Settings.{SettingsView, IsBetween}
use Rattle.realm_model.specs.declared.op.Op.{Op}
use Rattle.task_words.specs.Outcomes.{most_moved, left_count}
use Rattle.task_container.specs.declared.progress.Stage.{Stage}
use Rattle.task_container.specs.declared.progress.Stage.TheVariants.{Look, Count, MakeShard, Make, Change, Begin, Close, Remove, LookToRemove, Shut, Clear, LookToClear, Release, Ended}
use Rattle.task_container.specs.declared.progress.Tally.{Tally}
use Rattle.task_container.specs.declared.request.ContainerRequest.{ContainerRequest}
use Rattle.task_container.specs.declared.task.ContainerTask.{ContainerTask}
use Rattle.task_container.specs.Counts.{CountedBy}
use Rattle.task_container.specs.Ends.{made_shards, done_swaps, last_number, raced_count, known_row, KeepsRows, Showed, IsStopped, IsContainerOutcome, TouchesNoHead}
use Rattle.task_container.specs.Orders.{IsContainerSoFar, led}
use Rattle.task_container.specs.Requests.{name_of, IsHead, IsPut, IsDelete, IsChanger}
use Rattle.task_container.specs.Stages.{begun, op_of, most_raced, swap_op}
use Rattle.task_container.specs.Closings.{own_number}
use Rattle.task_container.specs.declared.closing.Closing.{Closing}
use Rattle.task_container.specs.declared.closing.Due.{Due}
use Rattle.task_container.specs.declared.closing.Due.TheVariants as dues
use Rattle.task_container.specs.declared.closing.OwnClosing.{OwnClosing}
use Rattle.task_container.specs.declared.request.ContainerCommand.{ContainerCommand}
use Rattle.task_container.specs.declared.request.ContainerCommand.TheVariants.{Head, Put, Delete}
use Rattle.realm_model.specs.Needs.{may_release}
use Rattle.realm_model.specs.declared.op.Op.TheVariants.{Shut as shut_op}
use Rattle.realm_model.specs.declared.event.Reply.TheVariants as replies
use Rattle.object_words.specs.declared.why.Why.TheVariants as whys
use Rattle.object_words.specs.Numbers.{greatest}

-- ---- the own events so far

-- the first own event has this number, and so many shards were made under it, which are in no row
pub record IsMaker (id made : ℕ) (p : Phase) (events : List OwnEvent) : Type 0 where
  pub look : OwnEvent
  pub more : List OwnEvent
  pub stands : events ≡ look ∷ more
  pub number : look.number ≡ id
  pub clock : ℕ
  pub first : p.first ≡ Some (record { number = id; clock = clock })
  pub counts : (p.shards 1 id).made ≡ made
  pub filled : (p.shards 1 id).filled ≡ false
  pub placed : (p.shards 1 id).placed ≡ false
  pub makes : made_shards events ≡ map (λ n. shard_key id id n) (range_with_len 0 made)

-- no own event came yet
pub record IsUnused (made : ℕ) (p : Phase) (events : List OwnEvent) : Type 0 where
  pub unknowing : p ≡ fresh
  pub no_events : events ≡ []
  pub none_made : made ≡ 0

abbrev pub Starts : Option ℕ → ℕ → Phase → List OwnEvent → Type 0
Starts None made p events = IsUnused made p events
Starts (Some id) made p events = IsMaker id made p events

-- of a PUT alone
abbrev pub OfPut : ContainerCommand → Type 0 → Type 0
OfPut (Put name changes) X = X
OfPut command X = Unit {0}

-- so many answers were Moved or Closed
abbrev pub MovedIs : ContainerCommand → ℕ → Account → List OwnEvent → Type 0
MovedIs (Head name) n y events = y.moved.count ≡ n
MovedIs (Delete name) n y events = left_count events ≡ n
MovedIs command n y events = Unit {0}

-- an own swap set the number for a closing
pub record HasSet (own : OwnClosing) (p : Phase) : Type 0 where
  pub work : OwnNumber
  pub begun : (p.work 1 own.container own.instance).begun own.number ≡ Some work
  pub closing : work.closing ≡ true

abbrev pub HasSetIfAny : Option OwnClosing → Phase → Type 0
HasSetIfAny None p = Unit {0}
HasSetIfAny (Some own) p = HasSet own p

-- so many answers were Moved or Closed, the last of them by an event not above this number, and so many were Raced; nothing
-- was done yet that lasts
pub record Going (command : ContainerCommand) (t : Tally) (p : Phase) (y : Account) (events : List OwnEvent) (last : ℕ) : Type 0 where
  pub starts : OfPut command (Starts t.first t.made p events)
  pub moved_is : MovedIs command t.moved y events
  pub few : t.moved < most_moved
  pub moved_before : y.moved.last ≤ last
  pub raced_is : raced_count events ≡ t.raced
  pub few_raced : t.raced < most_raced
  pub kept : KeepsRows command events
  pub begun_is : last_number None (done_swaps events) ≡ t.begun
  pub set : HasSetIfAny t.begun p

-- ---- what the last own read showed

-- the last own read of a row showed this one, after the last answer Moved or Closed
pub record Looking (zone : ℕ) (name : List ℕ) (row : Bucket) (y : Account) (last : ℕ) : Type 0 where
  pub look : Looked
  pub is_last : y.looked ≡ Some look
  pub in_zone : look.zone ≡ zone
  pub under_name : look.name ≡ name
  pub showed : look.row ≡ Some row
  pub later : y.moved.last < look.number
  pub before : look.number ≤ last

-- the last own read of a row in zone 1 showed this one, or none
pub record HasRead (name : List ℕ) (row : Option Bucket) (p : Phase) (y : Account) : Type 0 where
  pub showed : Showed name row y.looked
  pub number : ℕ
  pub read : at (p.rows 1) name ≡ Some (record { row = row; at = number })

-- ---- closings

-- this row is known of the name, as the last own read showed it or own swap left it
pub record HasRow (name : List ℕ) (row : Bucket) (p : Phase) : Type 0 where
  pub number : ℕ
  pub read : at (p.rows 1) name ≡ Some (record { row = Some row; at = number })

-- the number is set in the row
pub record IsSetIn (c : Closing) : Type 0 where
  pub busy : c.row.busy ≡ Some (record { number = c.number; closing = true })

-- the last own swap set the number, and the first shards were closed under it
pub record Closes (c : Closing) (t : Tally) (p : Phase) : Type 0 where
  pub mine : t.begun ≡ Some (own_number c)
  pub work : OwnNumber
  pub begun : (p.work 1 c.row.id c.row.instance).begun c.number ≡ Some work
  pub closing : work.closing ≡ true
  pub closed : (n : ℕ) → n < c.closed → work.closed n ≡ true

-- why the closing is given up
abbrev pub IsDue : Due → List OwnEvent → Type 0
IsDue (dues.NotEmpty name) events = IsStopped (whys.NotEmpty name) events
IsDue (dues.Unsettled name) events = IsStopped (whys.Unsettled name) events
IsDue (dues.Held id) events = IsStopped (whys.Held id) events
IsDue dues.Fenced events = Unit {0}

-- each shard may be released
abbrev pub MayRelease : Closing → Phase → Type 0
MayRelease c p = (n : ℕ) → may_release p 1 (shard_key c.row.id c.row.instance n) c.number ≡ true

-- the row was taken away, and its first shards were shut
pub record HasShut (r : ContainerRequest) (row : Bucket) (shard : ℕ) (events : List OwnEvent) : Type 0 where
  pub before : List OwnEvent
  pub remove : OwnEvent
  pub shuts : List OwnEvent
  pub stands : events ≡ before ++ remove ∷ shuts
  pub known : known_row (name_of r.command) before ≡ Some row
  pub own : row.owner ≡ r.asker.account
  pub removes : remove.op ≡ swap_op r row.version None
  pub done : remove.reply ≡ replies.Done
  pub shut : map (λ e. e.op) shuts ≡ map (λ n. shut_op 1 (shard_key row.id row.instance n)) (range_with_len 0 shard)

-- ---- stages

-- the stage is what the own events came to, of which the last has at most this number
abbrev pub FitsAt : ContainerRequest → ℕ → Stage → Tally → Phase → Account → List OwnEvent → ℕ → Type 0
FitsAt r shards Look t p y events last = Going r.command t p y events last × (t.made ≤ shards)
FitsAt r shards (Count c) t p y events last =
    Going r.command t p y events last × IsHead r.command × Looking r.zone (name_of r.command) c.row y last × (c.next < c.row.shards)
    × CountedBy r.zone r.asker (name_of r.command) c.row c.next c.objects c.bytes events × (t.made ≤ shards)
FitsAt r shards MakeShard t p y events last =
    Going r.command t p y events last × IsPut r.command × HasRead (name_of r.command) None p y × ((id : ℕ) × (t.first ≡ Some id)) × (t.made < shards)
FitsAt r shards Make t p y events last =
    Going r.command t p y events last × IsPut r.command × HasRead (name_of r.command) None p y × ((id : ℕ) × (t.first ≡ Some id)) × (t.made ≡ shards)
FitsAt r shards (Change row) t p y events last =
    Going r.command t p y events last × IsChanger r.command × HasRead (name_of r.command) (Some row) p y × (row.owner ≡ r.asker.account) × (t.made ≤ shards)
FitsAt r shards (Begin row) t p y events last =
    Going r.command t p y events last × IsDelete r.command × HasRow (name_of r.command) row p × (row.owner ≡ r.asker.account) × (row.busy ≡ None) × (row.number < greatest) × (t.made ≤ shards)
FitsAt r shards (Close c) t p y events last =
    Going r.command t p y events last × IsDelete r.command × Closes c t p × HasRow (name_of r.command) c.row p × IsSetIn c × (c.row.owner ≡ r.asker.account) × (c.closed < c.row.shards) × (t.made ≤ shards)
FitsAt r shards (Remove c) t p y events last =
    Going r.command t p y events last × IsDelete r.command × Closes c t p × HasRow (name_of r.command) c.row p × IsSetIn c × (c.row.owner ≡ r.asker.account) × (c.closed ≡ c.row.shards) × (t.made ≤ shards)
FitsAt r shards (LookToRemove c) t p y events last =
    Going r.command t p y events last × IsDelete r.command × Closes c t p × (c.closed ≡ c.row.shards) × (t.made ≤ shards)
FitsAt r shards (Shut row shard) t p y events last =
    IsDelete r.command × ((p.work 1 row.id row.instance).removed ≡ Some row.shards) × (shard < row.shards) × HasShut r row shard events
FitsAt r shards (Clear c due) t p y events last =
    Going r.command t p y events last × IsDelete r.command × Closes c t p × HasRow (name_of r.command) c.row p × IsSetIn c × IsDue due events × (t.made ≤ shards)
FitsAt r shards (LookToClear c due) t p y events last =
    Going r.command t p y events last × IsDelete r.command × Closes c t p × IsDue due events × (t.made ≤ shards)
FitsAt r shards (Release c shard due) t p y events last =
    Going r.command t p y events last × IsDelete r.command × MayRelease c p × IsDue due events × (shard < c.closed) × (t.made ≤ shards)
FitsAt r shards (Ended outcome) t p y events last = IsContainerOutcome r outcome shards y events

-- the request is one of the realm, its own events came in order, and brought it where it stands
pub record FitsSo (task : ContainerTask) (settings : SettingsView) (p : Phase) (y : Account) (events : List OwnEvent) (last : ℕ) : Type 0 where
  pub low : 1 ≤ task.request.zone
  pub high : task.request.zone ≤ settings.zones
  pub named : is_name 256 (name_of task.request.command) ≡ true
  pub shards_are : task.shards ≡ settings.shards
  pub within : IsBetween 1 shard_limit settings.shards
  pub ordered : IsContainerSoFar task.request settings events
  pub led_here : task.progress ≡ led task.request settings.shards begun events
  pub headless : TouchesNoHead y
  pub learnt_all : p ≡ learnt_from fresh events
  pub stands : FitsAt task.request settings.shards task.progress.stage task.progress.tally p y events last

abbrev pub fits : ContainerTask → SettingsView → DoorView → Type 0
fits task settings d = FitsSo task settings (phase_of settings d.seen (actor_at d)) (account_of settings d.seen (actor_at d)) (own_events d.seen (actor_at d)) (length d.seen)

-- where the task stands
abbrev pub stage_of : ContainerTask → Stage
stage_of task = task.progress.stage

-- what the task is asked
abbrev pub request_of : ContainerTask → ContainerRequest
request_of task = task.request

-- the operation that comes next
abbrev pub next_op : ContainerTask → Op
next_op task = op_of task.request task.shards task.progress
