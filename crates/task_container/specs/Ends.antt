-- What the end of a request for a container means: which of the actor's own events, and which answers to them, it rests on.
use Rattle.std.specs.Prelude.{◌≡◌, ◌≢◌, ◌⊎◌, ◌+◌, ℕ, false, true, List, [], ◌∷◌, ◌++◌, map, Option, Some, None}
use Rattle.std.specs.List.{AllByRecursion, range_with_len}
use Rattle.rgw_types.specs.declared.pool_key.Key.{Key}
use Rattle.object_words.specs.declared.bucket.Bucket.{Bucket}
use Rattle.object_words.specs.declared.bucket.Busy.{Busy}
use Rattle.object_words.specs.declared.why.Why.{Why}
use Rattle.object_words.specs.declared.why.Why.TheVariants as whys
use Rattle.object_words.specs.declared.why.Why.TheVariants.{Raced}
use Rattle.object_words.specs.Keys.{shard_key}
use Rattle.realm_model.specs.Accounts.{Looked, Account}
use Rattle.realm_model.specs.Owns.{OwnEvent, learnt_from}
use Rattle.realm_model.specs.Learnt.{row_known}
use Rattle.realm_model.specs.Phases.{fresh}
use Rattle.realm_model.specs.Settings.{SettingsView}
use Rattle.realm_model.specs.Steps.{row_reply}
use Rattle.realm_model.specs.declared.op.Op.{Op}
use Rattle.realm_model.specs.declared.op.Op.TheVariants.{BucketRead, BucketSwap, ShardMake, CloseShard, Shut}
use Rattle.realm_model.specs.declared.event.Reply.{Reply}
use Rattle.realm_model.specs.declared.event.Reply.TheVariants as replies
use Rattle.swift_auth.specs.declared.policy.Deed.TheVariants.{ListContainer}
use Rattle.swift_auth.specs.Policies.{found_under}
use Rattle.task_words.specs.declared.reply.Refusal.{Refusal}
use Rattle.task_words.specs.declared.reply.Refusal.TheVariants.{Unauthorized, Denied, NoContainer}
use Rattle.task_words.specs.Outcomes.{most_moved, left_count, ByRow as RefusedByRow, Granted}
use Rattle.task_container.specs.declared.closing.OwnClosing.{OwnClosing}
use Rattle.task_container.specs.declared.outcome.ContainerOutcome.{ContainerOutcome}
use Rattle.task_container.specs.declared.outcome.ContainerOutcome.TheVariants.{Done, Busy as busy_end, MovedOften, RacedOften}
use Rattle.task_container.specs.declared.outcome.ContainerRefusal.TheVariants.{ByRow, NotYours, NotEmpty, Unsettled}
use Rattle.task_container.specs.declared.outcome.ContainerReply.{ContainerReply}
use Rattle.task_container.specs.declared.outcome.ContainerReply.TheVariants.{Counted, Made, Accepted, Changed, Removed, Refused}
use Rattle.task_container.specs.declared.request.ContainerCommand.{ContainerCommand}
use Rattle.task_container.specs.declared.request.ContainerCommand.TheVariants.{Head, Put, Post, Delete}
use Rattle.task_container.specs.declared.request.ContainerRequest.{ContainerRequest}
use Rattle.task_container.specs.Closings.{owns}
use Rattle.task_container.specs.Counts.{CountedBy}
use Rattle.task_container.specs.Orders.{IsContainerSoFar, IsEndedBy}
use Rattle.task_container.specs.Requests.{name_of, changes_of, is_nothing, IsHead, IsPut, IsPost, IsDelete}
use Rattle.task_container.specs.Rows.{changed, new_row}
use Rattle.task_container.specs.Stages.{most_raced, swap_op}

-- ---- the own events

-- the number of the first
abbrev pub first_number : List OwnEvent → Option ℕ
first_number [] = None
first_number (e ∷ es) = Some e.number

abbrev pub made_by : Op → Reply → List Key
made_by (ShardMake zone key) replies.Done = key ∷ []
made_by op reply = []

-- the shards that were made
abbrev pub made_shards : List OwnEvent → List Key
made_shards [] = []
made_shards (e ∷ es) = made_by e.op e.reply ++ made_shards es

abbrev pub swapped_by : Op → Reply → List (Option Bucket)
swapped_by (BucketSwap zone name expected new) replies.Done = new ∷ []
swapped_by op reply = []

-- the new rows of the swaps that were done
abbrev pub done_swaps : List OwnEvent → List (Option Bucket)
done_swaps [] = []
done_swaps (e ∷ es) = swapped_by e.op e.reply ++ done_swaps es

abbrev pub raced_by : Op → Reply → ℕ
raced_by (BucketSwap zone name expected new) (replies.No (Raced version)) = 1
raced_by op reply = 0

-- how many swaps were answered Raced
abbrev pub raced_count : List OwnEvent → ℕ
raced_count [] = 0
raced_count (e ∷ es) = raced_by e.op e.reply + raced_count es

-- the number that is set in the row that a swap left
abbrev pub number_in : Bucket → Option Busy → Option OwnClosing
number_in row None = None
number_in row (Some busy) = Some (record { container = row.id; instance = row.instance; number = busy.number })

abbrev pub number_set : Option Bucket → Option OwnClosing
number_set None = None
number_set (Some row) = number_in row row.busy

-- the number that the last of these swaps set, where it set one
abbrev pub last_number : Option OwnClosing → List (Option Bucket) → Option OwnClosing
last_number before [] = before
last_number before (new ∷ news) = last_number (number_set new) news

-- a row is left
abbrev pub IsLeft : Option Bucket → Type 0
IsLeft None = ⊥
IsLeft (Some row) = Unit {0}

-- no swap that was done took the row away
abbrev pub IsNeverRemoved : List OwnEvent → Type 0
IsNeverRemoved events = AllByRecursion IsLeft (done_swaps events)

-- one of the events closed no shard of zone 1, for this reason
pub record IsStopped (why : Why) (events : List OwnEvent) : Type 0 where
  pub before : List OwnEvent
  pub stop : OwnEvent
  pub later : List OwnEvent
  pub stands : events ≡ before ++ stop ∷ later
  pub key : Key
  pub number : ℕ
  pub closes : stop.op ≡ CloseShard 1 key number false
  pub refused : stop.reply ≡ replies.No why

-- the row that these events leave known to their actor: as the last read showed it, or the last swap left it
abbrev pub known_row : List ℕ → List OwnEvent → Option Bucket
known_row name events = row_known ((learnt_from fresh events).rows 1) name

-- the last event is of this operation, and was done
pub record EndsWith (op : Op) (events : List OwnEvent) : Type 0 where
  pub before : List OwnEvent
  pub last : OwnEvent
  pub stands : events ≡ before ++ last ∷ []
  pub is : last.op ≡ op
  pub done : last.reply ≡ replies.Done

-- the last event is a read of this name in zone 1 that showed this row, or none
pub record EndsReading (name : List ℕ) (row : Option Bucket) (events : List OwnEvent) : Type 0 where
  pub before : List OwnEvent
  pub last : OwnEvent
  pub stands : events ≡ before ++ last ∷ []
  pub is : last.op ≡ BucketRead 1 name
  pub told : last.reply ≡ row_reply row

-- the last own read of a row was of this name in zone 1, and showed this one, or none
pub record Showed (name : List ℕ) (row : Option Bucket) (last : Option Looked) : Type 0 where
  pub number : ℕ
  pub is_last : last ≡ Some (record { zone = 1; name = name; row = row; number = number })

-- ---- replies

-- the shards of a new container were made, and then its row with what was sent, where none was: under the number of the
-- first event
pub record IsMade (r : ContainerRequest) (shards : ℕ) (y : Account) (events : List OwnEvent) : Type 0 where
  pub id : ℕ
  pub first : first_number events ≡ Some id
  pub showed : Showed (name_of r.command) None y.looked
  pub made : made_shards events ≡ map (λ n. shard_key id id n) (range_with_len 0 shards)
  pub swapped : EndsWith (swap_op r 0 (Some (new_row r shards id))) events
  pub only : done_swaps events ≡ Some (new_row r shards id) ∷ []

-- a row of the account was changed by what was sent
pub record IsChanged (r : ContainerRequest) (y : Account) (events : List OwnEvent) : Type 0 where
  pub row : Bucket
  pub showed : Showed (name_of r.command) (Some row) y.looked
  pub own : row.owner ≡ r.asker.account
  pub swapped : EndsWith (swap_op r row.version (Some (changed row (changes_of r.command)))) events
  pub only : done_swaps events ≡ Some (changed row (changes_of r.command)) ∷ []

-- there was a row of the account, and nothing was done
pub record IsKept (r : ContainerRequest) (events : List OwnEvent) : Type 0 where
  pub row : Bucket
  pub showed : EndsReading (name_of r.command) (Some row) events
  pub own : row.owner ≡ r.asker.account
  pub none : done_swaps events ≡ []

-- there was a row of another account, and nothing was done
pub record IsOfAnother (r : ContainerRequest) (events : List OwnEvent) : Type 0 where
  pub row : Bucket
  pub showed : EndsReading (name_of r.command) (Some row) events
  pub other : row.owner ≢ r.asker.account
  pub none : done_swaps events ≡ []

-- nothing was done that lasts: of a DELETE no row was taken away, else no row was swapped
abbrev pub KeepsRows : ContainerCommand → List OwnEvent → Type 0
KeepsRows (Delete name) events = IsNeverRemoved events
KeepsRows command events = done_swaps events ≡ []

-- there was no row of the account, and nothing was done that lasts
pub record IsMissing (r : ContainerRequest) (events : List OwnEvent) : Type 0 where
  pub row : Option Bucket
  pub showed : EndsReading (name_of r.command) row events
  pub missing : found_under r.asker.account row ≡ None
  pub kept : KeepsRows r.command events

-- a row of the account was taken away, and then each of its shards was shut, by rising number
pub record IsRemoved (r : ContainerRequest) (events : List OwnEvent) : Type 0 where
  pub before : List OwnEvent
  pub remove : OwnEvent
  pub shuts : List OwnEvent
  pub stands : events ≡ before ++ remove ∷ shuts
  pub row : Bucket
  pub known : known_row (name_of r.command) before ≡ Some row
  pub own : row.owner ≡ r.asker.account
  pub removes : remove.op ≡ swap_op r row.version None
  pub done : remove.reply ≡ replies.Done
  pub shut : map (λ e. e.op) shuts ≡ map (λ n. Shut 1 (shard_key row.id row.instance n)) (range_with_len 0 row.shards)

-- the last event is a read of a row of the account in which another number is set than the last own swap set
pub record IsBusy (r : ContainerRequest) (id : ℕ) (events : List OwnEvent) : Type 0 where
  pub row : Bucket
  pub showed : EndsReading (name_of r.command) (Some row) events
  pub own : row.owner ≡ r.asker.account
  pub busy : Busy
  pub set : row.busy ≡ Some busy
  pub number : busy.number ≡ id
  pub other : owns (last_number None (done_swaps events)) row busy ≡ false

-- nothing was sent, or the row was changed by what was
abbrev pub IsAccepted : ContainerCommand → ContainerRequest → Account → List OwnEvent → Type 0
IsAccepted (Put name changes) r y events =
    ((is_nothing changes ≡ true) × IsKept r events) ⊎ ((is_nothing changes ≡ false) × IsChanged r y events)
IsAccepted command r y events = ⊥

-- a HEAD is refused by the row that the last own read showed
abbrev pub IsHeadRefused : ContainerRequest → Refusal → Account → Type 0
IsHeadRefused r refusal y = IsHead r.command × RefusedByRow r.zone r.asker (name_of r.command) ListContainer refusal y

-- no such container
abbrev pub IsNotFound : ContainerCommand → ContainerRequest → Account → List OwnEvent → Type 0
IsNotFound (Head name) r y events = RefusedByRow r.zone r.asker name ListContainer NoContainer y
IsNotFound (Put name changes) r y events = ⊥
IsNotFound (Post name changes) r y events = IsMissing r events
IsNotFound (Delete name) r y events = IsMissing r events

-- what a reply rests on
abbrev pub IsContainerReply : ContainerRequest → ContainerReply → ℕ → Account → List OwnEvent → Type 0
IsContainerReply r (Counted row objects bytes) shards y events =
    CountedBy r.zone r.asker (name_of r.command) row row.shards objects bytes events × IsHead r.command
IsContainerReply r Made shards y events = IsPut r.command × IsMade r shards y events
IsContainerReply r Accepted shards y events = IsAccepted r.command r y events
IsContainerReply r Changed shards y events = IsPost r.command × IsChanged r y events
IsContainerReply r (Refused (ByRow Unauthorized)) shards y events = IsHeadRefused r Unauthorized y
IsContainerReply r (Refused (ByRow (Denied rule))) shards y events = IsHeadRefused r (Denied rule) y
IsContainerReply r (Refused (ByRow NoContainer)) shards y events = IsNotFound r.command r y events
IsContainerReply r (Refused NotYours) shards y events = IsPut r.command × IsOfAnother r events
IsContainerReply r (Refused (NotEmpty name)) shards y events =
    IsDelete r.command × IsStopped (whys.NotEmpty name) events × IsNeverRemoved events
IsContainerReply r (Refused (Unsettled name)) shards y events =
    IsDelete r.command × IsStopped (whys.Unsettled name) events × IsNeverRemoved events
IsContainerReply r Removed shards y events = IsDelete r.command × IsRemoved r events
IsContainerReply r (Refused (ByRow refusal)) shards y events = ⊥

-- 16 answers were Moved or Closed: of a HEAD, which the row grants, each on a shard that an own read after the one before had
-- named
abbrev pub IsMovedOften : ContainerCommand → ContainerRequest → Account → List OwnEvent → Type 0
IsMovedOften (Head name) r y events = Granted r.zone r.asker name ListContainer y × (y.moved.count ≡ most_moved)
IsMovedOften (Delete name) r y events = (left_count events ≡ most_moved) × IsNeverRemoved events
IsMovedOften command r y events = ⊥

-- the end of a request, where a new container has so many shards
abbrev pub IsContainerOutcome : ContainerRequest → ContainerOutcome → ℕ → Account → List OwnEvent → Type 0
IsContainerOutcome r (Done reply) shards y events = IsContainerReply r reply shards y events
IsContainerOutcome r (busy_end id) shards y events =
    IsDelete r.command × (IsStopped (whys.Held id) events ⊎ IsBusy r id events) × IsNeverRemoved events
IsContainerOutcome r MovedOften shards y events = IsMovedOften r.command r y events
IsContainerOutcome r RacedOften shards y events = (raced_count events ≡ most_raced) × KeepsRows r.command events

-- no head was read or changed
abbrev pub TouchesNoHead : Account → Type 0
TouchesNoHead y = (y.decided ≡ None) × (y.changes ≡ 0)

-- the own events are this request's, in order, to this end, and what the end says of them
pub record IsContainerEnd (r : ContainerRequest) (outcome : ContainerOutcome) (settings : SettingsView) (y : Account) (events : List OwnEvent) : Type 0 where
  pub ordered : IsContainerSoFar r settings events
  pub ended : IsEndedBy r settings outcome events
  pub right : IsContainerOutcome r outcome settings.shards y events
  pub headless : TouchesNoHead y
