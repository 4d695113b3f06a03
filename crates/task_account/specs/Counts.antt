-- What the own events of a request for an account say of its containers (OpenStack Object Storage API v1, accounts).
use Rattle.std.specs.Prelude.{◌≡◌, ℕ, ◌≤◌, min, bytes_eq, Bool, true, false, List, [], ◌∷◌, ◌++◌, map, flat_map, filter, sum_by, length, Option, Some, None, if◌then◌else◌}
use Rattle.std.specs.List.{AllByRecursion, range_with_len}
use Rattle.object_words.specs.declared.bucket.Bucket.{Bucket}
use Rattle.object_words.specs.declared.shard.ShardStats.{ShardStats}
use Rattle.object_words.specs.Numbers.{greatest}
use Rattle.object_words.specs.Rows.{RowView}
use Rattle.realm_model.specs.Accounts.{Account}
use Rattle.realm_model.specs.Owns.{OwnEvent}
use Rattle.realm_model.specs.Shown.{row_shown}
use Rattle.realm_model.specs.declared.op.Op.{Op}
use Rattle.realm_model.specs.declared.op.Op.TheVariants.{BucketRead}
use Rattle.realm_model.specs.declared.event.Reply.TheVariants.{Row, Stats}
use Rattle.list_words.specs.declared.row.AccountRow.{AccountRow}
use Rattle.list_words.specs.declared.row.ListedRow.{ListedRow}
use Rattle.list_words.specs.declared.row.ListedRow.TheVariants.{Thing, Subdir}
use Rattle.list_words.specs.Listings.{in_scope, subdir_of, thing_of, most_rows, all_rows}
use Rattle.task_words.specs.Outcomes.{most_moved, left_count}
use Rattle.task_account.specs.declared.asked.Asked.{Asked}
use Rattle.task_account.specs.declared.asked.Asked.TheVariants.{Counts, Rows}
use Rattle.task_account.specs.declared.reply.AccountReply.{AccountReply}
use Rattle.task_account.specs.declared.reply.AccountReply.TheVariants.{Counted, Listed}
use Rattle.task_account.specs.declared.reply.AccountOutcome.{AccountOutcome}
use Rattle.task_account.specs.declared.reply.AccountOutcome.TheVariants.{Done, MovedOften}
use Rattle.task_account.specs.declared.request.AccountRequest.{AccountRequest}
use Rattle.task_account.specs.Asking.{asked_of, container_row, subdir_row}
use Rattle.task_account.specs.Stages.{asks_row, asks_header, names_shown}

-- ---- names

-- the names of the own pages, in their order
abbrev pub names_of : List OwnEvent → List (List ℕ)
names_of events = flat_map (λ (e : OwnEvent). names_shown e.reply) events

-- the operation reads the row of the name
abbrev pub is_read_of : List ℕ → Op → Bool
is_read_of name (BucketRead zone other) = bytes_eq name other
is_read_of name op = false

abbrev pub row_after : List ℕ → Option Bucket → OwnEvent → Option Bucket
row_after name row e = if is_read_of name e.op then row_shown e.reply else row

abbrev pub last_row_from : List ℕ → Option Bucket → List OwnEvent → Option Bucket
last_row_from name row [] = row
last_row_from name row (e ∷ events) = last_row_from name (row_after name row e) events

-- the row that the last own read of the name showed, if it was read and there was one
abbrev pub last_row : List ℕ → List OwnEvent → Option Bucket
last_row name events = last_row_from name None events

abbrev pub is_owned : List ℕ → Option Bucket → Bool
is_owned account None = false
is_owned account (Some row) = bytes_eq row.owner account

-- the last own read of the name showed a row of the account
abbrev pub is_found : List ℕ → List OwnEvent → List ℕ → Bool
is_found account events name = is_owned account (last_row name events)

-- those names of the own pages whose last own read showed a row of the account
abbrev pub found_names : List ℕ → List OwnEvent → List (List ℕ) → List (List ℕ)
found_names account events names = filter (is_found account events) names

-- ---- counts

-- the last events are a read of the name's row, which is of the account, and then one read of the header of each of its
-- first shards, by rising number. The counts are the sums over these headers; a sum that does not fit 64 bits is the
-- greatest number that does
pub record CountedBy (zone : ℕ) (account name : List ℕ) (row : Bucket) (shards objects bytes : ℕ) (events : List OwnEvent) : Type 0 where
  pub before : List OwnEvent
  pub look : OwnEvent
  pub counts : List OwnEvent
  pub headers : List ShardStats
  pub stands : events ≡ before ++ look ∷ counts
  pub looks : look.op ≡ asks_row zone name
  pub showed : look.reply ≡ Row row
  pub owned : bytes_eq row.owner account ≡ true
  pub asked : map (λ e. e.op) counts ≡ map (asks_header zone row) (range_with_len 0 shards)
  pub told : map (λ e. e.reply) counts ≡ map (λ s. Stats s) headers
  pub objects_are : objects ≡ min (sum_by (λ s. s.objects) headers) greatest
  pub bytes_are : bytes ≡ min (sum_by (λ s. s.bytes) headers) greatest

-- a container of the account: its name, the subdir under which it is listed, and, where it is listed by itself, its counts
pub record Found : Type 0 where
  pub name : List ℕ
  pub subdir : Option (List ℕ)
  pub objects : ℕ
  pub bytes : ℕ

abbrev pub name_in : Found → List ℕ
name_in f = f.name

-- none of the events reads the row of the name
abbrev pub AreApart : List ℕ → List OwnEvent → Type 0
AreApart name events = AllByRecursion (λ (e : OwnEvent). is_read_of name e.op ≡ false) events

-- the counts are those of all shards of the row that the last own read of the name showed
pub record IsCounted (zone : ℕ) (account : List ℕ) (f : Found) (events : List OwnEvent) : Type 0 where
  pub front : List OwnEvent
  pub later : List OwnEvent
  pub split : events ≡ front ++ later
  pub row : Bucket
  pub by : CountedBy zone account f.name row row.shards f.objects f.bytes front
  pub unread : AreApart f.name later

-- ---- replies

-- the name is asked for, and is listed under its subdir, or by itself
abbrev pub IsPlaced : Asked → Found → Type 0
IsPlaced Counts f = f.subdir ≡ None
IsPlaced (Rows c) f = (in_scope c f.name ≡ true) × (f.subdir ≡ subdir_of c f.name)

-- and where it is listed by itself, its counts are those of its shards
abbrev pub IsFoundIn : ℕ → List ℕ → Asked → List OwnEvent → Found → Type 0
IsFoundIn zone account asked events f = IsPlaced asked f × (f.subdir ≡ None → IsCounted zone account f events)

abbrev pub row_by : Option (List ℕ) → Found → AccountRow
row_by None f = container_row f.name f.objects f.bytes
row_by (Some subdir) f = subdir_row subdir

-- the row of a container, or of its subdir
abbrev pub row_of : Found → AccountRow
row_of f = row_by f.subdir f

-- what a listing of objects would show of any of them
abbrev pub unseen : RowView
unseen = record { exists = true; size = 0; stamp = record { micros = 0; zone = 0 }; etag = []; kind = [] }

-- the name as one of an object
abbrev pub as_live : Found → List ℕ × RowView
as_live f = (f.name, unseen)

-- the row without its counts, as one of a listing of objects
abbrev pub as_listed : AccountRow → ListedRow
as_listed row = if row.subdir then Subdir row.name else Thing row.name (thing_of unseen)

-- the rows are one for each of these containers, and, but for their counts, all those of a listing of objects with these
-- names; and they are not more than the listing asks for. Or the sums are those over all these containers
abbrev pub IsReplyOf : Asked → AccountReply → List Found → Type 0
IsReplyOf (Rows c) (Listed rows) found =
    (rows ≡ map row_of found) × (map as_listed rows ≡ all_rows c (map as_live found)) × (length rows ≤ most_rows c)
IsReplyOf Counts (Counted containers objects bytes) found =
    (containers ≡ min (length found) greatest)
    × (objects ≡ min (sum_by (λ (f : Found). f.objects) found) greatest)
    × (bytes ≡ min (sum_by (λ (f : Found). f.bytes) found) greatest)
IsReplyOf asked reply found = ⊥

-- the reply is made of those of these names whose last own read showed a row of the account
pub record Tally (zone : ℕ) (account : List ℕ) (asked : Asked) (reply : AccountReply) (names : List (List ℕ)) (events : List OwnEvent) : Type 0 where
  pub found : List Found
  pub names_are : map name_in found ≡ found_names account events names
  pub each : AllByRecursion (IsFoundIn zone account asked events) found
  pub is_reply : IsReplyOf asked reply found

-- no head was touched
pub record IsUntouched (y : Account) : Type 0 where
  pub undecided : y.decided ≡ None
  pub unchanged : y.changes ≡ 0

-- the end of the task: the reply is made of the names of all own pages; or 16 own events were answered Moved or Closed
abbrev pub IsAccountOutcome : AccountRequest → AccountOutcome → Account → List OwnEvent → Type 0
IsAccountOutcome r (Done reply) y events =
    Tally r.zone r.account (asked_of r.command) reply (names_of events) events × IsUntouched y
IsAccountOutcome r MovedOften y events = (left_count events ≡ most_moved) × IsUntouched y
