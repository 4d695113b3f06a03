-- Where a task of an account stands, and how an answer brings it on.
use Rattle.std.specs.Prelude.{ℕ, ◌+◌, ◌-◌, ◌^◌, nat_lt, min, bytes_eq, Bool, List, [], ◌∷◌, Option, Some, None, if◌then◌else◌}
use Rattle.object_words.specs.declared.bucket.Bucket.{Bucket}
use Rattle.object_words.specs.declared.shard.ShardStats.{ShardStats}
use Rattle.object_words.specs.Keys.{shard_key}
use Rattle.object_words.specs.Numbers.{greatest}
use Rattle.realm_model.specs.Allowed.{page_limit}
use Rattle.realm_model.specs.declared.op.Op.{Op}
use Rattle.realm_model.specs.declared.op.Op.TheVariants.{BucketRead, AccountPage, Stats as stats_op}
use Rattle.realm_model.specs.declared.event.Reply.{Reply}
use Rattle.realm_model.specs.declared.event.Reply.TheVariants.{Names}
use Rattle.realm_model.specs.Shown.{row_shown, header_shown}
use Rattle.task_words.specs.Outcomes.{most_moved}
use Rattle.task_account.specs.declared.asked.Asked.{Asked}
use Rattle.task_account.specs.declared.asked.Place.{Place}
use Rattle.task_account.specs.declared.asked.Place.TheVariants.{Past, Elsewhere, Due}
use Rattle.task_account.specs.declared.counting.Counting.{Counting}
use Rattle.task_account.specs.declared.reply.AccountReply.{AccountReply}
use Rattle.task_account.specs.declared.reply.AccountOutcome.TheVariants.{Done, MovedOften}
use Rattle.task_account.specs.declared.stage.Passed.{Passed}
use Rattle.task_account.specs.declared.stage.Passed.TheVariants.{Done as NothingMore, Used, Due as Next}
use Rattle.task_account.specs.declared.stage.Visit.{Visit}
use Rattle.task_account.specs.declared.stage.Stage.{Stage}
use Rattle.task_account.specs.declared.stage.Stage.TheVariants.{Page, Look, Count, Broken, Ended}
use Rattle.task_account.specs.Asking.{is_full, with_container, with_subdir, place_of, LeftView, is_short}

-- ---- stages

-- the outcome is there
abbrev pub IsOver : Stage → Type 0
IsOver (Ended outcome) = Unit {0}
IsOver stage = ⊥

-- an operation comes next
abbrev pub IsOpen : Stage → Type 0
IsOpen (Ended outcome) = ⊥
IsOpen Broken = ⊥
IsOpen stage = Unit {0}

-- to read a page of the account's names above this one
abbrev pub asks_page : ℕ → List ℕ → List ℕ → Op
asks_page zone account last = AccountPage zone account last page_limit

-- to read the row of a name
abbrev pub asks_row : ℕ → List ℕ → Op
asks_row zone name = BucketRead zone name

-- to read the header of a shard of the row
abbrev pub asks_header : ℕ → Bucket → ℕ → Op
asks_header zone row number = stats_op zone (shard_key row.id row.instance number)

-- the operation that comes next
abbrev pub op_of : ℕ → List ℕ → Stage → Op
op_of zone account (Page reply last) = asks_page zone account last
op_of zone account (Look v) = asks_row zone v.name
op_of zone account (Count v c) = asks_header zone c.row c.next
op_of zone account Broken = asks_page zone account []
op_of zone account (Ended outcome) = asks_page zone account []

-- ---- counts

-- no header came yet
abbrev pub counting_from : Bucket → Counting
counting_from row = record { row = row; next = 0; objects = 0; bytes = 0 }

-- with one header more
abbrev pub counted : Counting → ShardStats → Counting
counted c s = record {
  row = c.row;
  next = if nat_lt c.next c.row.shards then c.next + 1 else c.next;
  objects = min (c.objects + s.objects) greatest;
  bytes = min (c.bytes + s.bytes) greatest;
}

-- ---- steps

-- the names that an answer shows
abbrev pub names_shown : Reply → List (List ℕ)
names_shown (Names names) = names
names_shown reply = []

-- by what a name is: the listing is done, the name is passed, or it is visited
abbrev pub placed : Place → Stage → Stage → (Option (List ℕ) → Stage) → Stage
placed Past done on due = done
placed Elsewhere done on due = on
placed (Due subdir) done on due = due subdir

abbrev pub visit_of : AccountReply → List ℕ → Option (List ℕ) → Bool → List (List ℕ) → Visit
visit_of reply name subdir is_last rest =
    record { reply = reply; name = name; subdir = subdir; left = record { rest = rest; is_last = is_last } }

-- the next page, or the end
abbrev pub behind_page : AccountReply → List ℕ → Bool → Stage
behind_page reply last is_last = if is_last then Ended (Done reply) else Page reply last

-- by what came behind the names that were passed
abbrev pub stage_by : AccountReply → LeftView → Passed → Stage
stage_by reply left NothingMore = Ended (Done reply)
stage_by reply left (Used last) = behind_page reply last left.is_last
stage_by reply left (Next name subdir) =
    Look (record { reply = reply; name = name; subdir = subdir; left = left })

-- behind the last name that was passed: the row of the next one that is asked for, the next page, or the end
abbrev pub walk : Asked → AccountReply → List ℕ → Bool → List (List ℕ) → Stage
walk asked reply last is_last [] =
    if is_full asked reply then Ended (Done reply) else behind_page reply last is_last
walk asked reply last is_last (name ∷ names) =
    if is_full asked reply
    then Ended (Done reply)
    else placed (place_of asked reply name) (Ended (Done reply)) (walk asked reply name is_last names)
    (λ subdir. Look (visit_of reply name subdir is_last names))

-- behind the name of a visit
abbrev pub passed : Asked → AccountReply → Visit → Stage
passed asked reply v = walk asked reply v.name v.left.is_last v.left.rest

-- the header of the next shard, or all were counted
abbrev pub after_header : Asked → Visit → Counting → Stage
after_header asked v c =
    if nat_lt c.next c.row.shards
    then Count v c
    else passed asked (with_container v.reply v.name c.objects c.bytes) v

-- a container of the account is listed under a subdir, or its shards are counted
abbrev pub after_subdir : Asked → Visit → Bucket → Option (List ℕ) → Stage
after_subdir asked v row (Some subdir) = passed asked (with_subdir v.reply subdir) v
after_subdir asked v row None = after_header asked v (counting_from row)

-- by the row of a name: one of another account, or none, is left out
abbrev pub after_row : List ℕ → Asked → Visit → Option Bucket → Stage
after_row account asked v None = passed asked v.reply v
after_row account asked v (Some row) =
    if bytes_eq row.owner account then after_subdir asked v row v.subdir else passed asked v.reply v

-- after so many answers Moved or Closed
abbrev pub after_left : Visit → ℕ → Stage
after_left v moved = if nat_lt moved most_moved then Look v else Ended MovedOften

abbrev pub one_moved : ℕ → ℕ
one_moved moved = min (moved + 1) (2 ^ 32 - 1)

-- by a shard's header, or that it no longer serves
abbrev pub header_step : Asked → Visit → Counting → ℕ → Option ShardStats → Stage × ℕ
header_step asked v c moved (Some s) = (after_header asked v (counted c s), moved)
header_step asked v c moved None = (after_left v (one_moved moved), one_moved moved)

-- the stage after an answer to the operation, and how many were Moved or Closed
abbrev pub step_of : List ℕ → Asked → Stage → ℕ → Reply → Stage × ℕ
step_of account asked (Page so_far last) moved reply =
    (walk asked so_far last (is_short (names_shown reply)) (names_shown reply), moved)
step_of account asked (Look v) moved reply = (after_row account asked v (row_shown reply), moved)
step_of account asked (Count v c) moved reply = header_step asked v c moved (header_shown reply)
step_of account asked Broken moved reply = (Broken, moved)
step_of account asked (Ended outcome) moved reply = (Ended outcome, moved)
