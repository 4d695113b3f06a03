-- What a listing keeps of the entries that own events told.
use Rattle.std.specs.Prelude.{◌≡◌, ℕ, ◌+◌, ◌<◌, ◌≤◌, ◌==◌, nat_le, T, List, ◌∷◌, Option, Some, None, if◌then◌else◌}
use Rattle.std.specs.List.{All, sum_by}
use Rattle.std.specs.FinMap.Entries.{is_sorted}
use Rattle.object_words.specs.declared.bucket.Bucket.{Bucket}
use Rattle.object_words.specs.declared.entry.EntryPage.{EntryPage}
use Rattle.object_words.specs.declared.head.HeadSeen.{HeadSeen}
use Rattle.object_words.specs.Entries.{EntryView}
use Rattle.object_words.specs.Hashes.{shard_of}
use Rattle.object_words.specs.Heads.{row_of}
use Rattle.object_words.specs.Keys.{shard_key}
use Rattle.object_words.specs.Names.{name_cmp}
use Rattle.object_words.specs.Tags.{has_due}
use Rattle.list_words.specs.declared.command.ListCommand.{ListCommand}
use Rattle.realm_model.specs.Owns.{OwnEvent}
use Rattle.realm_model.specs.declared.op.Op.{Op}
use Rattle.realm_model.specs.declared.op.Op.TheVariants.{Suggest as suggest_op}
use Rattle.task_list.specs.declared.cursor.Cursor.{Cursor}
use Rattle.task_list.specs.declared.merging.Due.{Due}
use Rattle.task_list.specs.declared.merging.NextPage.{NextPage}
use Rattle.task_list.specs.declared.merging.Merging.{Merging}
use Rattle.task_list.specs.declared.merging.Next.{Next}
use Rattle.task_list.specs.declared.merging.Next.TheVariants as Nexts
use Rattle.task_list.specs.declared.merging.Passed.{Passed}
use Rattle.task_list.specs.declared.merging.Passed.TheVariants as Passes
use Rattle.task_list.specs.declared.merging.Wanted.{Wanted}
use Rattle.task_list.specs.declared.stage.Suggestion.{Suggestion}
use Rattle.task_list.specs.declared.stage.Stage.{Stage}
use Rattle.task_list.specs.declared.stage.Stage.TheVariants.{Page, Head, Suggest}
use Rattle.task_list.specs.Cursors.{left_of}
use Rattle.task_list.specs.Merges.{cursors_of}
use Rattle.task_list.specs.Stages.{MergingFits, NextFits}
use Rattle.task_list.specs.Repairs.{EntrySeen, Told, told_row, seen_on, may_stand, suggestion}

-- ---- pages at hand

-- how many of the pages at hand are of the shard
abbrev pub pages_of : ℕ → List Cursor → ℕ
pages_of shard cursors = sum_by (λ (c : Cursor). if c.shard == shard then 1 else 0) cursors

-- one, where a page of the shard comes next
abbrev pub next_of : ℕ → Option NextPage → ℕ
next_of shard None = 0
next_of shard (Some next) = if next.shard == shard then 1 else 0

-- one, where no page of the shard was asked for
abbrev pub unread_of : ℕ → ℕ → ℕ
unread_of shard unread = if nat_le unread shard then 1 else 0

-- what is left of a page is what was told of the names of its shard
abbrev pub IsAsTold : Bucket → (List ℕ → Option EntrySeen) → Cursor → Type 0
IsAsTold row seen cursor =
    All (λ e. shard_of e.0 row.shards ≡ cursor.shard → seen e.0 ≡ Some (record { entry = e.1; clock = cursor.clock })) (left_of cursor)

-- the row is the one that was told; of each shard a page is at hand, or comes next, or none was asked for, or neither; and
-- what is left of the pages is what was told
pub record AreTold (row : Bucket) (cursors : List Cursor) (unread : ℕ) (used : Option NextPage) (t : Told) : Type 0 where
  pub row_is : t.row ≡ Some row
  pub some : 0 < row.shards
  pub once : (shard : ℕ) → pages_of shard cursors + next_of shard used + unread_of shard unread ≤ 1
  pub told : All (IsAsTold row t.seen) cursors

-- the pages at hand are as told
abbrev pub MergingTold : Merging → Option NextPage → Told → Type 0
MergingTold m used t = AreTold m.row (cursors_of m.merge) m.unread used t

-- and so is the one that was taken out of them
abbrev pub PoppedTold : Merging → Cursor → Told → Type 0
PoppedTold m cursor t = AreTold m.row (cursor ∷ cursors_of m.merge) m.unread None t

-- the entry, out of a page of this shard at this clock, is what was told of its name, where the name is of the shard
abbrev pub EntryTold : Merging → ℕ → ℕ → List ℕ × EntryView → Told → Type 0
EntryTold m shard clock entry t =
    MergingTold m m.used_up t
    × (shard_of entry.0 (m.row).shards ≡ shard → t.seen entry.0 ≡ Some (record { entry = entry.1; clock = clock }))

-- ---- what comes next

-- what a suggestion needs to know of the entry, where one is due
abbrev pub due_of : Bucket → List ℕ → Option EntrySeen → Option Due
due_of row name None = None
due_of row name (Some s) =
    if has_due s.clock s.entry.tags
    then Some (record { shard = shard_of name row.shards; revision = s.entry.revision; seen = s.clock })
    else None

-- the head of this name comes next, and behind it a suggestion where one is due by what was told
pub record WantedTold (m : Merging) (wanted : Wanted) (t : Told) : Type 0 where
  pub pages : MergingTold m m.used_up t
  pub due_is : wanted.due ≡ due_of m.row wanted.name (t.seen wanted.name)

-- what became of an entry
abbrev pub PassedTold : Merging → Passed → Told → Type 0
PassedTold m Passes.On t = MergingTold m m.used_up t
PassedTold m Passes.Past t = Unit {0}
PassedTold m (Passes.Head wanted) t = WantedTold m wanted t

-- how the listing goes on
abbrev pub NextTold : Merging → Next → Told → Type 0
NextTold m (Nexts.Page next) t = MergingTold m (Some next) t
NextTold m (Nexts.Head wanted) t = WantedTold m wanted t
NextTold m Nexts.Done t = Unit {0}

-- Names were passed: by the events by which the listing stood, and by what they told, it goes on so.
pub record PassesNames (command : ListCommand) (old new : Merging) (next : Next) : Type 0 where
  pub fits : (zone : ℕ) (events : List OwnEvent) → MergingFits zone command old old.used_up events → NextFits zone command new next events
  pub told : (t : Told) → MergingTold old old.used_up t → NextTold new next t

-- the entries are by rising name
abbrev pub IsInOrder : Option EntryPage → Type 0
IsInOrder None = Unit {0}
IsInOrder (Some page) = T (is_sorted name_cmp page.rows)

-- what was told, with a page of a shard of the row
abbrev pub with_page : Bucket → NextPage → EntryPage → Told → Told
with_page row next page t =
    record { row = t.row; seen = seen_on t.row (shard_key row.id row.instance next.shard) (Some page) t.seen }

-- what is suggested for an entry by what its head showed, where that is due
abbrev pub suggestion_due : Option Due → List ℕ → HeadSeen → Option Suggestion
suggestion_due None name head = None
suggestion_due (Some due) name head =
    if may_stand head.slot
    then Some (record {
      shard = due.shard;
      name = name;
      revision = due.revision;
      seen = due.seen;
      version = head.version;
      row = row_of head.slot;
    })
    else None

-- ---- stages

-- the stage keeps what was told
abbrev pub StageTold : Stage → Told → Type 0
StageTold (Page m next) t = MergingTold m (Some next) t
StageTold (Head m wanted) t = WantedTold m wanted t
StageTold (Suggest m s) t = MergingTold m m.used_up t
StageTold stage t = Unit {0}

-- to suggest for a name of a shard
abbrev pub asks_suggestion : ℕ → Bucket → Suggestion → Op
asks_suggestion zone row s = suggest_op zone (shard_key row.id row.instance s.shard) s.name s.revision s.seen s.version s.row

-- the suggestion that comes next, if one does
abbrev pub owes : ℕ → Stage → Option Op
owes zone (Suggest m s) = Some (asks_suggestion zone m.row s)
owes zone stage = None

-- the stage keeps what was told, and no suggestion comes next
abbrev pub WentTold : Told → Stage → Type 0
WentTold t stage = StageTold stage t × ((zone : ℕ) → owes zone stage ≡ None)

-- a page came, or its shard no longer serves
abbrev pub PageTold : Merging → NextPage → Option EntryPage → Stage → Type 0
PageTold m next page stage =
    (t : Told) → MergingTold m (Some next) t → m.used_up ≡ None → IsInOrder page
    → WentTold (record { row = t.row; seen = seen_on t.row (shard_key (m.row).id (m.row).instance next.shard) page t.seen }) stage

-- the head of a name came
abbrev pub HeadTold : Merging → Wanted → HeadSeen → Stage → Type 0
HeadTold m wanted head stage =
    (t : Told) → WantedTold m wanted t
    → StageTold stage t × ((zone : ℕ) → owes zone stage ≡ suggestion zone m.row wanted.name (t.seen wanted.name) head)

-- the listing goes on with the pages at hand
abbrev pub OnTold : Merging → Stage → Type 0
OnTold m stage = (t : Told) → MergingTold m m.used_up t → WentTold t stage

-- the row came, or none is there
abbrev pub RowTold : Option Bucket → Stage → Type 0
RowTold row stage = WentTold (told_row row) stage
