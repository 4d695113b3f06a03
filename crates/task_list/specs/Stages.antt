-- Where a listing stands, between own events.
use Rattle.std.specs.Prelude.{◌≡◌, ◌⊎◌, ℕ, ◌<◌, ◌≤◌, Bool, true, false, T, List, [], ◌∷◌, length, Option, Some, None}
use Rattle.std.specs.List.{All, Contains}
use Rattle.std.specs.FinMap.Entries.{find, is_sorted}
use Rattle.object_words.specs.declared.bucket.Bucket.{Bucket}
use Rattle.object_words.specs.declared.entry.EntryPage.{EntryPage}
use Rattle.object_words.specs.declared.head.HeadSeen.{HeadSeen}
use Rattle.object_words.specs.declared.head.SeenSlot.{SeenSlot}
use Rattle.object_words.specs.Entries.{EntryView}
use Rattle.object_words.specs.Hashes.{shard_of}
use Rattle.object_words.specs.Names.{name_cmp}
use Rattle.object_words.specs.Rows.{RowView}
use Rattle.realm_model.specs.Owns.{OwnEvent}
use Rattle.realm_model.specs.declared.event.Reply.TheVariants.{Row, Entries, Head as head_reply}
use Rattle.list_words.specs.declared.command.ListCommand.{ListCommand}
use Rattle.list_words.specs.declared.row.ListedRow.{ListedRow}
use Rattle.list_words.specs.declared.row.ListedRow.TheVariants.{Subdir}
use Rattle.list_words.specs.Listings.{is_before, in_scope, is_past, subdir_of, most_rows, listed_row, all_rows, ends_with_subdir}
use Rattle.task_list.specs.declared.cursor.Cursor.{Cursor}
use Rattle.task_list.specs.declared.merging.NextPage.{NextPage}
use Rattle.task_list.specs.declared.merging.Merging.{Merging}
use Rattle.task_list.specs.declared.merging.Next.{Next}
use Rattle.task_list.specs.declared.merging.Next.TheVariants as Nexts
use Rattle.task_list.specs.declared.merging.Place.{Place}
use Rattle.task_list.specs.declared.merging.Place.TheVariants as Places
use Rattle.task_list.specs.declared.merging.Passed.{Passed}
use Rattle.task_list.specs.declared.merging.Passed.TheVariants as Passes
use Rattle.task_list.specs.Cursors.{left_of, name_of}
use Rattle.task_list.specs.Merges.{cursors_of}
use Rattle.task_list.specs.Progresses.{settled_of, rows_in}
use Rattle.task_list.specs.Listed.{asks_row, asks_page, asks_head, reaches, IsPaged, IsUnsettled, IsShown, is_within, AreShown}

-- ---- names that are settled

-- an own page shows what the shard has of the name
pub record PagedAs (zone : ℕ) (c : ListCommand) (container : ℕ) (name : List ℕ) (shown : Option EntryView) (events : List OwnEvent) : Type 0 where
  pub at : ℕ
  pub paged : IsPaged zone c container name shown at events

-- the rows are those of some live names up to this one, and of each name in scope up to it, what they say of it was shown
pub record IsSettledTo (zone : ℕ) (c : ListCommand) (container : ℕ) (settled : List ℕ) (rows : List ListedRow) (events : List OwnEvent) : Type 0 where
  pub live : List (List ℕ × RowView)
  pub rise : T (is_sorted name_cmp live)
  pub asked : All (λ e. (in_scope c e.0 ≡ true) × (is_within (Some settled) e.0 ≡ true)) live
  pub rows_are : rows ≡ all_rows c live
  pub few : length rows ≤ most_rows c
  pub shown : (name : List ℕ) → in_scope c name ≡ true → is_within (Some settled) name ≡ true → IsShown zone c container live name events

-- an own bucket read showed the row
pub record IsRowShown (zone : ℕ) (c : ListCommand) (row : Bucket) (events : List OwnEvent) : Type 0 where
  pub look : OwnEvent
  pub looked : Contains events look
  pub looks : look.op ≡ asks_row zone c
  pub told : look.reply ≡ Row row

-- ---- pages at hand

-- the pages at hand show what the shards have of the open names
module _ (zone : ℕ) (c : ListCommand) (row : Bucket) (IsOpen : List ℕ → Type 0) (events : List OwnEvent) where
  -- entries are in order, and are what the shard has of the open names up to the end of their page
  pub record EntriesFit (shard : ℕ) (end : Bool) (rows : List (List ℕ × EntryView)) : Type 0 where
    pub named : shard < row.shards
    pub rise : T (is_sorted name_cmp rows)
    pub shows : (name : List ℕ) → IsOpen name → shard_of name row.shards ≡ shard → reaches end rows name ≡ true
        → PagedAs zone c row.id name (find name_cmp name rows) events

  -- what is left of a page fits
  abbrev pub CursorFits : Cursor → Type 0
  CursorFits cursor = EntriesFit cursor.shard cursor.end (left_of cursor)

  -- the shard has none of the open names
  abbrev pub Lacks : ℕ → Type 0
  Lacks shard = (name : List ℕ) → IsOpen name → shard_of name row.shards ≡ shard → PagedAs zone c row.id name None events

  -- the shard has none of the open names up to this one
  pub record IsUsedUp (next : NextPage) : Type 0 where
    pub named : next.shard < row.shards
    pub lacks : (name : List ℕ) → IsOpen name → shard_of name row.shards ≡ next.shard → is_before next.after name ≡ false
        → PagedAs zone c row.id name None events

  abbrev pub UsedUp : Option NextPage → Type 0
  UsedUp None = Unit {0}
  UsedUp (Some next) = IsUsedUp next

  -- a page of the shard is at hand
  pub record HasCursor (cursors : List Cursor) (shard : ℕ) : Type 0 where
    pub cursor : Cursor
    pub there : Contains cursors cursor
    pub of_shard : cursor.shard ≡ shard

  -- a page of the shard comes next
  pub record IsNext (used : Option NextPage) (shard : ℕ) : Type 0 where
    pub next : NextPage
    pub is_next : used ≡ Some next
    pub of_shard : next.shard ≡ shard

  -- nothing of the shard was read, or a page is at hand or comes next, or it has no more
  abbrev pub IsCovered : List Cursor → ℕ → Option NextPage → ℕ → Type 0
  IsCovered cursors unread used shard = ((unread ≤ shard) ⊎ HasCursor cursors shard) ⊎ (IsNext used shard ⊎ Lacks shard)

  pub record PagesFit (cursors : List Cursor) (unread : ℕ) (used : Option NextPage) : Type 0 where
    pub each : All CursorFits cursors
    pub used_up : UsedUp used
    pub every : (shard : ℕ) → shard < row.shards → IsCovered cursors unread used shard

-- the name is in scope, and above that one
abbrev pub IsAbove : ListCommand → List ℕ → List ℕ → Type 0
IsAbove c from name = (in_scope c name ≡ true) × (is_before from name ≡ true)

-- ---- a listing between own events

abbrev pub row_in : Merging → Bucket
row_in m = m.row

-- the listing is settled up to a name, and the pages at hand show the names above it
pub record MergingFits (zone : ℕ) (c : ListCommand) (m : Merging) (used : Option NextPage) (events : List OwnEvent) : Type 0 where
  pub settled : IsSettledTo zone c (m.row).id (settled_of m.progress) (rows_in m.progress) events
  pub shown : IsRowShown zone c m.row events
  pub pages : PagesFit zone c m.row (IsAbove c (settled_of m.progress)) events (cursors_of m.merge) m.unread used
  pub waits : m.unread < (m.row).shards → m.used_up ≡ None

-- nothing is in scope between the settled names and this one
abbrev pub IsGap : ℕ → ListCommand → Merging → List ℕ → List OwnEvent → Type 0
IsGap zone c m name events =
    (between : List ℕ) → IsAbove c (settled_of m.progress) between → is_before between name ≡ true
    → PagedAs zone c (m.row).id between None events

-- the head of this name comes next
pub record HeadFits (zone : ℕ) (c : ListCommand) (m : Merging) (name : List ℕ) (events : List OwnEvent) : Type 0 where
  pub settled : IsSettledTo zone c (m.row).id (settled_of m.progress) (rows_in m.progress) events
  pub above : IsAbove c (settled_of m.progress) name
  pub room : length (rows_in m.progress) < most_rows c
  pub unlisted : (thing : RowView) → ends_with_subdir (rows_in m.progress) (listed_row c (name, thing)) ≡ false
  pub gap : IsGap zone c m name events
  pub at : ℕ
  pub unsettled : IsUnsettled zone c (m.row).id name at events
  pub shown : IsRowShown zone c m.row events
  pub pages : PagesFit zone c m.row (IsAbove c name) events (cursors_of m.merge) m.unread m.used_up
  pub read : (m.row).shards ≤ m.unread

-- a page was taken out of those at hand, and its first name is the least
pub record PoppedFits (zone : ℕ) (c : ListCommand) (m : Merging) (cursor : Cursor) (events : List OwnEvent) : Type 0 where
  pub settled : IsSettledTo zone c (m.row).id (settled_of m.progress) (rows_in m.progress) events
  pub shown : IsRowShown zone c m.row events
  pub least : All (λ other. is_before (name_of other) (name_of cursor) ≡ false) (cursors_of m.merge)
  pub pages : PagesFit zone c m.row (IsAbove c (settled_of m.progress)) events (cursor ∷ cursors_of m.merge) m.unread None

-- the name is above the settled ones, but for one name of one shard
abbrev pub IsOther : ListCommand → Merging → ℕ → List ℕ → List ℕ → Type 0
IsOther c m shard name other =
    IsAbove c (settled_of m.progress) other × ((other ≡ name) → shard_of other (m.row).shards ≡ shard → ⊥)

-- the next entry was taken out of a page of this shard
pub record EntryFits (zone : ℕ) (c : ListCommand) (m : Merging) (shard : ℕ) (entry : List ℕ × EntryView) (events : List OwnEvent) : Type 0 where
  pub settled : IsSettledTo zone c (m.row).id (settled_of m.progress) (rows_in m.progress) events
  pub shown : IsRowShown zone c m.row events
  pub gap : IsGap zone c m entry.0 events
  pub here : IsAbove c (settled_of m.progress) entry.0 → shard_of entry.0 (m.row).shards ≡ shard
      → PagedAs zone c (m.row).id entry.0 (Some entry.1) events
  pub pages : PagesFit zone c m.row (IsOther c m shard entry.0) events (cursors_of m.merge) m.unread m.used_up

-- the name is above the settled ones, and of the shard
pub record IsOwn (c : ListCommand) (m : Merging) (shard : ℕ) (name : List ℕ) : Type 0 where
  pub above : IsAbove c (settled_of m.progress) name
  pub of_shard : shard_of name (m.row).shards ≡ shard

-- the last row is of its subdir
pub record IsRepeat (c : ListCommand) (m : Merging) (name : List ℕ) : Type 0 where
  pub subdir : List ℕ
  pub of_name : subdir_of c name ≡ Some subdir
  pub ends : ends_with_subdir (rows_in m.progress) (Subdir subdir) ≡ true

-- what a name out of a page of a shard is to the listing
abbrev pub IsPlace : ListCommand → Merging → ℕ → List ℕ → Place → Type 0
IsPlace c m shard name Places.Past = is_past c name ≡ true
IsPlace c m shard name Places.Elsewhere = IsAbove c (settled_of m.progress) name → shard_of name (m.row).shards ≡ shard → ⊥
IsPlace c m shard name Places.Listed = IsOwn c m shard name × IsRepeat c m name
IsPlace c m shard name Places.Due =
    IsOwn c m shard name × ((row : RowView) → ends_with_subdir (rows_in m.progress) (listed_row c (name, row)) ≡ false)

-- what became of an entry
abbrev pub PassedFits : ℕ → ListCommand → Merging → Passed → List OwnEvent → Type 0
PassedFits zone c m Passes.On events = MergingFits zone c m m.used_up events
PassedFits zone c m Passes.Past events = AreShown zone c (m.row).id (rows_in m.progress) events
PassedFits zone c m (Passes.Head wanted) events = HeadFits zone c m wanted.name events

-- how the listing goes on
abbrev pub NextFits : ℕ → ListCommand → Merging → Next → List OwnEvent → Type 0
NextFits zone c m (Nexts.Page next) events = MergingFits zone c m (Some next) events × (m.used_up ≡ None)
NextFits zone c m (Nexts.Head wanted) events = HeadFits zone c m wanted.name events
NextFits zone c m Nexts.Done events = AreShown zone c (m.row).id (rows_in m.progress) events

-- what a listing of all shards' pages stands at
pub record IsRead (m : Merging) : Type 0 where
  pub some : 0 < (m.row).shards
  pub all : (m.row).shards ≤ m.unread

-- ---- own events

-- the number is above those of all events
abbrev pub IsLater : ℕ → List OwnEvent → Type 0
IsLater number events = All (λ e. e.number < number) events

-- the entries rise, and are all above a name; there are none only where the shard has none
pub record IsPageAbove (after : List ℕ) (page : EntryPage) : Type 0 where
  pub rise : T (is_sorted name_cmp page.rows)
  pub above : All (λ e. is_before after e.0 ≡ true) page.rows
  pub some : page.rows ≡ [] → page.end ≡ true

-- the event asked for this page, and was answered so
pub record IsPageEvent (zone : ℕ) (row : Bucket) (next : NextPage) (page : EntryPage) (events : List OwnEvent) (own : OwnEvent) : Type 0 where
  pub asks : own.op ≡ asks_page zone row next.shard next.after
  pub told : own.reply ≡ Entries page
  pub later : IsLater own.number events
  pub rows : IsPageAbove next.after page

-- the event asked for the head of the name, and was answered so
pub record IsHeadEvent (zone container : ℕ) (name : List ℕ) (slot : SeenSlot) (events : List OwnEvent) (own : OwnEvent) : Type 0 where
  pub asks : own.op ≡ asks_head zone container name
  pub seen : HeadSeen
  pub clock : ℕ
  pub told : own.reply ≡ head_reply seen clock
  pub slot_is : slot ≡ seen.slot
  pub later : IsLater own.number events
