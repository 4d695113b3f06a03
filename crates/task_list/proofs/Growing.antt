-- What own events showed stays shown when one more comes.
use Rattle.std.proofs.Common.{ℕ, List, [], ◌∷◌, ◌++◌, Option, Some, None, inl, inr}
use Rattle.std.specs.FinMap.Entries.{find}
use Rattle.std.proofs.lemmas.List.Elements.{Contains-append_left, All-weaker}
use Rattle.object_words.specs.declared.bucket.Bucket.{Bucket}
use Rattle.object_words.specs.Entries.{EntryView}
use Rattle.object_words.specs.Names.{name_cmp}
use Rattle.object_words.specs.Rows.{RowView}
use Rattle.realm_model.specs.Owns.{OwnEvent}
use Rattle.list_words.specs.declared.command.ListCommand.{ListCommand}
use Rattle.list_words.specs.declared.row.ListedRow.{ListedRow}
use Rattle.task_list.specs.declared.cursor.Cursor.{Cursor}
use Rattle.task_list.specs.declared.merging.NextPage.{NextPage}
use Rattle.task_list.specs.declared.merging.Merging.{Merging}
use Rattle.task_list.specs.Merges.{cursors_of}
use Rattle.task_list.specs.Progresses.{settled_of, rows_in}
use Rattle.task_list.specs.Listed.{IsPaged, IsUnsettled, IsByPage, IsByHead, IsShown}
use Rattle.task_list.specs.Stages.{PagedAs, IsSettledTo, IsRowShown, CursorFits, UsedUp, IsCovered, PagesFit, IsAbove, MergingFits}

module _ (zone : ℕ) (c : ListCommand) (events : List OwnEvent) (own : OwnEvent) where
  abbrev more : List OwnEvent
  more = events ++ own ∷ []

  pub grow_paged : (container : ℕ) (name : List ℕ) (shown : Option EntryView) (at : ℕ) → IsPaged zone c container name shown at events → IsPaged zone c container name shown at more
  grow_paged container name shown at p = record {
    look = p.look;
    page = p.page;
    looked = Contains-append_left events (own ∷ []) p.look p.looked;
    paged = Contains-append_left events (own ∷ []) p.page p.paged;
    in_order = p.in_order;
    row = p.row;
    looks = p.looks;
    told_row = p.told_row;
    in_container = p.in_container;
    after = p.after;
    asks = p.asks;
    above = p.above;
    entries = p.entries;
    told = p.told;
    within = p.within;
    shows = p.shows;
    number = p.number;
  }

  pub grow_unsettled : (container : ℕ) (name : List ℕ) (at : ℕ) → IsUnsettled zone c container name at events → IsUnsettled zone c container name at more
  grow_unsettled container name at u = record { entry = u.entry; tagged = u.tagged; paged = grow_paged container name (Some u.entry) at u.paged }

  pub grow_by_page : (container : ℕ) (name : List ℕ) (row : Option RowView) → IsByPage zone c container name row events → IsByPage zone c container name row more
  grow_by_page container name row p = record { shown = p.shown; at = p.at; paged = grow_paged container name p.shown p.at p.paged; settled = p.settled; row_is = p.row_is }

  pub grow_by_head : (container : ℕ) (name : List ℕ) (row : Option RowView) → IsByHead zone c container name row events → IsByHead zone c container name row more
  grow_by_head container name row h = record {
    at = h.at;
    unsettled = grow_unsettled container name h.at h.unsettled;
    head = h.head;
    read = Contains-append_left events (own ∷ []) h.head h.read;
    later = h.later;
    asks = h.asks;
    seen = h.seen;
    clock = h.clock;
    told = h.told;
    row_is = h.row_is;
  }

  pub grow_shown : (container : ℕ) (live : List (List ℕ × RowView)) (name : List ℕ) → IsShown zone c container live name events → IsShown zone c container live name more
  grow_shown container live name (inl (inl p)) = inl (inl (grow_by_page container name (find name_cmp name live) p))
  grow_shown container live name (inl (inr h)) = inl (inr (grow_by_head container name (find name_cmp name live) h))
  grow_shown container live name (inr f) = inr f

  pub grow_paged_as : (container : ℕ) (name : List ℕ) (shown : Option EntryView) → PagedAs zone c container name shown events → PagedAs zone c container name shown more
  grow_paged_as container name shown p = record { at = p.at; paged = grow_paged container name shown p.at p.paged }

  pub grow_row : (row : Bucket) → IsRowShown zone c row events → IsRowShown zone c row more
  grow_row row s = record { look = s.look; looked = Contains-append_left events (own ∷ []) s.look s.looked; looks = s.looks; told = s.told }

  pub grow_settled : (container : ℕ) (settled : List ℕ) (rows : List ListedRow) → IsSettledTo zone c container settled rows events → IsSettledTo zone c container settled rows more
  grow_settled container settled rows s = record {
    live = s.live;
    rise = s.rise;
    asked = s.asked;
    rows_are = s.rows_are;
    few = s.few;
    shown = λ name scope within. grow_shown container s.live name (s.shown name scope within);
  }

  module _ (row : Bucket) (IsOpen : List ℕ → Type 0) where
    pub grow_cursor : (cursor : Cursor) → CursorFits zone c row IsOpen events cursor → CursorFits zone c row IsOpen more cursor
    grow_cursor cursor f = record { named = f.named; rise = f.rise; shows = λ name clear shard reach. grow_paged_as row.id name _ (f.shows name clear shard reach) }

    pub grow_used : (used : Option NextPage) → UsedUp zone c row IsOpen events used → UsedUp zone c row IsOpen more used
    grow_used None u = tt
    grow_used (Some next) u = record { named = u.named; lacks = λ name clear shard upto. grow_paged_as row.id name None (u.lacks name clear shard upto) }

    pub grow_covered : (cursors : List Cursor) (unread : ℕ) (used : Option NextPage) (shard : ℕ) → IsCovered zone c row IsOpen events cursors unread used shard → IsCovered zone c row IsOpen more cursors unread used shard
    grow_covered cursors unread used shard (inl (inl low)) = inl (inl low)
    grow_covered cursors unread used shard (inl (inr h)) = inl (inr (record { cursor = h.cursor; there = h.there; of_shard = h.of_shard }))
    grow_covered cursors unread used shard (inr (inl n)) = inr (inl (record { next = n.next; is_next = n.is_next; of_shard = n.of_shard }))
    grow_covered cursors unread used shard (inr (inr lacks)) = inr (inr (λ name clear of_shard. grow_paged_as row.id name None (lacks name clear of_shard)))

    pub grow_pages : (cursors : List Cursor) (unread : ℕ) (used : Option NextPage) → PagesFit zone c row IsOpen events cursors unread used → PagesFit zone c row IsOpen more cursors unread used
    grow_pages cursors unread used p = record {
      each = All-weaker (CursorFits zone c row IsOpen events) (CursorFits zone c row IsOpen more) grow_cursor cursors p.each;
      used_up = grow_used used p.used_up;
      every = λ shard named. grow_covered cursors unread used shard (p.every shard named);
    }

  pub grow_merging : (m : Merging) (used : Option NextPage) → MergingFits zone c m used events → MergingFits zone c m used more
  grow_merging m used f = record {
    settled = grow_settled (m.row).id (settled_of m.progress) (rows_in m.progress) f.settled;
    shown = grow_row m.row f.shown;
    pages = grow_pages m.row (IsAbove c (settled_of m.progress)) (cursors_of m.merge) m.unread used f.pages;
    waits = f.waits;
  }
