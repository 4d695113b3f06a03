-- What each step of a merge keeps.
use Rattle.std.proofs.Common.{◌≡◌, ℕ, ◌+◌, ◌<◌, ◌≤◌, nat_le, true, false, cond, List, [], ◌∷◌, ◌++◌, length, Option, Some, None, Result, Ok, Err, IfOk, OnOk, inl, inr, refl, sym, ◌∙◌, ap, subst, arith}
use Rattle.std.specs.List.{All, Contains}
use Rattle.std.specs.List.Sorted.{IsPermutation}
use Rattle.std.proofs.lemmas.Bool.{both_ways, cases_eq, leb-true}
use Rattle.std.proofs.lemmas.List.Elements.{All-nil, All-contains, Contains-push}
use Rattle.object_words.specs.declared.bucket.Bucket.{Bucket}
use Rattle.object_words.specs.declared.entry.EntryPage.{EntryPage}
use Rattle.object_words.specs.declared.head.SeenSlot.{SeenSlot}
use Rattle.object_words.specs.Entries.{EntryView}
use Rattle.object_words.specs.Hashes.{shard_of}
use Rattle.object_words.specs.Rows.{RowView}
use Rattle.realm_model.specs.Owns.{OwnEvent}
use Rattle.list_words.specs.declared.command.ListCommand.{ListCommand}
use Rattle.list_words.specs.declared.row.ListedRow.{ListedRow}
use Rattle.list_words.specs.declared.row.ListedRow.TheVariants.{Subdir}
use Rattle.list_words.specs.Listings.{is_before, is_past, subdir_of, listed_row, most_rows, ends_with_subdir}
use Rattle.list_words.proofs.Texts.{before_itself, before_trans}
use Rattle.list_words.proofs.Keys.{past}
use Rattle.task_list.specs.declared.cursor.Cursor.{Cursor}
use Rattle.task_list.specs.declared.merge.Merge.{Merge}
use Rattle.task_list.specs.declared.merging.NextPage.{NextPage}
use Rattle.task_list.specs.declared.merging.Merging.{Merging}
use Rattle.task_list.specs.declared.progress.Progress.{Progress}
use Rattle.task_list.specs.Cursors.{left_of, name_of}
use Rattle.task_list.specs.Merges.{cursors_of}
use Rattle.task_list.specs.Progresses.{settled_of, rows_in, rows_with}
use Rattle.task_list.specs.Listed.{IsByPage, IsByHead, AreShown, entry_row, row_if_there, slot_row, is_unsettled, is_settled}
use Rattle.task_list.specs.Stages.{PagedAs, IsSettledTo, PagesFit, IsCovered, IsAbove, IsOther, MergingFits, IsGap, HeadFits, PoppedFits, EntryFits, IsRead, IsPageEvent, IsHeadEvent}
use Rattle.task_list.proofs.Growing.{grow_settled, grow_row, grow_pages, grow_paged_as, grow_unsettled}
use Rattle.task_list.proofs.Settling.{is_full, is_complete, settle_none, settle_folded, settle_listed}
use Rattle.task_list.proofs.Passing.{pages-narrow, pages-moved, gap_before, here, some_left, none_left, page_left, page_put, page_empty, shard_within}

module _ (zone : ℕ) (c : ListCommand) where
  -- no page came yet
  pub pages_none : (row : Bucket) (Open : List ℕ → Type 0) (events : List OwnEvent) (cursors : List Cursor) → cursors ≡ [] → PagesFit zone c row Open events cursors 0 None
  pages_none row Open events cursors none =
      subst (λ cs. PagesFit zone c row Open events cs 0 None) (sym none)
      (record { each = All-nil _; used_up = tt; every = λ shard named. inl (inl (omega arith)) })

  -- ---- pages come

  module _ (m : Merging) (next : NextPage) (page : EntryPage) (events : List OwnEvent) (own : OwnEvent) (f : MergingFits zone c m (Some next) events) (came : IsPageEvent zone m.row next page events own) where
    pub put_some : (merge : Merge) (cursor : Cursor) → IsPermutation (cursor ∷ cursors_of m.merge) (cursors_of merge) → cursor.shard ≡ next.shard → cursor.end ≡ page.end → left_of cursor ≡ page.rows → MergingFits zone c (record m { merge = merge }) None (events ++ own ∷ [])
    put_some merge cursor moved of_shard ends is = record {
      settled = grow_settled zone c events own (m.row).id (settled_of m.progress) (rows_in m.progress) f.settled;
      shown = grow_row zone c events own m.row f.shown;
      pages = pages-moved zone c m.row (events ++ own ∷ []) (IsAbove c (settled_of m.progress)) (cursor ∷ cursors_of m.merge) (cursors_of merge) m.unread None moved
          (page_put zone c m.row events (settled_of m.progress) next page own f.shown came (cursors_of m.merge) m.unread f.pages cursor of_shard ends is);
      waits = f.waits;
    }

    pub put_none : page.rows ≡ [] → MergingFits zone c m None (events ++ own ∷ [])
    put_none empty = record {
      settled = grow_settled zone c events own (m.row).id (settled_of m.progress) (rows_in m.progress) f.settled;
      shown = grow_row zone c events own m.row f.shown;
      pages = page_empty zone c m.row events (settled_of m.progress) next page own f.shown came (cursors_of m.merge) m.unread f.pages empty;
      waits = f.waits;
    }

  -- the page of the first shard that was not read comes next
  pub first_page : (m : Merging) (next : NextPage) (events : List OwnEvent) → MergingFits zone c m None events → m.unread < (m.row).shards → next.shard ≡ m.unread → next.after ≡ settled_of m.progress → (unread : ℕ) → unread ≡ m.unread + 1 → MergingFits zone c (record m { unread = unread }) (Some next) events
  first_page m next events f low of_shard after unread one = record {
    settled = f.settled;
    shown = f.shown;
    pages = record {
      each = (f.pages).each;
      used_up = record {
        named = subst (λ s. s < (m.row).shards) (sym of_shard) low;
        lacks = λ name clear same upto. absurd (both_ways _ (subst (λ t. is_before t name ≡ false) after upto) clear.1);
      };
      every = λ shard named. by shard ((f.pages).every shard named);
    };
    waits = λ still. f.waits low;
  }
    where
      by : (shard : ℕ) → IsCovered zone c m.row (IsAbove c (settled_of m.progress)) events (cursors_of m.merge) m.unread None shard → IsCovered zone c m.row (IsAbove c (settled_of m.progress)) events (cursors_of m.merge) unread (Some next) shard
      by shard (inl (inl upto)) =
          elim (cases_eq m.unread shard) [
            | inl same ↦ inr (inl (record { next = next; is_next = refl; of_shard = of_shard ∙ same }))
            | inr apart ↦ inl (inl (omega (arith, upto, apart, one)))
          ]
      by shard (inl (inr h)) = inl (inr (record { cursor = h.cursor; there = h.there; of_shard = h.of_shard }))
      by shard (inr (inl n)) = (let is = n.is_next in cc)
      by shard (inr (inr lacks)) = inr (inr lacks)

  -- ---- the end

  pub done_full : (m : Merging) (used : Option NextPage) (events : List OwnEvent) → MergingFits zone c m used events → nat_le (most_rows c) (length (rows_in m.progress)) ≡ true → AreShown zone c (m.row).id (rows_in m.progress) events
  done_full m used events f many = is_full zone c (m.row).id (settled_of m.progress) (rows_in m.progress) events f.settled (leb-true _ _ many)

  pub done_none : (m : Merging) (events : List OwnEvent) → MergingFits zone c m None events → IsRead m → cursors_of m.merge ≡ [] → AreShown zone c (m.row).id (rows_in m.progress) events
  done_none m events f read none =
      is_complete zone c (m.row).id (settled_of m.progress) (rows_in m.progress) events f.settled
      (λ name clear.
      let within = shard_within name (m.row).shards read.some in
      by name clear ((f.pages).every (shard_of name (m.row).shards) within) within)
    where
      by : (name : List ℕ) → (IsAbove c (settled_of m.progress)) name → IsCovered zone c m.row (IsAbove c (settled_of m.progress)) events (cursors_of m.merge) m.unread None (shard_of name (m.row).shards) → shard_of name (m.row).shards < (m.row).shards → PagedAs zone c (m.row).id name None events
      by name clear (inl (inl low)) within = (let all = read.all in absurd (omega (arith, low, within, all)))
      by name clear (inl (inr h)) within =
          let there = subst (λ cs. Contains cs h.cursor) none h.there in
          let no = there.1 in
          absurd (omega (arith, no))
      by name clear (inr (inl n)) within = (let is = n.is_next in cc)
      by name clear (inr (inr lacks)) within = lacks name clear refl

  -- ---- an entry comes out

  pub popped : (m : Merging) (merge : Merge) (cursor : Cursor) (events : List OwnEvent) → MergingFits zone c m None events → IsPermutation (cursors_of m.merge) (cursor ∷ cursors_of merge) → All (λ other. is_before (name_of other) (name_of cursor) ≡ false) (cursors_of merge) → PoppedFits zone c (record m { merge = merge }) cursor events
  popped m merge cursor events f taken least = record {
    settled = f.settled;
    shown = f.shown;
    least = least;
    pages = pages-moved zone c m.row events (IsAbove c (settled_of m.progress)) (cursors_of m.merge) (cursor ∷ cursors_of merge) m.unread None taken f.pages;
  }

  module _ (m : Merging) (cursor : Cursor) (entry : List ℕ × EntryView) (events : List OwnEvent) (read : IsRead m) (f : PoppedFits zone c m cursor events) where
    abbrev Open : List ℕ → Type 0
    Open = IsAbove c (settled_of m.progress)

    gap : (rows : List (List ℕ × EntryView)) → left_of cursor ≡ entry ∷ rows → IsGap zone c m entry.0 events
    gap rows is between clear before =
        let front : cursor.front ≡ entry = cc is in
        gap_before zone c m.row events (settled_of m.progress) cursor (cursors_of m.merge) m.unread read.some read.all f.least f.pages between clear
        (subst (λ e. is_before between e.0 ≡ true) (sym front) before)

    -- with more behind it on its page
    pub entry_some : (rest : Cursor) (merge : Merge) → left_of cursor ≡ entry ∷ left_of rest → rest.shard ≡ cursor.shard → rest.end ≡ cursor.end → IsPermutation (rest ∷ cursors_of m.merge) (cursors_of merge) → m.used_up ≡ None → EntryFits zone c (record m { merge = merge }) cursor.shard entry events
    entry_some rest merge is of_shard ends moved none = record {
      settled = f.settled;
      shown = f.shown;
      gap = gap (left_of rest) is;
      here = here zone c m.row events Open cursor (cursors_of m.merge) m.unread f.pages entry (left_of rest) is;
      pages = subst (PagesFit zone c m.row (IsOther c m cursor.shard entry.0) events (cursors_of merge) m.unread) (sym none)
          (pages-moved zone c m.row events (IsOther c m cursor.shard entry.0) (rest ∷ cursors_of m.merge) (cursors_of merge) m.unread None moved
          (some_left zone c m.row events Open cursor (cursors_of m.merge) m.unread f.pages entry rest of_shard ends is));
    }

    -- the last of its page, and of its shard
    pub entry_end : cursor.end ≡ true → left_of cursor ≡ entry ∷ [] → m.used_up ≡ None → EntryFits zone c m cursor.shard entry events
    entry_end ended is none = record {
      settled = f.settled;
      shown = f.shown;
      gap = gap [] is;
      here = here zone c m.row events Open cursor (cursors_of m.merge) m.unread f.pages entry [] is;
      pages = subst (PagesFit zone c m.row (IsOther c m cursor.shard entry.0) events (cursors_of m.merge) m.unread) (sym none)
          (none_left zone c m.row events Open cursor (cursors_of m.merge) m.unread f.pages entry ended is);
    }

    -- the last of its page
    pub entry_used : (next : NextPage) → next.shard ≡ cursor.shard → next.after ≡ entry.0 → left_of cursor ≡ entry ∷ [] → EntryFits zone c (record m { used_up = Some next }) cursor.shard entry events
    entry_used next of_shard after is = record {
      settled = f.settled;
      shown = f.shown;
      gap = gap [] is;
      here = here zone c m.row events Open cursor (cursors_of m.merge) m.unread f.pages entry [] is;
      pages = page_left zone c m.row events Open cursor (cursors_of m.merge) m.unread f.pages entry next of_shard after is;
    }

  -- ---- what becomes of it

  -- names above the entry's are clear
  above_entry : (m : Merging) (shard : ℕ) (entry : List ℕ × EntryView) → IsAbove c (settled_of m.progress) entry.0 → (name : List ℕ) → IsAbove c entry.0 name → IsOther c m shard entry.0 name
  above_entry m shard entry above name clear =
      ((clear.0, before_trans (settled_of m.progress) entry.0 name above.1 clear.1), λ same of_shard. both_ways _ (before_itself entry.0) (subst (λ t. is_before entry.0 t ≡ true) same clear.1))

  module _ (m : Merging) (shard : ℕ) (entry : List ℕ × EntryView) (events : List OwnEvent) (read : IsRead m) (f : EntryFits zone c m shard entry events) where
    reads : m.unread < (m.row).shards → m.used_up ≡ None
    reads still = (let all = read.all in absurd (omega (arith, still, all)))

    -- nothing from here on is in scope
    pub take_past : is_past c entry.0 ≡ true → AreShown zone c (m.row).id (rows_in m.progress) events
    take_past is =
        is_complete zone c (m.row).id (settled_of m.progress) (rows_in m.progress) events f.settled (λ name clear. by name clear)
      where
        by : (name : List ℕ) → IsAbove c (settled_of m.progress) name → PagedAs zone c (m.row).id name None events
        by name clear =
            elim (is_before name entry.0) as (λ b. is_before name entry.0 ≡ b → PagedAs zone c (m.row).id name None events) [
              | true ↦ λ before. f.gap name clear before
              | false ↦ λ upto. absurd (both_ways _ (past c entry.0 name is upto) clear.0)
            ] refl

    -- the entry says nothing
    pub take_skip : (IsAbove c (settled_of m.progress) entry.0 → shard_of entry.0 (m.row).shards ≡ shard → ⊥) → MergingFits zone c m m.used_up events
    take_skip never = record {
      settled = f.settled;
      shown = f.shown;
      pages = pages-narrow zone c m.row events (IsOther c m shard entry.0) (IsAbove c (settled_of m.progress))
          (λ name clear. (clear, λ same of_shard. never (subst (IsAbove c (settled_of m.progress)) same clear) (subst (λ t. shard_of t (m.row).shards ≡ shard) same of_shard)))
          (cursors_of m.merge) m.unread m.used_up f.pages;
      waits = reads;
    }

    module _ (above : IsAbove c (settled_of m.progress) entry.0) (own : shard_of entry.0 (m.row).shards ≡ shard) where
      abbrev to_it : List ListedRow → Type 0
      to_it rows = IsSettledTo zone c (m.row).id entry.0 rows events

      -- the listing goes up to the entry
      up_to_entry : (progress : Progress) (rows : List ListedRow) → settled_of progress ≡ entry.0 → rows_in progress ≡ rows → to_it rows → MergingFits zone c (record m { progress = progress }) m.used_up events
      up_to_entry progress rows at are settled = record {
        settled = subst (λ n. IsSettledTo zone c (m.row).id n (rows_in progress) events) (sym at) (subst to_it (sym are) settled);
        shown = f.shown;
        pages = subst (λ n. PagesFit zone c m.row (IsAbove c n) events (cursors_of m.merge) m.unread m.used_up) (sym at)
            (pages-narrow zone c m.row events (IsOther c m shard entry.0) (IsAbove c entry.0) (above_entry m shard entry above) (cursors_of m.merge) m.unread m.used_up f.pages);
        waits = reads;
      }

      by_page : is_settled (Some entry.1) ≡ true → IsByPage zone c (m.row).id entry.0 (entry_row (Some entry.1)) events
      by_page settled = let p = f.here above own in record { shown = Some entry.1; at = p.at; paged = p.paged; settled = settled; row_is = refl }

      pub take_none : is_settled (Some entry.1) ≡ true → ((entry.1).row).exists ≡ false → (progress : Progress) → settled_of progress ≡ entry.0 → rows_in progress ≡ rows_in m.progress → MergingFits zone c (record m { progress = progress }) m.used_up events
      take_none settled gone progress at are =
          up_to_entry progress (rows_in m.progress) at are
          (settle_none zone c (m.row).id (settled_of m.progress) (rows_in m.progress) events f.settled entry.0 above f.gap
          (inl (subst (λ row. IsByPage zone c (m.row).id entry.0 row events) (ap (λ b. cond b (Some (entry.1).row) None) gone) (by_page settled))))

      pub take_folded : (subdir : List ℕ) → subdir_of c entry.0 ≡ Some subdir → ends_with_subdir (rows_in m.progress) (Subdir subdir) ≡ true → (progress : Progress) → settled_of progress ≡ entry.0 → rows_in progress ≡ rows_in m.progress → MergingFits zone c (record m { progress = progress }) m.used_up events
      take_folded subdir is ends progress at are =
          up_to_entry progress (rows_in m.progress) at are
          (settle_folded zone c (m.row).id (settled_of m.progress) (rows_in m.progress) events f.settled entry.0 above f.gap subdir is ends)

      pub take_listed : is_settled (Some entry.1) ≡ true → ((entry.1).row).exists ≡ true → ends_with_subdir (rows_in m.progress) (listed_row c (entry.0, (entry.1).row)) ≡ false → length (rows_in m.progress) < most_rows c → (progress : Progress) → settled_of progress ≡ entry.0 → rows_in progress ≡ rows_in m.progress ++ listed_row c (entry.0, (entry.1).row) ∷ [] → MergingFits zone c (record m { progress = progress }) m.used_up events
      take_listed settled exists unlisted room progress at are =
          up_to_entry progress (rows_in m.progress ++ listed_row c (entry.0, (entry.1).row) ∷ []) at are
          (settle_listed zone c (m.row).id (settled_of m.progress) (rows_in m.progress) events f.settled entry.0 above f.gap (entry.1).row
          (inl (subst (λ row. IsByPage zone c (m.row).id entry.0 row events) (ap (λ b. cond b (Some (entry.1).row) None) exists) (by_page settled))) unlisted room)

      -- the name is there, or is not
      pub take_due : is_settled (Some entry.1) ≡ true → ((row : RowView) → ends_with_subdir (rows_in m.progress) (listed_row c (entry.0, row)) ≡ false) → length (rows_in m.progress) < most_rows c → (progress : Progress) → settled_of progress ≡ entry.0 → rows_in progress ≡ rows_with c (rows_in m.progress) entry.0 (row_if_there (entry.1).row) → MergingFits zone c (record m { progress = progress }) m.used_up events
      take_due settled unlisted room progress at are =
          elim ((entry.1).row).exists as (λ b. ((entry.1).row).exists ≡ b → MergingFits zone c (record m { progress = progress }) m.used_up events) [
            | true ↦ λ exists. take_listed settled exists (unlisted (entry.1).row) room progress at (are ∙ ap (λ b. rows_with c (rows_in m.progress) entry.0 (cond b (Some (entry.1).row) None)) exists)
            | false ↦ λ gone. take_none settled gone progress at (are ∙ ap (λ b. rows_with c (rows_in m.progress) entry.0 (cond b (Some (entry.1).row) None)) gone)
          ] refl

      pub take_head : is_unsettled entry.1 ≡ true → ((thing : RowView) → ends_with_subdir (rows_in m.progress) (listed_row c (entry.0, thing)) ≡ false) → length (rows_in m.progress) < most_rows c → HeadFits zone c m entry.0 events
      take_head tagged unlisted room =
          let p = f.here above own in
          record {
            settled = f.settled;
            above = above;
            room = room;
            unlisted = unlisted;
            gap = f.gap;
            at = p.at;
            unsettled = record { entry = entry.1; tagged = tagged; paged = p.paged };
            shown = f.shown;
            pages = pages-narrow zone c m.row events (IsOther c m shard entry.0) (IsAbove c entry.0) (above_entry m shard entry above) (cursors_of m.merge) m.unread m.used_up f.pages;
            read = read.all;
          }

  -- ---- the head of a name came

  module _ (m : Merging) (name : List ℕ) (slot : SeenSlot) (events : List OwnEvent) (own : OwnEvent) (f : HeadFits zone c m name events) (came : IsHeadEvent zone (m.row).id name slot events own) where
    abbrev after_it : List OwnEvent
    after_it = events ++ own ∷ []

    settled_then : IsSettledTo zone c (m.row).id (settled_of m.progress) (rows_in m.progress) after_it
    settled_then = grow_settled zone c events own (m.row).id (settled_of m.progress) (rows_in m.progress) f.settled

    gap_then : (between : List ℕ) → IsAbove c (settled_of m.progress) between → is_before between name ≡ true → PagedAs zone c (m.row).id between None after_it
    gap_then between clear before = grow_paged_as zone c events own (m.row).id between None (f.gap between clear before)

    by_head : IsByHead zone c (m.row).id name (slot_row slot) after_it
    by_head =
        let paged = (f.unsettled).paged in
        let at_last = All-contains (λ e. e.number < own.number) events paged.page came.later paged.paged in
        record {
          at = f.at;
          unsettled = grow_unsettled zone c events own (m.row).id name f.at f.unsettled;
          head = own;
          read = Contains-push events own;
          later = subst (λ n. n < own.number) paged.number at_last;
          asks = came.asks;
          seen = came.seen;
          clock = came.clock;
          told = came.told;
          row_is = ap slot_row came.slot_is;
        }

    up_to_name : (progress : Progress) (rows : List ListedRow) → settled_of progress ≡ name → rows_in progress ≡ rows → IsSettledTo zone c (m.row).id name rows after_it → MergingFits zone c (record m { progress = progress }) m.used_up after_it
    up_to_name progress rows at are settled = record {
      settled = subst (λ n. IsSettledTo zone c (m.row).id n (rows_in progress) after_it) (sym at) (subst (λ rs. IsSettledTo zone c (m.row).id name rs after_it) (sym are) settled);
      shown = grow_row zone c events own m.row f.shown;
      pages = subst (λ n. PagesFit zone c m.row (IsAbove c n) after_it (cursors_of m.merge) m.unread m.used_up) (sym at)
          (grow_pages zone c events own m.row (IsAbove c name) (cursors_of m.merge) m.unread m.used_up f.pages);
      waits = λ still. (let all = f.read in absurd (omega (arith, still, all)));
    }

    pub head_none : slot_row slot ≡ None → (progress : Progress) → settled_of progress ≡ name → rows_in progress ≡ rows_in m.progress → MergingFits zone c (record m { progress = progress }) m.used_up after_it
    head_none gone progress at are =
        up_to_name progress (rows_in m.progress) at are
        (settle_none zone c (m.row).id (settled_of m.progress) (rows_in m.progress) after_it settled_then name f.above gap_then
        (inr (subst (λ row. IsByHead zone c (m.row).id name row after_it) gone by_head)))

    pub head_listed : (row : RowView) → slot_row slot ≡ Some row → (progress : Progress) → settled_of progress ≡ name → rows_in progress ≡ rows_in m.progress ++ listed_row c (name, row) ∷ [] → MergingFits zone c (record m { progress = progress }) m.used_up after_it
    head_listed row live progress at are =
        up_to_name progress (rows_in m.progress ++ listed_row c (name, row) ∷ []) at are
        (settle_listed zone c (m.row).id (settled_of m.progress) (rows_in m.progress) after_it settled_then name f.above gap_then row
        (inr (subst (λ r. IsByHead zone c (m.row).id name r after_it) live by_head)) (f.unlisted row) f.room)

    -- the head shows an object, or none
    pub head_came : (progress : Progress) → settled_of progress ≡ name → rows_in progress ≡ rows_with c (rows_in m.progress) name (slot_row slot) → MergingFits zone c (record m { progress = progress }) m.used_up after_it
    head_came progress at are =
        elim (slot_row slot) as (λ o. slot_row slot ≡ o → MergingFits zone c (record m { progress = progress }) m.used_up after_it) [
          | None ↦ λ gone. head_none gone progress at (are ∙ ap (rows_with c (rows_in m.progress) name) gone)
          | Some row ↦ λ live. head_listed row live progress at (are ∙ ap (rows_with c (rows_in m.progress) name) live)
        ] refl

  -- the page that comes next was taken
  pub used_taken : (m : Merging) (next : NextPage) (events : List OwnEvent) → m.used_up ≡ Some next → MergingFits zone c m m.used_up events → MergingFits zone c (record m { used_up = None }) (Some next) events
  used_taken m next events is f = record {
    settled = f.settled;
    shown = f.shown;
    pages = subst (PagesFit zone c m.row (IsAbove c (settled_of m.progress)) events (cursors_of m.merge) m.unread) is f.pages;
    waits = λ still. refl;
  }

  -- no page comes next
  pub none_taken : (m : Merging) (used : Option NextPage) (events : List OwnEvent) → used ≡ None → m.used_up ≡ None → MergingFits zone c m m.used_up events → MergingFits zone c (record m { used_up = used }) None events
  none_taken m used events now was f = record {
    settled = f.settled;
    shown = f.shown;
    pages = subst (PagesFit zone c m.row (IsAbove c (settled_of m.progress)) events (cursors_of m.merge) m.unread) was f.pages;
    waits = λ still. now;
  }

pub read_same : (m n : Merging) → IsRead m → n.row ≡ m.row → n.unread ≡ m.unread → IsRead n
read_same m n read row unread = record {
  some = subst (λ (b : Bucket). 0 < b.shards) (sym row) read.some;
  all = subst (λ (b : Bucket). b.shards ≤ n.unread) (sym row) (subst (λ u. (m.row).shards ≤ u) (sym unread) read.all);
}

-- ---- results

pub if_ok : {X Y : Type 0} (r : Result X Y) (P : Type 0) → P → IfOk r (λ _. P)
if_ok (Ok x) P p = p
if_ok (Err e) P p = tt

pub on_ok_both : {X Y : Type 0} (r : Result X Y) (P Q R : Type 0) → (P → Q → R) → OnOk r P → OnOk r Q → OnOk r R
on_ok_both (Ok x) P Q R both p q = both p q
on_ok_both (Err e) P Q R both p q = tt
