-- Entries pass out of the pages at hand, and pages come.
use Rattle.std.proofs.Common.{◌≡◌, ◌≢◌, ℕ, ◌<◌, ◌≤◌, ◌⊎◌, Bool, true, false, List, [], ◌∷◌, ◌++◌, Option, Some, None, inl, inr, zero, suc, refl, sym, ◌∙◌, ap, subst, arith}
use Rattle.std.specs.List.{All, Contains}
use Rattle.std.specs.List.Sorted.{IsPermutation}
use Rattle.std.specs.FinMap.Entries.{find}
use Rattle.std.proofs.lemmas.Bool.{both_ways, cases_eq}
use Rattle.std.proofs.lemmas.List.Elements.{All-cons, All-head, All-tail, All-weaker, All-contains, Contains-push, Contains-append_left}
use Rattle.std.proofs.lemmas.List.Sorted.{All-permutation, Contains-permutation}
use Rattle.object_words.specs.declared.bucket.Bucket.{Bucket}
use Rattle.object_words.specs.declared.entry.EntryPage.{EntryPage}
use Rattle.object_words.specs.Entries.{EntryView}
use Rattle.object_words.specs.Hashes.{shard_of}
use Rattle.object_words.specs.Names.{name_cmp}
use Rattle.realm_model.specs.Owns.{OwnEvent}
use Rattle.list_words.specs.declared.command.ListCommand.{ListCommand}
use Rattle.list_words.specs.Listings.{is_before}
use Rattle.list_words.proofs.Texts.{before_itself, before_upto}
use Rattle.task_list.specs.declared.cursor.Cursor.{Cursor}
use Rattle.task_list.specs.declared.merging.NextPage.{NextPage}
use Rattle.task_list.specs.Cursors.{left_of, name_of}
use Rattle.task_list.specs.Listed.{PageRows, reaches, asks_page}
use Rattle.task_list.specs.Stages.{PagedAs, IsRowShown, EntriesFit, CursorFits, Lacks, IsUsedUp, UsedUp, IsCovered, PagesFit, IsAbove, IsPageEvent}
use Rattle.task_list.proofs.Names.{find-below, find-head, find-other, find-none, rest_rises, reaches-before, reaches-first, reaches_by}
use Rattle.task_list.proofs.Growing.{grow_paged_as, grow_pages}

some_is : {X : Type 0} {x y : X} → Some x ≡ Some y → x ≡ y
some_is same = cc

pub shard_within : (name : List ℕ) (shards : ℕ) → 0 < shards → shard_of name shards < shards
shard_within name shards some = omega arith

-- what stands in a list with one more in front
pub in_front : {X : Type 0} (x : X) (xs : List X) (y : X) → Contains (x ∷ xs) y → (x ≡ y) ⊎ Contains xs y
in_front x xs y (zero, within, is) = inl is
in_front x xs y (suc k, within, is) = inr (k, omega (arith, within), is)

pub at_front : {X : Type 0} (x : X) (xs : List X) → Contains (x ∷ xs) x
at_front x xs = (0, omega arith, refl)

pub behind_front : {X : Type 0} (x : X) (xs : List X) (y : X) → Contains xs y → Contains (x ∷ xs) y
behind_front x xs y there = (suc there.0, (let within = there.1 in omega (arith, within)), there.2)

module _ (zone : ℕ) (c : ListCommand) (row : Bucket) (events : List OwnEvent) where
  module _ (Open Fewer : List ℕ → Type 0) (narrow : (name : List ℕ) → Fewer name → Open name) where
    pub entries-narrow : (shard : ℕ) (end : Bool) (rows : PageRows) → EntriesFit zone c row Open events shard end rows → EntriesFit zone c row Fewer events shard end rows
    entries-narrow shard end rows f = record { named = f.named; rise = f.rise; shows = λ name clear of_shard reach. f.shows name (narrow name clear) of_shard reach }

    cursor-narrow : (cursor : Cursor) → CursorFits zone c row Open events cursor → CursorFits zone c row Fewer events cursor
    cursor-narrow cursor f = entries-narrow cursor.shard cursor.end (left_of cursor) f

    pub each-narrow : (cursors : List Cursor) → All (CursorFits zone c row Open events) cursors → All (CursorFits zone c row Fewer events) cursors
    each-narrow cursors each = All-weaker (CursorFits zone c row Open events) (CursorFits zone c row Fewer events) cursor-narrow cursors each

    pub lacks-narrow : (shard : ℕ) → Lacks zone c row Open events shard → Lacks zone c row Fewer events shard
    lacks-narrow shard lacks = λ name clear of_shard. lacks name (narrow name clear) of_shard

    pub used-narrow : (used : Option NextPage) → UsedUp zone c row Open events used → UsedUp zone c row Fewer events used
    used-narrow None u = tt
    used-narrow (Some next) u = record { named = u.named; lacks = λ name clear of_shard upto. u.lacks name (narrow name clear) of_shard upto }

    pub covered-narrow : (cursors : List Cursor) (unread : ℕ) (used : Option NextPage) (shard : ℕ) → IsCovered zone c row Open events cursors unread used shard → IsCovered zone c row Fewer events cursors unread used shard
    covered-narrow cursors unread used shard (inl (inl low)) = inl (inl low)
    covered-narrow cursors unread used shard (inl (inr h)) = inl (inr (record { cursor = h.cursor; there = h.there; of_shard = h.of_shard }))
    covered-narrow cursors unread used shard (inr (inl n)) = inr (inl (record { next = n.next; is_next = n.is_next; of_shard = n.of_shard }))
    covered-narrow cursors unread used shard (inr (inr lacks)) = inr (inr (lacks-narrow shard lacks))

    pub pages-narrow : (cursors : List Cursor) (unread : ℕ) (used : Option NextPage) → PagesFit zone c row Open events cursors unread used → PagesFit zone c row Fewer events cursors unread used
    pages-narrow cursors unread used p = record {
      each = each-narrow cursors p.each;
      used_up = used-narrow used p.used_up;
      every = λ shard named. covered-narrow cursors unread used shard (p.every shard named);
    }

  module _ (Open : List ℕ → Type 0) where
    covered-moved : (one other : List Cursor) (unread : ℕ) (used : Option NextPage) (shard : ℕ) → IsPermutation one other → IsCovered zone c row Open events one unread used shard → IsCovered zone c row Open events other unread used shard
    covered-moved one other unread used shard moved (inl (inl low)) = inl (inl low)
    covered-moved one other unread used shard moved (inl (inr h)) = inl (inr (record { cursor = h.cursor; there = Contains-permutation one other h.cursor moved h.there; of_shard = h.of_shard }))
    covered-moved one other unread used shard moved (inr rest) = inr (elim rest [
      | inl n ↦ inl (record { next = n.next; is_next = n.is_next; of_shard = n.of_shard })
      | inr lacks ↦ inr lacks
    ])

    -- the pages may stand in another order
    pub pages-moved : (one other : List Cursor) (unread : ℕ) (used : Option NextPage) → IsPermutation one other → PagesFit zone c row Open events one unread used → PagesFit zone c row Open events other unread used
    pages-moved one other unread used moved p = record {
      each = All-permutation (CursorFits zone c row Open events) one other moved p.each;
      used_up = p.used_up;
      every = λ shard named. covered-moved one other unread used shard moved (p.every shard named);
    }

  -- ---- a page was taken out whose first name is the least

  module _ (settled : List ℕ) (cursor : Cursor) (others : List Cursor) (unread : ℕ) (some : 0 < row.shards) (all : row.shards ≤ unread)
      (least : All (λ other. is_before (name_of other) (name_of cursor) ≡ false) others) (p : PagesFit zone c row (IsAbove c settled) events (cursor ∷ others) unread None) where
    abbrev lower : All (λ other. is_before (name_of other) (name_of cursor) ≡ false) (cursor ∷ others)
    lower = All-cons (λ other. is_before (name_of other) (name_of cursor) ≡ false) cursor others (before_itself (name_of cursor)) least

    -- no name is there before the first
    pub gap_before : (name : List ℕ) → IsAbove c settled name → is_before name (name_of cursor) ≡ true → PagedAs zone c row.id name None events
    gap_before name clear before =
        let within = shard_within name row.shards some in
        by (p.every (shard_of name row.shards) within) within
      where
        by : IsCovered zone c row (IsAbove c settled) events (cursor ∷ others) unread None (shard_of name row.shards) → shard_of name row.shards < row.shards → PagedAs zone c row.id name None events
        by (inl (inl low)) within = absurd (omega (arith, low, within, all))
        by (inl (inr h)) within =
            let d = h.cursor in
            let fits = All-contains (CursorFits zone c row (IsAbove c settled) events) (cursor ∷ others) d p.each h.there in
            let upto = All-contains (λ other. is_before (name_of other) (name_of cursor) ≡ false) (cursor ∷ others) d lower h.there in
            let earlier : is_before name (name_of d) ≡ true = before_upto name (name_of cursor) (name_of d) before upto in
            subst (λ o. PagedAs zone c row.id name o events) (find-below name d.front _ fits.rise earlier)
            (fits.shows name clear (sym h.of_shard) (reaches-before d.end d.front _ name fits.rise earlier))
        by (inr (inl n)) within = (let is = n.is_next in cc)
        by (inr (inr lacks)) within = lacks name clear refl

  -- the shard of the cursor, in front of the others, or another
  module _ (Open : List ℕ → Type 0) (cursor : Cursor) (others : List Cursor) (unread : ℕ) where
    pub covered-other : (used : Option NextPage) (cursors : List Cursor) → ((d : Cursor) → Contains others d → Contains cursors d) → (shard : ℕ) → (cursor.shard ≢ shard) → IsCovered zone c row Open events (cursor ∷ others) unread None shard → IsCovered zone c row Open events cursors unread used shard
    covered-other used cursors kept shard apart (inl (inl low)) = inl (inl low)
    covered-other used cursors kept shard apart (inl (inr h)) =
        elim (in_front cursor others h.cursor h.there) [
          | inl same ↦ absurd (apart (ap (λ (d : Cursor). d.shard) same ∙ h.of_shard))
          | inr there ↦ inl (inr (record { cursor = h.cursor; there = kept h.cursor there; of_shard = h.of_shard }))
        ]
    covered-other used cursors kept shard apart (inr (inl n)) = (let is = n.is_next in cc)
    covered-other used cursors kept shard apart (inr (inr lacks)) = inr (inr lacks)

  -- ---- its first entry

  -- the clear names but for one name of one shard
  abbrev IsBut : (List ℕ → Type 0) → ℕ → List ℕ → List ℕ → Type 0
  IsBut Open shard name other = Open other × ((other ≡ name) → shard_of other row.shards ≡ shard → ⊥)

  module _ (Open : List ℕ → Type 0) (shard : ℕ) (end : Bool) (entry : List ℕ × EntryView) where
    -- what the entry shows
    pub entry_shows : (rows : PageRows) → EntriesFit zone c row Open events shard end (entry ∷ rows) → Open entry.0 → shard_of entry.0 row.shards ≡ shard → PagedAs zone c row.id entry.0 (Some entry.1) events
    entry_shows rows f clear of_shard =
        subst (λ o. PagedAs zone c row.id entry.0 o events) (find-head entry.0 entry.1 rows) (f.shows entry.0 clear of_shard (reaches-first end entry rows f.rise))

    -- what is left without it
    pub rest_fits : (next : List ℕ × EntryView) (rows : PageRows) → EntriesFit zone c row Open events shard end (entry ∷ next ∷ rows) → EntriesFit zone c row (IsBut Open shard entry.0) events shard end (next ∷ rows)
    rest_fits next rows f = record {
      named = f.named;
      rise = rest_rises entry (next ∷ rows) f.rise;
      shows = λ name clear of_shard reach.
          subst (λ o. PagedAs zone c row.id name o events) (find-other name entry (next ∷ rows) (λ same. clear.1 same of_shard)) (f.shows name clear.0 of_shard reach);
    }

    last_lacks : EntriesFit zone c row Open events shard end (entry ∷ []) → (name : List ℕ) → IsBut Open shard entry.0 name → shard_of name row.shards ≡ shard → reaches end (entry ∷ []) name ≡ true → PagedAs zone c row.id name None events
    last_lacks f name clear of_shard reach =
        subst (λ o. PagedAs zone c row.id name o events) (find-other name entry [] (λ same. clear.1 same of_shard)) (f.shows name clear.0 of_shard reach)

    -- nothing is left, and nothing stands behind the page
    pub end_lacks : end ≡ true → EntriesFit zone c row Open events shard end (entry ∷ []) → Lacks zone c row (IsBut Open shard entry.0) events shard
    end_lacks ended f = λ name clear of_shard. last_lacks f name clear of_shard (ap (λ b. reaches b (entry ∷ []) name) ended)

    -- nothing is left up to the page's end
    pub used_lacks : EntriesFit zone c row Open events shard end (entry ∷ []) → (name : List ℕ) → IsBut Open shard entry.0 name → shard_of name row.shards ≡ shard → is_before entry.0 name ≡ false → PagedAs zone c row.id name None events
    used_lacks f name clear of_shard upto = last_lacks f name clear of_shard (reaches_by end (entry ∷ []) name upto)

  module _ (Open : List ℕ → Type 0) (cursor : Cursor) (others : List Cursor) (unread : ℕ) (p : PagesFit zone c row Open events (cursor ∷ others) unread None) (entry : List ℕ × EntryView) where
    abbrev shard : ℕ
    shard = cursor.shard

    abbrev But : List ℕ → Type 0
    But = IsBut Open shard entry.0

    first_fits : (rows : PageRows) → left_of cursor ≡ entry ∷ rows → EntriesFit zone c row Open events shard cursor.end (entry ∷ rows)
    first_fits rows is = subst (EntriesFit zone c row Open events shard cursor.end) is (All-head (CursorFits zone c row Open events) cursor others p.each)

    others_fit : All (CursorFits zone c row But events) others
    others_fit = each-narrow Open But (λ name clear. clear.0) others (All-tail (CursorFits zone c row Open events) cursor others p.each)

    pub here : (rows : PageRows) → left_of cursor ≡ entry ∷ rows → Open entry.0 → shard_of entry.0 row.shards ≡ shard → PagedAs zone c row.id entry.0 (Some entry.1) events
    here rows is = entry_shows Open shard cursor.end entry rows (first_fits rows is)

    by_shard : (used : Option NextPage) (cursors : List Cursor) → ((d : Cursor) → Contains others d → Contains cursors d) → IsCovered zone c row But events cursors unread used shard
        → (k : ℕ) → k < row.shards → IsCovered zone c row But events cursors unread used k
    by_shard used cursors kept own k within =
        elim (cases_eq shard k) [
          | inl same ↦ subst (IsCovered zone c row But events cursors unread used) same own
          | inr apart ↦ covered-narrow Open But (λ name clear. clear.0) cursors unread used k (covered-other Open cursor others unread used cursors kept k apart (p.every k within))
        ]

    -- something is left of the page
    pub some_left : (rest : Cursor) → rest.shard ≡ shard → rest.end ≡ cursor.end → left_of cursor ≡ entry ∷ left_of rest → PagesFit zone c row But events (rest ∷ others) unread None
    some_left rest of_shard ends is =
        let fits : EntriesFit zone c row But events shard cursor.end (left_of rest) = rest_fits Open shard cursor.end entry rest.front _ (first_fits (left_of rest) is) in
        let again : CursorFits zone c row But events rest = subst (λ e. EntriesFit zone c row But events rest.shard e (left_of rest)) (sym ends) (subst (λ s. EntriesFit zone c row But events s cursor.end (left_of rest)) (sym of_shard) fits) in
        record {
          each = All-cons (CursorFits zone c row But events) rest others again others_fit;
          used_up = tt;
          every = by_shard None (rest ∷ others) (λ d there. behind_front rest others d there) (inl (inr (record { cursor = rest; there = at_front rest others; of_shard = of_shard })));
        }

    -- nothing is left of it, nor behind it
    pub none_left : cursor.end ≡ true → left_of cursor ≡ entry ∷ [] → PagesFit zone c row But events others unread None
    none_left ended is = record {
      each = others_fit;
      used_up = tt;
      every = by_shard None others (λ d there. there) (inr (inr (end_lacks Open shard cursor.end entry ended (first_fits [] is))));
    }

    -- nothing is left of it, and something may stand behind it
    pub page_left : (next : NextPage) → next.shard ≡ shard → next.after ≡ entry.0 → left_of cursor ≡ entry ∷ [] → PagesFit zone c row But events others unread (Some next)
    page_left next of_shard after is =
        let f = first_fits [] is in
        record {
          each = others_fit;
          used_up = record {
            named = subst (λ s. s < row.shards) (sym of_shard) f.named;
            lacks = λ name clear same upto. used_lacks Open shard cursor.end entry f name clear (same ∙ of_shard) (subst (λ t. is_before t name ≡ false) after upto);
          };
          every = by_shard (Some next) others (λ d there. there) (inr (inl (record { next = next; is_next = refl; of_shard = of_shard })));
        }

  -- ---- a page comes

  module _ (settled : List ℕ) (next : NextPage) (page : EntryPage) (own : OwnEvent) (shown : IsRowShown zone c row events) (came : IsPageEvent zone row next page events own) where
    abbrev Above : List ℕ → Type 0
    Above = IsAbove c settled

    abbrev after_it : List OwnEvent
    after_it = events ++ own ∷ []

    -- the page shows each name above the one that it was asked above
    by_page : (name : List ℕ) → is_before next.after name ≡ true → shard_of name row.shards ≡ next.shard → reaches page.end page.rows name ≡ true → PagedAs zone c row.id name (find name_cmp name page.rows) after_it
    by_page name above of_shard reach = record {
      at = own.number;
      paged = record {
        look = shown.look;
        page = own;
        looked = Contains-append_left events (own ∷ []) shown.look shown.looked;
        paged = Contains-push events own;
        in_order = All-contains (λ e. e.number < own.number) events shown.look came.later shown.looked;
        row = row;
        looks = shown.looks;
        told_row = shown.told;
        in_container = refl;
        after = next.after;
        asks = came.asks ∙ ap (λ s. asks_page zone row s next.after) (sym of_shard);
        above = above;
        entries = page;
        told = came.told;
        within = reach;
        shows = refl;
        number = refl;
      };
    }

    not_there : (name : List ℕ) → is_before next.after name ≡ false → find name_cmp name page.rows ≡ None
    not_there name upto =
        find-none name page.rows (All-weaker (λ e. is_before next.after e.0 ≡ true) (λ e. name ≢ e.0)
        (λ e above same. both_ways _ upto (subst (λ t. is_before next.after t ≡ true) (sym same) above)) page.rows (came.rows).above)

    page_fits : IsUsedUp zone c row Above events next → EntriesFit zone c row Above after_it next.shard page.end page.rows
    page_fits used = record {
      named = used.named;
      rise = (came.rows).rise;
      shows = λ name clear of_shard reach. by_side name clear of_shard reach;
    }
      where
        by_side : (name : List ℕ) → Above name → shard_of name row.shards ≡ next.shard → reaches page.end page.rows name ≡ true → PagedAs zone c row.id name (find name_cmp name page.rows) after_it
        by_side name clear of_shard reach =
            elim (is_before next.after name) as (λ b. is_before next.after name ≡ b → PagedAs zone c row.id name (find name_cmp name page.rows) after_it) [
              | true ↦ λ above. by_page name above of_shard reach
              | false ↦ λ upto. subst (λ o. PagedAs zone c row.id name o after_it) (sym (not_there name upto)) (grow_paged_as zone c events own row.id name None (used.lacks name clear of_shard upto))
            ] refl

    module _ (cursors : List Cursor) (unread : ℕ) (p : PagesFit zone c row Above events cursors unread (Some next)) where
      others_grown : PagesFit zone c row Above after_it cursors unread (Some next)
      others_grown = grow_pages zone c events own row Above cursors unread (Some next) p

      by_next : (now : List Cursor) → ((d : Cursor) → Contains cursors d → Contains now d) → IsCovered zone c row Above after_it now unread None next.shard → (k : ℕ) → k < row.shards → IsCovered zone c row Above after_it now unread None k
      by_next now kept own_shard k within =
          elim (cases_eq next.shard k) [
            | inl same ↦ subst (IsCovered zone c row Above after_it now unread None) same own_shard
            | inr apart ↦ other (others_grown.every k within) apart
          ]
        where
          other : IsCovered zone c row Above after_it cursors unread (Some next) k → (next.shard ≢ k) → IsCovered zone c row Above after_it now unread None k
          other (inl (inl low)) apart = inl (inl low)
          other (inl (inr h)) apart = inl (inr (record { cursor = h.cursor; there = kept h.cursor h.there; of_shard = h.of_shard }))
          other (inr (inl n)) apart = absurd (apart ((let is : next ≡ n.next = some_is n.is_next in ap (λ (x : NextPage). x.shard) is) ∙ n.of_shard))
          other (inr (inr lacks)) apart = inr (inr lacks)

      -- with entries
      pub page_put : (cursor : Cursor) → cursor.shard ≡ next.shard → cursor.end ≡ page.end → left_of cursor ≡ page.rows → PagesFit zone c row Above after_it (cursor ∷ cursors) unread None
      page_put cursor of_shard ends is =
          let fits = page_fits p.used_up in
          let again : CursorFits zone c row Above after_it cursor =
          subst (λ rs. EntriesFit zone c row Above after_it cursor.shard cursor.end rs) (sym is)
          (subst (λ e. EntriesFit zone c row Above after_it cursor.shard e page.rows) (sym ends)
          (subst (λ s. EntriesFit zone c row Above after_it s page.end page.rows) (sym of_shard) fits)) in
          record {
            each = All-cons (CursorFits zone c row Above after_it) cursor cursors again others_grown.each;
            used_up = tt;
            every = by_next (cursor ∷ cursors) (λ d there. behind_front cursor cursors d there) (inl (inr (record { cursor = cursor; there = at_front cursor cursors; of_shard = of_shard })));
          }

      -- with none
      pub page_empty : page.rows ≡ [] → PagesFit zone c row Above after_it cursors unread None
      page_empty empty =
          let fits = page_fits p.used_up in
          record {
            each = others_grown.each;
            used_up = tt;
            every = by_next cursors (λ d there. there) (inr (inr (λ name clear of_shard.
                subst (λ o. PagedAs zone c row.id name o after_it) (ap (λ rs. find name_cmp name rs) empty)
                (fits.shows name clear of_shard (ap (λ b. reaches b page.rows name) ((came.rows).some empty))))));
          }
