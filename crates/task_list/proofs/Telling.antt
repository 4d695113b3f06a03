-- What own events told, from stage to stage of a listing.
use Rattle.std.proofs.Common.{◌≡◌, ◌≢◌, ℕ, ◌+◌, ◌<◌, ◌≤◌, ◌==◌, ◌&&◌, nat_le, Bool, true, false, T, cond, List, [], ◌∷◌, slice_index_or, Option, Some, None, refl, sym, ◌∙◌, ap, subst, arith}
use Rattle.std.specs.List.{All}
use Rattle.std.specs.List.Sorted.{IsPermutation}
use Rattle.std.specs.FinMap.Entries.{find, below_all, is_sorted}
use Rattle.std.proofs.lemmas.Bool.{both_ways}
use Rattle.std.proofs.lemmas.Bool.Decides.{nat_tests}
use Rattle.std.proofs.lemmas.List.Elements.{All-nil, All-cons, All-head, All-tail, All-weaker}
use Rattle.std.proofs.lemmas.List.Sorted.{All-permutation, sum_by-IsPermutation}
use Rattle.std.proofs.lemmas.List.Sums.{sum_by-cons}
use Rattle.rgw_types.specs.declared.pool_key.Key.{Key}
use Rattle.object_words.specs.declared.bucket.Bucket.{Bucket}
use Rattle.object_words.specs.declared.entry.EntryPage.{EntryPage}
use Rattle.object_words.specs.declared.head.HeadSeen.{HeadSeen}
use Rattle.object_words.specs.Entries.{EntryView}
use Rattle.object_words.specs.Hashes.{shard_of}
use Rattle.object_words.specs.Heads.{row_of}
use Rattle.object_words.specs.Keys.{is_key, shard_key, number_of}
use Rattle.object_words.specs.Names.{name_cmp}
use Rattle.object_words.specs.Tags.{has_due}
use Rattle.object_words.proofs.KeyLemmas.{key_itself, number_itself, same_key}
use Rattle.realm_model.specs.declared.op.Op.{Op}
use Rattle.realm_model.specs.declared.op.Op.TheVariants.{Suggest}
use Rattle.list_words.specs.Listings.{is_before}
use Rattle.task_list.specs.declared.cursor.Cursor.{Cursor}
use Rattle.task_list.specs.declared.merging.Due.{Due}
use Rattle.task_list.specs.declared.merge.Merge.{Merge}
use Rattle.task_list.specs.declared.merging.Merging.{Merging}
use Rattle.task_list.specs.declared.merging.NextPage.{NextPage}
use Rattle.task_list.specs.declared.stage.Suggestion.{Suggestion}
use Rattle.task_list.specs.Cursors.{left_of}
use Rattle.task_list.specs.Merges.{cursors_of}
use Rattle.task_list.specs.Repairs.{EntrySeen, Told, told_row, key_of, entry_seen, seen_on, may_stand, suggestion}
use Rattle.task_list.specs.Sightings.{pages_of, next_of, IsAsTold, AreTold, MergingTold, PoppedTold, with_page, due_of, suggestion_due, asks_suggestion}
use Rattle.task_list.proofs.Names.{truth, find-head, find-other, before_apart}

-- ---- names of a page

below : {X : Type 0} (n : List ℕ) (es : List (List ℕ × X)) → T (below_all name_cmp n es) → All (λ e. is_before n e.0 ≡ true) es
below n [] low = All-nil (λ e. is_before n e.0 ≡ true)
below n (e ∷ es) low = All-cons (λ f. is_before n f.0 ≡ true) e es (truth _ (first _ _ low)) (below n es (rest _ _ low))
  where
    first : (a b : Bool) → T (a && b) → T a
    first true b p = tt
    first false b p = absurd p

    rest : (a b : Bool) → T (a && b) → T b
    rest true b p = p
    rest false b p = absurd p

-- a sorted list has each of its entries under the entry's name
pub found : {X : Type 0} (es : List (List ℕ × X)) → T (is_sorted name_cmp es) → All (λ e. find name_cmp e.0 es ≡ Some e.1) es
found [] rise = All-nil (λ e. find name_cmp e.0 [] ≡ Some e.1)
found (e ∷ es) rise =
    let above = below e.0 es (first _ _ rise) in
    let again = found es (rest _ _ rise) in
    All-cons (λ f. find name_cmp f.0 (e ∷ es) ≡ Some f.1) e es (find-head e.0 e.1 es)
    (λ k d within. find-other _ e es (λ same. before_apart _ _ (above k d within) (sym same)) ∙ again k d within)
  where
    first : (a b : Bool) → T (a && b) → T a
    first true b p = tt
    first false b p = absurd p

    rest : (a b : Bool) → T (a && b) → T b
    rest true b p = p
    rest false b p = absurd p

-- ---- pages of a shard

abbrev one_if : Bool → ℕ
one_if b = cond b 1 0

at_most_one : (b : Bool) → one_if b ≤ 1
at_most_one true = omega arith
at_most_one false = omega arith

not_same : (a b : ℕ) → (a == b) ≡ false → a ≢ b
not_same a b is same = both_ways _ is (subst (λ n. (a == n) ≡ true) same (number_itself a))

-- no page is of a shard of which there is none
pub none_of : (shard : ℕ) (cursors : List Cursor) → pages_of shard cursors ≡ 0 → All (λ (c : Cursor). c.shard ≢ shard) cursors
none_of shard [] none = All-nil (λ (c : Cursor). c.shard ≢ shard)
none_of shard (c ∷ cs) none =
    let sum = sum_by-cons (λ (d : Cursor). one_if (d.shard == shard)) c cs in
    elim (c.shard == shard) as (λ b. (c.shard == shard) ≡ b → All (λ (d : Cursor). d.shard ≢ shard) (c ∷ cs)) [
      | true ↦ λ is. let one = ap one_if is in absurd (omega (arith, sum, none, one))
      | false ↦ λ is.
          let zero = ap one_if is in
          All-cons (λ (d : Cursor). d.shard ≢ shard) c cs (not_same _ _ is) (none_of shard cs (omega (arith, sum, none, zero)))
    ] refl

-- the next shard is asked for
asked_next : (pages used unread shard : ℕ) → pages + used + one_if (nat_le unread shard) ≤ 1 → pages + one_if (unread == shard) + one_if (nat_le (unread + 1) shard) ≤ 1
asked_next pages used unread shard once = grind (arith, nat_tests, once)

-- ---- steps

module _ (row : Bucket) where
  pub told_first : (cursors : List Cursor) → cursors ≡ [] → 0 < row.shards → AreTold row cursors 0 None (told_row (Some row))
  told_first cursors none some = record {
    row_is = refl;
    some = some;
    once = λ shard. (let zero = ap (pages_of shard) none in let one = at_most_one (nat_le 0 shard) in omega (arith, zero, one));
    told = subst (λ cs. All (IsAsTold row (told_row (Some row)).seen) cs) (sym none) (All-nil (IsAsTold row (told_row (Some row)).seen));
  }

  -- in another order
  pub told_moved : (one other : List Cursor) (unread : ℕ) (used : Option NextPage) (t : Told) → IsPermutation one other → AreTold row one unread used t → AreTold row other unread used t
  told_moved one other unread used t moved a = record {
    row_is = a.row_is;
    some = a.some;
    once = λ shard. (let sum = sum_by-IsPermutation (λ (c : Cursor). one_if (c.shard == shard)) one other moved in let was = a.once shard in omega (arith, sum, was));
    told = All-permutation (IsAsTold row t.seen) one other moved a.told;
  }

  -- the page of the first shard that was not read comes next
  pub told_asked : (cursors : List Cursor) (unread more : ℕ) (used : Option NextPage) (next : NextPage) (t : Told) → next.shard ≡ unread → more ≡ unread + 1 → AreTold row cursors unread used t → AreTold row cursors more (Some next) t
  told_asked cursors unread more used next t of_shard one a = record {
    row_is = a.row_is;
    some = a.some;
    once = λ shard.
        subst (λ n. pages_of shard cursors + one_if (next.shard == shard) + one_if (nat_le n shard) ≤ 1) (sym one)
        (subst (λ n. pages_of shard cursors + one_if (n == shard) + one_if (nat_le (unread + 1) shard) ≤ 1) (sym of_shard)
        (asked_next (pages_of shard cursors) (next_of shard used) unread shard (a.once shard)));
    told = a.told;
  }

  -- ---- a page came

  module _ (cursors : List Cursor) (unread : ℕ) (next : NextPage) (page : EntryPage) (t : Told) (a : AreTold row cursors unread (Some next) t) where
    abbrev key : ℕ → Key
    key shard = shard_key row.id row.instance shard

    abbrev seen_now : List ℕ → Option EntrySeen
    seen_now = (with_page row next page t).seen

    seen_is : (name : List ℕ) → seen_now name ≡ cond (is_key (key next.shard) (key_of row name)) (entry_seen (find name_cmp name page.rows) page.clock (t.seen name)) (t.seen name)
    seen_is name = ap (λ o. seen_on o (key next.shard) (Some page) t.seen name) a.row_is

    -- the names of other shards are as they were
    other_name : (shard : ℕ) (name : List ℕ) → shard_of name row.shards ≡ shard → shard ≢ next.shard → seen_now name ≡ t.seen name
    other_name shard name of_shard apart =
        elim (is_key (key next.shard) (key_of row name)) as (λ b. is_key (key next.shard) (key_of row name) ≡ b → seen_now name ≡ t.seen name) [
          | true ↦ λ same. absurd (apart (sym of_shard ∙ sym (ap number_of (same_key (key next.shard) (key_of row name) same))))
          | false ↦ λ other. seen_is name ∙ ap (λ b. cond b (entry_seen (find name_cmp name page.rows) page.clock (t.seen name)) (t.seen name)) other
        ] refl

    -- and those of the shard as the page shows them
    own_name : (name : List ℕ) → shard_of name row.shards ≡ next.shard → seen_now name ≡ entry_seen (find name_cmp name page.rows) page.clock (t.seen name)
    own_name name of_shard =
        let same : is_key (key next.shard) (key_of row name) ≡ true = subst (λ s. is_key (key next.shard) (key s) ≡ true) (sym of_shard) (key_itself (key next.shard)) in
        seen_is name ∙ ap (λ b. cond b (entry_seen (find name_cmp name page.rows) page.clock (t.seen name)) (t.seen name)) same

    abbrev Shows : (List ℕ → Option EntrySeen) → ℕ → ℕ → List ℕ × EntryView → Type 0
    Shows seen shard clock e = shard_of e.0 row.shards ≡ shard → seen e.0 ≡ Some (record { entry = e.1; clock = clock })

    others_keep : All (IsAsTold row seen_now) cursors
    others_keep =
        let was = a.once next.shard in
        let here = ap one_if (number_itself next.shard) in
        let none : pages_of next.shard cursors ≡ 0 = omega (arith, was, here) in
        let apart = none_of next.shard cursors none in
        λ k d within. keeps (slice_index_or cursors k d) (apart k d within) (a.told k d within)
      where
        keeps : (c : Cursor) → c.shard ≢ next.shard → IsAsTold row t.seen c → IsAsTold row seen_now c
        keeps c apart told =
            All-weaker (Shows t.seen c.shard c.clock) (Shows seen_now c.shard c.clock)
            (λ e was of_shard. other_name c.shard e.0 of_shard apart ∙ was of_shard) (left_of c) told

    pub told_page : (cursor : Cursor) → T (is_sorted name_cmp page.rows) → cursor.shard ≡ next.shard → cursor.clock ≡ page.clock → left_of cursor ≡ page.rows → AreTold row (cursor ∷ cursors) unread None (with_page row next page t)
    told_page cursor rise of_shard clock is = record {
      row_is = a.row_is;
      some = a.some;
      once = λ shard.
          let sum = sum_by-cons (λ (c : Cursor). one_if (c.shard == shard)) cursor cursors in
          let same = ap (λ n. one_if (n == shard)) of_shard in
          let was = a.once shard in
          omega (arith, sum, same, was);
      told = All-cons (IsAsTold row seen_now) cursor cursors (subst (λ rows. All (Shows seen_now cursor.shard cursor.clock) rows) (sym is) here) others_keep;
    }
      where
        here : All (Shows seen_now cursor.shard cursor.clock) page.rows
        here =
            All-weaker (λ e. find name_cmp e.0 page.rows ≡ Some e.1) (Shows seen_now cursor.shard cursor.clock)
            (λ e there own. own_name e.0 (own ∙ of_shard)
            ∙ ap (λ o. entry_seen o page.clock (t.seen e.0)) there
            ∙ ap (λ n. Some (record { entry = e.1; clock = n })) (sym clock)) page.rows (found page.rows rise)

    pub told_none : AreTold row cursors unread None (with_page row next page t)
    told_none = record {
      row_is = a.row_is;
      some = a.some;
      once = λ shard. (let was = a.once shard in omega (arith, was));
      told = others_keep;
    }

  -- ---- an entry comes out

  module _ (cursor : Cursor) (others : List Cursor) (unread : ℕ) (t : Told) (a : AreTold row (cursor ∷ others) unread None t) (entry : List ℕ × EntryView) (rows : List (List ℕ × EntryView)) (is : left_of cursor ≡ entry ∷ rows) where
    abbrev IsShown : List ℕ × EntryView → Type 0
    IsShown e = shard_of e.0 row.shards ≡ cursor.shard → t.seen e.0 ≡ Some (record { entry = e.1; clock = cursor.clock })

    all_shown : All IsShown (entry ∷ rows)
    all_shown = subst (All IsShown) is (All-head (IsAsTold row t.seen) cursor others a.told)

    -- it is as told
    pub entry_told : shard_of entry.0 row.shards ≡ cursor.shard → t.seen entry.0 ≡ Some (record { entry = entry.1; clock = cursor.clock })
    entry_told = All-head IsShown entry rows all_shown

    sums : (shard : ℕ) → pages_of shard (cursor ∷ others) ≡ one_if (cursor.shard == shard) + pages_of shard others
    sums shard = sum_by-cons (λ (c : Cursor). one_if (c.shard == shard)) cursor others

    -- something is left
    pub told_rest : (left : Cursor) → left.shard ≡ cursor.shard → left.clock ≡ cursor.clock → left_of left ≡ rows → AreTold row (left ∷ others) unread None t
    told_rest left of_shard clock rest_is = record {
      row_is = a.row_is;
      some = a.some;
      once = λ shard.
          let sum = sum_by-cons (λ (c : Cursor). one_if (c.shard == shard)) left others in
          let before = sums shard in
          let same = ap (λ n. one_if (n == shard)) of_shard in
          let was = a.once shard in
          omega (arith, sum, before, same, was);
      told = All-cons (IsAsTold row t.seen) left others
          (subst (λ rs. All (λ e. shard_of e.0 row.shards ≡ left.shard → t.seen e.0 ≡ Some (record { entry = e.1; clock = left.clock })) rs) (sym rest_is)
          (All-weaker IsShown (λ e. shard_of e.0 row.shards ≡ left.shard → t.seen e.0 ≡ Some (record { entry = e.1; clock = left.clock }))
          (λ e shown own. shown (own ∙ of_shard) ∙ ap (λ n. Some (record { entry = e.1; clock = n })) (sym clock)) rows (All-tail IsShown entry rows all_shown)))
          (All-tail (IsAsTold row t.seen) cursor others a.told);
    }

    -- nothing is left, nor behind the page
    pub told_end : AreTold row others unread None t
    told_end = record {
      row_is = a.row_is;
      some = a.some;
      once = λ shard. (let before = sums shard in let was = a.once shard in omega (arith, before, was));
      told = All-tail (IsAsTold row t.seen) cursor others a.told;
    }

    -- nothing is left, and something may stand behind the page
    pub told_used : (next : NextPage) → next.shard ≡ cursor.shard → AreTold row others unread (Some next) t
    told_used next of_shard = record {
      row_is = a.row_is;
      some = a.some;
      once = λ shard.
          let before = sums shard in
          let same = ap (λ n. one_if (n == shard)) of_shard in
          let was = a.once shard in
          omega (arith, before, same, was);
      told = All-tail (IsAsTold row t.seen) cursor others a.told;
    }

-- a page was taken out
pub popped_told : (m : Merging) (used : Option NextPage) (merge : Merge) (cursor : Cursor) (t : Told) → m.used_up ≡ None → IsPermutation (cursors_of m.merge) (cursor ∷ cursors_of merge) → MergingTold m m.used_up t
    → PoppedTold (record m { used_up = used; merge = merge }) cursor t
popped_told m used merge cursor t none taken a =
    subst (λ u. AreTold m.row (cursor ∷ cursors_of merge) m.unread u t) none
    (told_moved m.row (cursors_of m.merge) (cursor ∷ cursors_of merge) m.unread m.used_up t taken a)

-- ---- suggestions

-- what a suggestion needs to know, by the entry that was told
pub wanted_due : (row : Bucket) (entry : List ℕ × EntryView) (shard clock : ℕ) (seen : Option EntrySeen) → shard_of entry.0 row.shards ≡ shard → seen ≡ Some (record { entry = entry.1; clock = clock })
    → cond (has_due clock (entry.1).tags) (Some (record { shard = shard; revision = (entry.1).revision; seen = clock })) None ≡ due_of row entry.0 seen
wanted_due row entry shard clock seen own is =
    ap (λ n. cond (has_due clock (entry.1).tags) (Some (record { shard = n; revision = (entry.1).revision; seen = clock })) None) (sym own)
    ∙ ap (due_of row entry.0) (sym is)

abbrev op_in : ℕ → Bucket → Option Suggestion → Option Op
op_in zone row None = None
op_in zone row (Some s) = Some (asks_suggestion zone row s)

due_suggested : (zone : ℕ) (row : Bucket) (name : List ℕ) (seen : Option EntrySeen) (head : HeadSeen) → op_in zone row (suggestion_due (due_of row name seen) name head) ≡ suggestion zone row name seen head
due_suggested zone row name None head = refl
due_suggested zone row name (Some s) head =
    elim (has_due s.clock s.entry.tags) as (λ b. op_in zone row (suggestion_due (cond b (Some (record { shard = shard_of name row.shards; revision = s.entry.revision; seen = s.clock })) None) name head)
    ≡ cond (b && may_stand head.slot) (Some (Suggest zone (key_of row name) name s.entry.revision s.clock head.version (row_of head.slot))) None) [
      | false ↦ refl
      | true ↦
          elim (may_stand head.slot) as (λ b. op_in zone row (cond b (Some (record { shard = shard_of name row.shards; name = name; revision = s.entry.revision; seen = s.clock; version = head.version; row = row_of head.slot })) None)
          ≡ cond b (Some (Suggest zone (key_of row name) name s.entry.revision s.clock head.version (row_of head.slot))) None) [
            | true ↦ refl
            | false ↦ refl
          ]
    ]

-- what the stage suggests is what is owed
pub suggests : (zone : ℕ) (row : Bucket) (name : List ℕ) (due : Option Due) (seen : Option EntrySeen) (head : HeadSeen) (s : Option Suggestion) → due ≡ due_of row name seen → s ≡ suggestion_due due name head → op_in zone row s ≡ suggestion zone row name seen head
suggests zone row name due seen head s due_is is = ap (op_in zone row) (is ∙ ap (λ o. suggestion_due o name head) due_is) ∙ due_suggested zone row name seen head
