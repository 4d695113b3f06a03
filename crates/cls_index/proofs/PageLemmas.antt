-- The rows of the entries above a name.
use Rattle.std.proofs.Common.{◌≡◌, ℕ, zero, suc, ◌≤◌, nat_le, Bool, true, false, cond, true≢false, T, List, [], ◌∷◌, map, length, take, drop, get_or, append_assoc, append-nil, IsTrue, ◌↔◌, ◌++◌, Option, Some, None, option_map, IfSome, refl, sym, ap, ◌∙◌, subst, arith}
use Rattle.std.specs.List.{AllByRecursion}
use Rattle.std.specs.declared.cmp.Ordering.{Ordering}
use Rattle.std.specs.declared.cmp.Ordering.TheVariants.{Less, Equal, Greater}
use Rattle.std.specs.Ordering.{eq_by_cmp, is_eq, is_lt, ordering_reverse}
use Rattle.std.specs.Cmp.Lexicographic.{nat_list_cmp_total}
use Rattle.std.specs.FinMap.Entries.{below_all, find, find-where_key, is_sorted, is_sorted-where_key, same_entries}
use Rattle.std.proofs.lemmas.List.{length-map, take-map}
use Rattle.std.proofs.lemmas.Bool.Decides.{nat_tests}
use Rattle.omap_pages.specs.Contents.{Contents}
use Rattle.omap_pages.specs.Rows.{Rows, key_cmp, rows_after, value_at}
use Rattle.object_words.specs.Entries.{EntryView}
use Rattle.object_words.specs.Names.{at, entries, name_cmp, where_name}
use Rattle.object_words.specs.Shards.{Shard}
use Rattle.object_words.specs.ShardCalls.{entries_after}
use Rattle.index_entry.specs.Layouts.{IsEntry, entry_bytes}
use Rattle.class_words.specs.LogRows.{logged_at, or_logged}
use Rattle.class_words.specs.Shards.{HasRows, IsObjectName}
use Rattle.class_words.proofs.AboveLog.{none_in, name_above, left_of, right_of, both_of, same_key, is_less, below_then}
use Rattle.class_words.proofs.LogLemmas.{name_itself, same_name}
use Rattle.class_words.specs.Pages.{StartsAt, written}
use Rattle.class_words.proofs.PageLemmas.{find_written, sorted_written}
use Rattle.cls_index.specs.Pages.{IsNamed}

-- ---- rows and entries

one_after : (c : Contents) (s : Shard) (after start q : List ℕ) → HasRows c s → StartsAt after start
    → cond (is_lt (key_cmp start q)) (value_at c.rows q) None ≡ option_map entry_bytes (cond (is_lt (key_cmp after q)) (at s.entries q) None)
one_after c s after start q has from =
    ap (λ v. cond (is_lt (key_cmp start q)) v None) (has.rows q)
    ∙ elim (at s.entries q) as (λ o. IfSome o (λ _. IsObjectName q) → cond (is_lt (key_cmp start q)) (or_logged (option_map entry_bytes o) (logged_at s.log q)) None ≡ option_map entry_bytes (cond (is_lt (key_cmp after q)) o None)) [
      | Some e ↦ λ named. rw (from.low q named) (elim (is_lt (key_cmp after q)) as (λ b. cond b (Some (entry_bytes e)) None ≡ option_map entry_bytes (cond b (Some e) None)) [ true ↦ refl | false ↦ refl ])
      | None ↦ λ named.
          elim (is_lt (key_cmp start q)) as (λ b. is_lt (key_cmp start q) ≡ b → cond b (logged_at s.log q) None ≡ None) [
            | true ↦ λ above. none_in s.log.rows q (from.log q above)
            | false ↦ λ above. refl
          ] refl ∙ elim (is_lt (key_cmp after q)) as (λ b. None ≡ option_map entry_bytes (cond b None None)) [ true ↦ refl | false ↦ refl ]
    ] (has.named q)

-- what the entries above a name have under a name
after_at : (s : Shard) (after q : List ℕ) → find key_cmp q (entries_after s after) ≡ cond (is_lt (key_cmp after q)) (at s.entries q) None
unfolding entries where_name at
after_at s after q = find-where_key key_cmp (λ n. is_lt (key_cmp after n)) q (λ x tie. ap (λ n. is_lt (key_cmp after n)) (sym (same_key q x tie))) s.entries.list

after_sorted : (s : Shard) (after : List ℕ) → T (is_sorted key_cmp (entries_after s after))
unfolding entries where_name
after_sorted s after = (where_name (λ name. is_lt (name_cmp after name)) s.entries).sorted

pub rows_of_entries : (c : Contents) (s : Shard) (after start : List ℕ) → HasRows c s → T (is_sorted key_cmp c.rows) → StartsAt after start → rows_after c.rows start ≡ map written (entries_after s after)
rows_of_entries c s after start has order from =
    same_entries key_cmp nat_list_cmp_total same_key _ _ (is_sorted-where_key key_cmp (λ k. is_lt (key_cmp start k)) c.rows order) (sorted_written (entries_after s after) (after_sorted s after)) (λ q.
    find-where_key key_cmp (λ k. is_lt (key_cmp start k)) q (λ x tie. ap (λ n. is_lt (key_cmp start n)) (sym (same_key q x tie))) c.rows
    ∙ one_after c s after start q has from ∙ sym (find_written q (entries_after s after) ∙ ap (option_map entry_bytes) (after_at s after q)))

-- ---- the entries above a name are named

t_less : (o : Ordering) → T (is_lt o) → o ≡ Less
t_less Less below = refl
t_less Equal below = absurd below
t_less Greater below = absurd below

missing : (q : List ℕ) (es : List (List ℕ × EntryView)) → T (below_all key_cmp q es) → find key_cmp q es ≡ None
missing q [] h = refl
missing q (e ∷ es) h = ap (λ o. cond (is_eq o) (Some e.1) (find key_cmp q es)) (t_less _ (left_of _ _ h)) ∙ missing q es (right_of _ _ h)

found_later : (q : List ℕ) (x : EntryView) (e : List ℕ × EntryView) (es : List (List ℕ × EntryView)) → T (below_all key_cmp e.0 es) → find key_cmp q es ≡ Some x → find key_cmp q (e ∷ es) ≡ Some x
found_later q x e es order here =
    elim (eq_by_cmp key_cmp q e.0) as (λ b. eq_by_cmp key_cmp q e.0 ≡ b → cond b (Some e.1) (find key_cmp q es) ≡ Some x) [
      | true ↦ λ t. let none = ap (λ k. find key_cmp k es) (same_name q e.0 t) ∙ missing e.0 es order in absurd (let bad : None ≡ Some x = sym none ∙ here in cc)
      | false ↦ λ t. here
    ] refl

named_all : (es : List (List ℕ × EntryView)) → T (is_sorted key_cmp es) → ((q : List ℕ) (x : EntryView) → find key_cmp q es ≡ Some x → IsNamed (q, x)) → AllByRecursion IsNamed es
named_all [] order named = tt
named_all (e ∷ es) order named = (
  named e.0 e.1 (ap (λ b. cond b (Some e.1) (find key_cmp e.0 es)) (name_itself e.0)),
  named_all es (right_of _ _ order) (λ q x here. named q x (found_later q x e es (left_of _ _ order) here)),
)

of_some : (b : Bool) (o : Option EntryView) (x : EntryView) → cond b o None ≡ Some x → o ≡ Some x
of_some true o x e = e
of_some false o x e = absurd (let bad : None ≡ Some x = e in cc)

named_after : (c : Contents) (s : Shard) (after : List ℕ) → HasRows c s → AllByRecursion IsNamed (entries_after s after)
named_after c s after has = named_all (entries_after s after) (after_sorted s after) (λ q x here.
    let there = of_some (is_lt (key_cmp after q)) (at s.entries q) x (sym (after_at s after q) ∙ here) in
    (subst (λ o. IfSome o (λ _. IsObjectName q)) there (has.named q), subst (λ o. IfSome o IsEntry) there (has.entry q)))

named_first : (n : ℕ) (es : List (List ℕ × EntryView)) → AllByRecursion IsNamed es → AllByRecursion IsNamed (take n es)
named_first zero es all = tt
named_first (suc n) [] all = tt
named_first (suc n) (e ∷ es) all = (all.0, named_first n es all.1)

-- ---- a page

pub record IsPage (s : Shard) (after : List ℕ) (limit : ℕ) (found all : Rows) : Type 0 where
  pub rows : found ≡ map written (take limit (entries_after s after))
  pub named : AllByRecursion IsNamed (take limit (entries_after s after))
  pub count : length all ≡ length (entries_after s after)

pub page_rows : (c : Contents) (s : Shard) (after start : List ℕ) (limit : ℕ) (rows : Rows) → HasRows c s → T (is_sorted key_cmp c.rows) → StartsAt after start → rows ≡ take limit (rows_after c.rows start)
    → IsPage s after limit rows (rows_after c.rows start)
page_rows c s after start limit rows has order from is =
    let same = rows_of_entries c s after start has order from in
    record {
      rows = is ∙ ap (take limit) same ∙ take-map written limit (entries_after s after);
      named = named_first limit (entries_after s after) (named_after c s after has);
      count = ap length same ∙ length-map (entries_after s after) written;
    }

-- the first row of entries that are left, and those behind it
pub record IsFirstRow (left : List (List ℕ × EntryView)) (row : List ℕ × List ℕ) (rest : Rows) : Type 0 where
  pub entry : EntryView
  pub named : IsObjectName row.0
  pub fits : IsEntry entry
  pub bytes : row.1 ≡ entry_bytes entry
  pub behind : List (List ℕ × EntryView)
  pub split : left ≡ (row.0, entry) ∷ behind
  pub rest_written : rest ≡ map written behind
  pub rest_named : AllByRecursion IsNamed behind

pub first_row : (left : List (List ℕ × EntryView)) (row : List ℕ × List ℕ) (rest : Rows) → row ∷ rest ≡ map written left → AllByRecursion IsNamed left → IsFirstRow left row rest
first_row [] row rest is all = absurd (omega (arith, ap length is))
first_row (e ∷ es) row rest is all =
    let same : row ≡ written e = ap (λ (rows : Rows). get_or rows 0 row) is in
    record {
      entry = e.1;
      named = subst IsObjectName (sym (ap (λ (r : List ℕ × List ℕ). r.0) same)) all.0.0;
      fits = all.0.1;
      bytes = ap (λ (r : List ℕ × List ℕ). r.1) same;
      behind = es;
      split = λ i. (sym (ap (λ (r : List ℕ × List ℕ). r.0) same) i, e.1) ∷ es;
      rest_written = ap (λ (rows : Rows). drop 1 rows) is;
      rest_named = all.1;
    }

-- these entries were read, and these rows are left
pub record IsRead (es read : List (List ℕ × EntryView)) (rest : Rows) : Type 0 where
  pub left : List (List ℕ × EntryView)
  pub split : es ≡ read ++ left
  pub written : rest ≡ map written left
  pub named : AllByRecursion IsNamed left

pub first_left : (es read : List (List ℕ × EntryView)) (rows : Rows) (row : List ℕ × List ℕ) (rest : Rows) → (is : IsRead es read rows) → rows ≡ row ∷ rest → IsFirstRow is.left row rest
first_left es read rows row rest is next = first_row is.left row rest (sym next ∙ is.written) is.named

pub read_more : (es read : List (List ℕ × EntryView)) (row : List ℕ × List ℕ) (rest : Rows) (left : List (List ℕ × EntryView)) → es ≡ read ++ left
    → (first : IsFirstRow left row rest) → IsRead es (read ++ (row.0, first.entry) ∷ []) rest
read_more es read row rest left split first = record {
  left = first.behind;
  split = split ∙ ap (λ l. read ++ l) first.split ∙ sym (append_assoc read ((row.0, first.entry) ∷ []) first.behind);
  written = first.rest_written;
  named = first.rest_named;
}

pub all_read : (es read : List (List ℕ × EntryView)) (rows : Rows) → IsRead es read rows → length rows ≡ 0 → read ≡ es
all_read es read rows is none =
    elim is.left as (λ l. es ≡ read ++ l → rows ≡ map written l → read ≡ es) [
      | [] ↦ λ split here. sym (append-nil read) ∙ sym split
      | e ∷ more ↦ λ split here. absurd (omega (arith, none, ap length here))
    ] is.split is.written

pub same_end : (b : Bool) (n m : ℕ) → (IsTrue b ↔ (n ≤ m)) → b ≡ nat_le n m
same_end true n m both = let less : n ≤ m = both.0 refl in grind (arith, nat_tests)
same_end false n m both =
    elim (nat_le n m) as (λ r. nat_le n m ≡ r → false ≡ r) [
      | true ↦ λ e. let less : n ≤ m = grind (arith, nat_tests) in absurd (true≢false (sym (both.1 less)))
      | false ↦ λ e. refl
    ] refl
