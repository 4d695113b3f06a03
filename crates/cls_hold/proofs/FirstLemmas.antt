-- The first row above the log.
use Rattle.std.proofs.Common.{◌≡◌, ℕ, ◌-◌, Bool, true, false, cond, true≢false, T, List, [], ◌∷◌, map, length, take, get_or, ◌++◌, length-append, Option, Some, None, option_map, option_to_list, IfSome, refl, sym, ap, ◌∙◌, subst, arith}
use Rattle.std.specs.Ordering.{eq_by_cmp, is_lt}
use Rattle.std.specs.Cmp.Lexicographic.{nat_list_cmp_total}
use Rattle.std.specs.FinMap.Entries.{below_all, find, find-where_key, is_sorted, is_sorted-where_key, same_entries}
use Rattle.std.proofs.lemmas.List.{take-map}
use Rattle.omap_pages.specs.Contents.{Contents}
use Rattle.omap_pages.specs.Rows.{Rows, key_cmp, rows_after, value_at}
use Rattle.object_words.specs.declared.log.LogRow.{LogRow}
use Rattle.object_words.specs.Entries.{EntryView}
use Rattle.object_words.specs.HoldCalls.{entry_refusal}
use Rattle.object_words.specs.Names.{Named, at, entries}
use Rattle.object_words.specs.Shards.{Shard}
use Rattle.index_entry.specs.Layouts.{IsEntry, entry_bytes}
use Rattle.index_entry.specs.LogRows.{log_key}
use Rattle.class_words.specs.LogRows.{log_rows, logged_at, or_logged}
use Rattle.class_words.specs.Shards.{HasRows, IsObjectName}
use Rattle.class_words.specs.Pages.{top, written}
use Rattle.class_words.proofs.AboveLog.{log_low, name_above, same_key}
use Rattle.class_words.proofs.OptionLemmas.{some_same}
use Rattle.class_words.proofs.PageLemmas.{find_written, sorted_written}
use Rattle.class_words.proofs.LogLemmas.{name_itself, other_name}
use Rattle.cls_hold.specs.Firsts.{first_row}

-- what a key that passes a test finds in a log none of whose keys does
pub none_logged : (passes : List ℕ → Bool) → ((position : ℕ) → passes (log_key position) ≡ false) → (rows : List LogRow) (q : List ℕ) → passes q ≡ true → find key_cmp q (log_rows rows) ≡ None
none_logged passes low [] q is = refl
none_logged passes low (row ∷ rows) q is =
    let differs = other_name q (log_key row.position) (λ same. true≢false (sym is ∙ ap passes same ∙ low row.position)) in
    rw differs (none_logged passes low rows q is)

one_above : (c : Contents) (s : Shard) (q : List ℕ) → HasRows c s → cond (is_lt (key_cmp top q)) (value_at c.rows q) None ≡ option_map entry_bytes (at s.entries q)
one_above c s q has =
    ap (λ v. cond (is_lt (key_cmp top q)) v None) (has.rows q)
    ∙ elim (at s.entries q) as (λ o. IfSome o (λ _. IsObjectName q) → cond (is_lt (key_cmp top q)) (or_logged (option_map entry_bytes o) (logged_at s.log q)) None ≡ option_map entry_bytes o) [
      | Some e ↦ λ named. ap (λ b. cond b (Some (entry_bytes e)) None) (name_above q named)
      | None ↦ λ named. elim (is_lt (key_cmp top q)) as (λ b. is_lt (key_cmp top q) ≡ b → cond b (logged_at s.log q) None ≡ None) [
        | true ↦ λ above. none_logged (λ k. is_lt (key_cmp top k)) log_low s.log.rows q above
        | false ↦ λ above. refl
      ] refl
    ] (has.named q)

-- the rows above the log are the entries
pub rows_above_log : (c : Contents) (s : Shard) → HasRows c s → T (is_sorted key_cmp c.rows) → rows_after c.rows top ≡ map written (entries s.entries)
unfolding entries at
rows_above_log c s has order =
    same_entries key_cmp nat_list_cmp_total same_key _ _ (is_sorted-where_key key_cmp (λ k. is_lt (key_cmp top k)) c.rows order) (sorted_written (entries s.entries) s.entries.sorted) (λ q.
    find-where_key key_cmp (λ k. is_lt (key_cmp top k)) q (λ x tie. ap (λ n. is_lt (key_cmp top n)) (sym (same_key q x tie))) c.rows ∙ one_above c s q has ∙ sym (find_written q s.entries.list))

-- a page of one row above the log
pub first_page : (c : Contents) (s : Shard) (start : List ℕ) (rows : Rows) → HasRows c s → T (is_sorted key_cmp c.rows) → start ≡ top → rows ≡ take 1 (rows_after c.rows start) → rows ≡ map written (take 1 (entries s.entries))
first_page c s start rows has order from is =
    is ∙ ap (λ k. take 1 (rows_after c.rows k)) from ∙ ap (take 1) (rows_above_log c s has order) ∙ take-map written 1 (entries s.entries)

-- the first entry is one that the shard has
pub first_there : (m : Named EntryView) (e : List ℕ × EntryView) (es : List (List ℕ × EntryView)) → entries m ≡ e ∷ es → at m e.0 ≡ Some e.1
unfolding entries at
first_there m e es is = ap (find key_cmp e.0) is ∙ ap (λ b. cond b (Some e.1) (find key_cmp e.0 es)) (name_itself e.0)

-- ---- the first of them

none_of : (o : Option (List ℕ × List ℕ)) (new : Rows) → [] ≡ new ++ option_to_list o → o ≡ None
none_of None new all = refl
none_of (Some x) new all = absurd (omega (arith, ap length all, length-append new (x ∷ [])))

some_of : (o : Option (List ℕ × List ℕ)) (x : List ℕ × List ℕ) → x ∷ [] ≡ option_to_list o → o ≡ Some x
some_of None x all = absurd (omega (arith, ap length all))
some_of (Some y) x all = ap (λ l. Some (get_or l 0 x)) (sym all)

-- a page of one row shows the first entry
pub popped : (es : List (List ℕ × EntryView)) (old new : Rows) (len : ℕ) (o : Option (List ℕ × List ℕ)) → old ≡ map written (take 1 es) → len ≡ length old → old ≡ new ++ option_to_list o → new ≡ take (len - 1) old → o ≡ first_row es
popped es old new len o is long all rest = one es is where
  one : (es : List (List ℕ × EntryView)) → old ≡ map written (take 1 es) → o ≡ first_row es
  one [] is = none_of o new (sym is ∙ all)
  one (e ∷ es) is =
      let zeroth : len - 1 ≡ 0 = omega (arith, long, ap length is) in
      let none : new ≡ [] = rest ∙ ap (λ n. take n old) zeroth in
      some_of o (written e) (sym is ∙ all ∙ ap (λ l. l ++ option_to_list o) none)

-- the first entry, as its row shows it
pub record IsFirst (es : List (List ℕ × EntryView)) (row : List ℕ × List ℕ) : Type 0 where
  pub entry : EntryView
  pub behind : List (List ℕ × EntryView)
  pub split : es ≡ (row.0, entry) ∷ behind
  pub bytes : row.1 ≡ entry_bytes entry

pub first_is : (es : List (List ℕ × EntryView)) (row : List ℕ × List ℕ) → Some row ≡ first_row es → IsFirst es row
first_is [] row is = absurd (let bad : Some row ≡ None = is in cc)
first_is (e ∷ es) row is =
    let same : row ≡ written e = some_same row (written e) is in
    record { entry = e.1; behind = es; split = λ i. (sym (ap (λ (r : List ℕ × List ℕ). r.0) same) i, e.1) ∷ es; bytes = ap (λ (r : List ℕ × List ℕ). r.1) same }

pub no_first : (es : List (List ℕ × EntryView)) (force : Bool) → None ≡ first_row es → entry_refusal es force ≡ None
no_first [] force is = refl
no_first (e ∷ es) force is = absurd (let bad : None ≡ Some (written e) = is in cc)

-- it is an entry of the shard
pub record IsOf (s : Shard) (row : List ℕ × List ℕ) : Type 0 where
  pub first : IsFirst (entries s.entries) row
  pub named : IsObjectName row.0
  pub fits : IsEntry first.entry

pub first_of : (c : Contents) (s : Shard) (row : List ℕ × List ℕ) → HasRows c s → Some row ≡ first_row (entries s.entries) → IsOf s row
first_of c s row has is =
    let first = first_is (entries s.entries) row is in
    let there = first_there s.entries (row.0, first.entry) first.behind first.split in
    record { first = first; named = subst (λ o. IfSome o (λ _. IsObjectName row.0)) there (has.named row.0); fits = subst (λ o. IfSome o IsEntry) there (has.entry row.0) }
