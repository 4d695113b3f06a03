-- The rows of a log among those of an object.
use Rattle.std.proofs.Common.{◌≡◌, ◌≢◌, ℕ, ◌+◌, ◌^◌, ◌<◌, ◌&&◌, Bool, true, false, cond, not, ◌==◌, nat_lt, nat_le, List, [], ◌∷◌, ◌++◌, length, drop, Option, Some, None, option_map, refl, sym, ap, ◌∙◌, subst, arith}
use Rattle.std.specs.List.{AllByRecursion, list_all}
use Rattle.std.specs.Ordering.{eq_by_cmp, is_eq}
use Rattle.std.specs.Cmp.{tied_itself}
use Rattle.std.specs.Cmp.Lexicographic.{nat_list_cmp_total}
use Rattle.std.specs.FinMap.Entries.{find, find-append}
use Rattle.std.proofs.lemmas.List.{append-nil, map-append}
use Rattle.std.proofs.lemmas.Bool.Decides.{nat_tests}
use Rattle.std.proofs.lemmas.Bool.{false_from_ne_true, true≢false}
use Rattle.std.proofs.lemmas.Map.Text.{is_eq-slice_cmp}
use Rattle.std.proofs.lemmas.Slice.Eq.{bytes_eq-Decides}
use Rattle.omap_pages.specs.Contents.{Contents}
use Rattle.omap_pages.specs.Rows.{key_cmp}
use Rattle.object_words.specs.declared.log.LogRow.{LogRow}
use Rattle.object_words.specs.declared.log.LogWhat.{LogWhat}
use Rattle.object_words.specs.Entries.{EntryView}
use Rattle.object_words.specs.Logs.{Log, logged}
use Rattle.object_words.specs.Names.{at}
use Rattle.object_words.specs.Numbers.{next}
use Rattle.object_words.specs.Shards.{Shard}
use Rattle.index_entry.specs.Numbers.{number_bytes}
use Rattle.index_entry.specs.Layouts.{entry_bytes}
use Rattle.index_entry.specs.LogRows.{IsWhat, log_key, what_bytes}
use Rattle.index_entry.proofs.Uniqueness.{same_number}
use Rattle.class_words.specs.LogRows.{IsLog, IsLogRow, log_rows, logged_at, or_logged, positions_rise}
use Rattle.class_words.specs.Shards.{HasEntry, HasRows, IsObjectName}

pub same_name : (a b : List ℕ) → eq_by_cmp key_cmp a b ≡ true → a ≡ b
same_name a b here = (bytes_eq-Decides a b).0 (sym (is_eq-slice_cmp a b) ∙ here)

pub name_itself : (a : List ℕ) → eq_by_cmp key_cmp a a ≡ true
name_itself a = ap is_eq (tied_itself nat_list_cmp_total a)

pub names_apart : (a b : List ℕ) → eq_by_cmp key_cmp a b ≡ false → a ≢ b
names_apart a b other same = true≢false (sym (name_itself b) ∙ ap (λ z. eq_by_cmp key_cmp z b) (sym same) ∙ other)

pub other_name : (a b : List ℕ) → a ≢ b → eq_by_cmp key_cmp a b ≡ false
other_name a b differs = false_from_ne_true _ (λ here. differs (same_name a b here))

-- ---- keys of a log

pub same_position : (p q : ℕ) → p < 2 ^ 64 → q < 2 ^ 64 → log_key p ≡ log_key q → p ≡ q
same_position p q fp fq same =
    let whole = append-nil (number_bytes p) in
    same_number (number_bytes p) 0 p q [] [] fp fq (sym whole) (ap (drop 1) same ∙ sym (append-nil (number_bytes q)))

right_true : (a b : Bool) → (a && b) ≡ true → b ≡ true
right_true true b both = both
right_true false b both = absurd (true≢false (sym both))

-- no name has a byte 0
pub no_zero : (name : List ℕ) → IsObjectName name → list_all (λ b. not (b == 0)) name ≡ true
no_zero name is = right_true (nat_le (length name) 1024) _ (right_true (nat_lt 0 (length name)) _ is.0)

-- no name is the key of a row of a log
pub not_log_key : (name : List ℕ) (p : ℕ) → IsObjectName name → name ≢ log_key p
not_log_key name p is same = true≢false (sym (subst (λ n. list_all (λ b. not (b == 0)) n ≡ true) same (no_zero name is)))

no_row_in : (rows : List LogRow) (name : List ℕ) → IsObjectName name → find key_cmp name (log_rows rows) ≡ None
no_row_in [] name is = refl
no_row_in (row ∷ rows) name is = rw (other_name name (log_key row.position) (not_log_key name row.position is)) (no_row_in rows name is)

pub no_log_row : (log : Log) (name : List ℕ) → IsObjectName name → logged_at log name ≡ None
no_log_row log name is = no_row_in log.rows name is

-- ---- one row more

pub next_plain : (n : ℕ) → n + 1 < 2 ^ 64 → next n ≡ n + 1
next_plain n fits = omega (arith, fits)

absent_in : (rows : List LogRow) (last : ℕ) → last + 1 < 2 ^ 64 → AllByRecursion (IsLogRow last) rows → find key_cmp (log_key (last + 1)) (log_rows rows) ≡ None
absent_in [] last fits all = refl
absent_in (row ∷ rows) last fits all =
    let differs : log_key (last + 1) ≢ log_key row.position = λ same.
    let e = same_position (last + 1) row.position fits (omega (arith, fits, all.0.1)) same in absurd (omega (arith, e, all.0.1)) in
    rw (other_name (log_key (last + 1)) (log_key row.position) differs) (absent_in rows last fits all.1)

pub absent_after : (log : Log) → IsLog log → log.last + 1 < 2 ^ 64 → logged_at log (log_key (log.last + 1)) ≡ None
absent_after log is fits = absent_in log.rows log.last fits is.rows

-- what a log that has grown has under a key
pub grown_at : (log : Log) (what : LogWhat) (key : List ℕ) → IsLog log → log.last + 1 < 2 ^ 64
    → logged_at (logged log what) key ≡ cond (eq_by_cmp key_cmp key (log_key (log.last + 1))) (Some (what_bytes what)) (logged_at log key)
grown_at log what key is fits =
    let row : ℕ → LogRow = λ position. record { position = position; what = what } in
    ap (find key_cmp key) (map-append (λ (r : LogRow). (log_key r.position, what_bytes r.what)) log.rows (row (next log.last) ∷ []))
    ∙ ap (λ n. find key_cmp key (log_rows log.rows ++ (log_key n, what_bytes what) ∷ [])) (next_plain log.last fits)
    ∙ find-append key_cmp nat_list_cmp_total (log_rows log.rows) (log_key (log.last + 1)) (what_bytes what) key (absent_after log is fits)

pub grown_there : (log : Log) (what : LogWhat) → IsLog log → log.last + 1 < 2 ^ 64 → logged_at (logged log what) (log_key (log.last + 1)) ≡ Some (what_bytes what)
grown_there log what is fits =
    let key = log_key (log.last + 1) in
    grown_at log what key is fits ∙ ap (λ b. cond b (Some (what_bytes what)) (logged_at log key)) (name_itself key)

pub grown_others : (log : Log) (what : LogWhat) (key : List ℕ) → IsLog log → log.last + 1 < 2 ^ 64 → key ≢ log_key (log.last + 1) → logged_at (logged log what) key ≡ logged_at log key
grown_others log what key is fits differs =
    grown_at log what key is fits ∙ ap (λ b. cond b (Some (what_bytes what)) (logged_at log key)) (other_name key (log_key (log.last + 1)) differs)

rows_more : (last : ℕ) (rows : List LogRow) (row : LogRow) → AllByRecursion (IsLogRow last) rows → IsLogRow (last + 1) row → AllByRecursion (IsLogRow (last + 1)) (rows ++ row ∷ [])
rows_more last [] row all one = (one, tt)
rows_more last (r ∷ rows) row all one = ((all.0.0, omega (arith, all.0.1), all.0.2), rows_more last rows row all.1 one)

lower : (a b : ℕ) → a < b → nat_lt a b ≡ true
lower a b h = grind (arith, nat_tests)

both_true : (a b : Bool) → a ≡ true → b ≡ true → (a && b) ≡ true
both_true a b p q = rw p q

left_true : (a b : Bool) → (a && b) ≡ true → a ≡ true
left_true true b both = refl
left_true false b both = absurd (true≢false (sym both))

rise_more : (last : ℕ) (rows : List LogRow) (row : LogRow) → AllByRecursion (IsLogRow last) rows → last < row.position → positions_rise rows ≡ true → positions_rise (rows ++ row ∷ []) ≡ true
rise_more last [] row all above rise = refl
rise_more last (a ∷ []) row all above rise = both_true (nat_lt a.position row.position) true (lower a.position row.position (omega (arith, above, all.0.1))) refl
rise_more last (a ∷ b ∷ rows) row all above rise =
    both_true (nat_lt a.position b.position) _ (left_true (nat_lt a.position b.position) _ rise)
    (rise_more last (b ∷ rows) row all.1 above (right_true (nat_lt a.position b.position) _ rise))

pub grown_log : (log : Log) (what : LogWhat) → IsLog log → IsWhat what → log.last + 1 < 2 ^ 64 → IsLog (logged log what)
grown_log log what is named fits =
    let row : ℕ → LogRow = λ position. record { position = position; what = what } in
    subst (λ n. IsLog (record { rows = log.rows ++ row n ∷ []; last = n })) (sym (next_plain log.last fits))
    (record {
      rows = rows_more log.last log.rows (row (log.last + 1)) is.rows (omega arith, omega arith, named);
      rise = rise_more log.last log.rows (row (log.last + 1)) is.rows (omega arith) is.rise;
      last_fits = fits;
    })

-- ---- the entries of a shard

plain : (o : Option EntryView) → or_logged (option_map entry_bytes o) None ≡ option_map entry_bytes o
plain None = refl
plain (Some e) = refl

-- what the rows say of one name
pub entry_at_name : (c : Contents) (s : Shard) (name : List ℕ) → HasRows c s → IsObjectName name → HasEntry c name (at s.entries name)
entry_at_name c s name has is = record {
  row = has.rows name ∙ ap (or_logged (option_map entry_bytes (at s.entries name))) (no_log_row s.log name is) ∙ plain (at s.entries name);
  entry = has.entry name;
  room = has.room name;
}
