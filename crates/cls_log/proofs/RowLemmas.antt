-- The rows of a log in the order of their keys.
use Rattle.std.proofs.Common.{◌≡◌, ◌≢◌, ◌⊎◌, inl, inr, ℕ, zero, suc, get_or, ◌+◌, ◌^◌, ◌<◌, ◌≤◌, ◌==◌, Bool, true, false, cond, nat_lt, nat_le, None, ◌↔◌, List, [], ◌∷◌, ◌++◌, length, take, refl, sym, ap, ap₂, ◌∙◌, subst, arith}
use Rattle.std.specs.List.{AllByRecursion}
use Rattle.std.specs.declared.cmp.Ordering.TheVariants.{Less, Equal, Greater}
use Rattle.std.specs.Ordering.{nat_cmp, is_lt}
use Rattle.std.specs.Cmp.{nat_cmp_is}
use Rattle.std.specs.FinMap.Entries.{by_order}
use Rattle.omap_pages.specs.Rows.{Rows, key_cmp, rows_after, with_row}
use Rattle.std.proofs.lemmas.List.{length-map, map-append}
use Rattle.object_pool.specs.Objects.{nothing}
use Rattle.object_words.specs.declared.log.LogRow.{LogRow}
use Rattle.object_words.specs.declared.log.LogWhat.{LogWhat}
use Rattle.object_words.specs.Logs.{first_position, logged, no_log, rows_above, trimmed_refusal}
use Rattle.object_words.specs.Numbers.{next}
use Rattle.index_entry.specs.LogRows.{log_key, what_bytes}
use Rattle.index_entry.proofs.KeyOrder.{keys_in_order}
use Rattle.class_words.specs.LogRows.{IsLog, IsLogRow, log_attrs, log_rows}
use Rattle.class_words.proofs.LogLemmas.{next_plain}
use Rattle.std.proofs.lemmas.Bool.Decides.{nat_tests}
use Rattle.object_words.specs.Logs.{Log}
use Rattle.index_entry.specs.Numbers.{number_bytes}
use Rattle.index_entry.proofs.PieceLemmas.{length-number_bytes}
use Rattle.cls_log.specs.LogObjects.{IsFit, IsLogObject}

-- the key of a row, and what it names
abbrev pub written : LogRow → List ℕ × List ℕ
written row = (log_key row.position, what_bytes row.what)

-- a row behind all others
pub put_last : (rows : List LogRow) (last : ℕ) (value : List ℕ) → AllByRecursion (IsLogRow last) rows → last + 1 < 2 ^ 64
    → with_row (log_rows rows) (log_key (last + 1)) value ≡ log_rows rows ++ (log_key (last + 1), value) ∷ []
put_last [] last value all fits = refl
put_last (row ∷ rows) last value all fits =
    let above : key_cmp (log_key (last + 1)) (log_key row.position) ≡ Greater =
    keys_in_order (last + 1) row.position fits (omega (arith, all.0.1, fits)) ∙ sym (nat_cmp_is (last + 1) row.position Greater (omega (arith, all.0.1))) in
    let e : List ℕ × List ℕ = written row in
    ap (λ o. by_order o ((log_key (last + 1), value) ∷ e ∷ log_rows rows) ((e.0, value) ∷ log_rows rows) (e ∷ with_row (log_rows rows) (log_key (last + 1)) value)) above
    ∙ ap (λ z. e ∷ z) (put_last rows last value all.1 fits)

-- ---- rows above a position

below_test : (b e : Bool) → is_lt (cond b Less (cond e Equal Greater)) ≡ b
below_test true e = refl
below_test false true = refl
below_test false false = refl

is_below : (a b : ℕ) → is_lt (nat_cmp a b) ≡ nat_lt a b
is_below a b = below_test (nat_lt a b) (a == b)

pushed : (b : Bool) (row : LogRow) (rest : List LogRow) → cond b (written row ∷ log_rows rest) (log_rows rest) ≡ log_rows (cond b (row ∷ rest) rest)
pushed true row rest = refl
pushed false row rest = refl

pub after_log : (rows : List LogRow) (position : ℕ) → AllByRecursion IsFit rows → position < 2 ^ 64 → rows_after (log_rows rows) (log_key position) ≡ log_rows (rows_above rows position)
after_log [] position all fits = refl
after_log (row ∷ rows) position all fits =
    let test : is_lt (key_cmp (log_key position) (log_key row.position)) ≡ nat_lt position row.position =
    ap is_lt (keys_in_order position row.position fits all.0.0) ∙ is_below position row.position in
    ap₂ (λ b z. cond b (written row ∷ z) z) test (after_log rows position all.1 fits)
    ∙ pushed (nat_lt position row.position) row (rows_above rows position)

pub all_after : (rows : List LogRow) → rows_after (log_rows rows) [] ≡ log_rows rows
all_after [] = refl
all_after (row ∷ rows) = ap (λ z. written row ∷ z) (all_after rows)

-- ---- the last position

split : (n : ℕ) (b : Bool) → (n == 0) ≡ b → ((n ≡ 0) × (cond b [] (number_bytes n) ≡ [])) ⊎ (cond b [] (number_bytes n) ≡ number_bytes n)
split n true e = inl (grind (arith, nat_tests), refl)
split n false e = inr refl

attrs_are : (l : Log) → ((l.last ≡ 0) × (log_attrs l ≡ [])) ⊎ (log_attrs l ≡ number_bytes l.last)
attrs_are l = split l.last (l.last == 0) refl

pub no_attrs : (l : Log) → length (log_attrs l) ≡ 0 → 0 ≡ l.last
no_attrs l none = elim (attrs_are l) [ inl n ↦ sym n.0 | inr e ↦ absurd (omega (arith, none, ap length e, length-number_bytes l.last)) ]

pub some_attrs : (l : Log) (attrs : List ℕ) → false ≡ (length attrs == 0) → attrs ≡ log_attrs l → attrs ≡ number_bytes l.last
some_attrs l attrs some same =
    let any : length attrs ≢ 0 = grind (arith, nat_tests, some) in
    elim (attrs_are l) [ inl n ↦ absurd (any (ap length (same ∙ n.1))) | inr e ↦ same ∙ e ]

-- ---- the rows as they are read

-- a written row at a place
pub record RowAt (kept : List LogRow) (place : ℕ) (item : List ℕ × List ℕ) : Type 0 where
  pub row : LogRow
  pub fit : IsFit row
  pub same : item ≡ written row
  pub more : take (suc place) kept ≡ take place kept ++ row ∷ []

row_in : (kept : List LogRow) (place : ℕ) (item : List ℕ × List ℕ) → AllByRecursion IsFit kept → place < length kept → item ≡ get_or (log_rows kept) place item → RowAt kept place item
row_in [] place item all there is = absurd (omega (arith, there))
row_in (row ∷ rows) zero item all there is = record { row = row; fit = all.0; same = is; more = refl }
row_in (row ∷ rows) (suc place) item all there is =
    let r = row_in rows place item all.1 (omega (arith, there)) is in record { row = r.row; fit = r.fit; same = r.same; more = ap (λ z. row ∷ z) r.more }

pub row_at : (kept : List LogRow) (rows : Rows) (place : ℕ) (item : List ℕ × List ℕ) → AllByRecursion IsFit kept → rows ≡ log_rows kept → place < length rows → item ≡ get_or rows place item
    → RowAt kept place item
row_at kept rows place item all here there is =
    row_in kept place item all (omega (arith, there, ap length here, length-map kept written)) (is ∙ ap (λ z. get_or z place item) here)

-- the first row, where there is one
pub record FirstRow (rows : List LogRow) (last : ℕ) (key : List ℕ) : Type 0 where
  pub position : ℕ
  pub fits : position < 2 ^ 64
  pub key_is : key ≡ log_key position
  pub first : position ≡ first_position rows last

pub first_row : (rows : List LogRow) (last : ℕ) (page : Rows) (item : List ℕ × List ℕ) → last < 2 ^ 64 → AllByRecursion (IsLogRow last) rows → page ≡ take 1 (rows_after (log_rows rows) [])
    → 0 < length page → item ≡ get_or page 0 item → FirstRow rows last item.0
first_row [] last page item fits all here there is = absurd (omega (arith, there, ap length here))
first_row (row ∷ rows) last page item fits all here there is = record {
  position = row.position;
  fits = omega (arith, all.0.1, fits);
  key_is = ap (λ (z : List ℕ × List ℕ). z.0) (is ∙ ap (λ z. get_or z 0 item) here);
  first = refl;
}

pub no_first_row : (rows : List LogRow) (last : ℕ) (page : Rows) → page ≡ take 1 (rows_after (log_rows rows) []) → length page ≡ 0 → first_position rows last ≡ next last
no_first_row [] last page here none = refl
no_first_row (row ∷ rows) last page here none = absurd (omega (arith, none, ap length here))

-- ---- a row more

nonzero_attrs : (n : ℕ) → n ≢ 0 → cond (n == 0) [] (number_bytes n) ≡ number_bytes n
nonzero_attrs n some = elim (split n (n == 0) refl) [ inl z ↦ absurd (some z.0) | inr e ↦ e ]

pub grown_attrs : (l : Log) (what : LogWhat) → l.last + 1 < 2 ^ 64 → number_bytes (l.last + 1) ≡ log_attrs (logged l what)
grown_attrs l what fits =
    let e : l.last + 1 ≡ next l.last = sym (next_plain l.last fits) in
    ap number_bytes e ∙ sym (nonzero_attrs (next l.last) (λ z. omega (arith, e, z)))

pub grown_rows : (l : Log) (what : LogWhat) → IsLog l → l.last + 1 < 2 ^ 64 → with_row (log_rows l.rows) (log_key (l.last + 1)) (what_bytes what) ≡ log_rows (logged l what).rows
grown_rows l what is fits =
    let row : ℕ → LogRow = λ position. record { position = position; what = what } in
    put_last l.rows l.last (what_bytes what) is.rows fits
    ∙ sym (map-append written l.rows (row (l.last + 1) ∷ []))
    ∙ ap (λ n. log_rows (l.rows ++ row n ∷ [])) (sym (next_plain l.last fits))

-- ---- a page

fit_all : (rows : List LogRow) (last : ℕ) → last < 2 ^ 64 → AllByRecursion (IsLogRow last) rows → AllByRecursion IsFit rows
fit_all [] last fits all = tt
fit_all (row ∷ rows) last fits all = ((omega (arith, all.0.1, fits), all.0.2), fit_all rows last fits all.1)

fit_one : (b : Bool) (row : LogRow) (rest : List LogRow) → IsFit row → AllByRecursion IsFit rest → AllByRecursion IsFit (cond b (row ∷ rest) rest)
fit_one true row rest one all = (one, all)
fit_one false row rest one all = all

fit_above : (rows : List LogRow) (position : ℕ) → AllByRecursion IsFit rows → AllByRecursion IsFit (rows_above rows position)
fit_above [] position all = tt
fit_above (row ∷ rows) position all = fit_one (nat_lt position row.position) row (rows_above rows position) all.0 (fit_above rows position all.1)

fit_take : (n : ℕ) (rows : List LogRow) → AllByRecursion IsFit rows → AllByRecursion IsFit (take n rows)
fit_take zero rows all = tt
fit_take (suc n) [] all = tt
fit_take (suc n) (row ∷ rows) all = (all.0, fit_take n rows all.1)

pub page_fits : (l : Log) (position limit : ℕ) → IsLog l → AllByRecursion IsFit (take limit (rows_above l.rows position))
page_fits l position limit is = fit_take limit (rows_above l.rows position) (fit_above l.rows position (fit_all l.rows l.last is.last_fits is.rows))

take_written : (n : ℕ) (rows : List LogRow) → take n (log_rows rows) ≡ log_rows (take n rows)
take_written zero rows = refl
take_written (suc n) [] = refl
take_written (suc n) (row ∷ rows) = ap (λ z. written row ∷ z) (take_written n rows)

pub rows_of_log_after : (l : Log) (position : ℕ) → IsLog l → position < 2 ^ 64 → rows_after (log_rows l.rows) (log_key position) ≡ log_rows (rows_above l.rows position)
rows_of_log_after l position is fits = after_log l.rows position (fit_all l.rows l.last is.last_fits is.rows) fits

pub page_rows : (l : Log) (position limit : ℕ) → IsLog l → position < 2 ^ 64 → take limit (rows_after (log_rows l.rows) (log_key position)) ≡ log_rows (take limit (rows_above l.rows position))
page_rows l position limit is fits = ap (take limit) (rows_of_log_after l position is fits) ∙ take_written limit (rows_above l.rows position)

same_test : (b : Bool) (m n : ℕ) → (b ≡ true ↔ (m ≤ n)) → b ≡ nat_le m n
same_test true m n is = grind (arith, nat_tests, is.0 refl)
same_test false m n is = grind (arith, nat_tests, is.1)

pub page_end : (l : Log) (position limit : ℕ) (end : Bool) → IsLog l → position < 2 ^ 64
    → (end ≡ true ↔ (length (rows_after (log_rows l.rows) (log_key position)) ≤ limit)) → end ≡ nat_le (length (rows_above l.rows position)) limit
page_end l position limit end is fits tells =
    let same : length (rows_after (log_rows l.rows) (log_key position)) ≡ length (rows_above l.rows position) =
    ap length (rows_of_log_after l position is fits) ∙ length-map (rows_above l.rows position) written in
    same_test end (length (rows_above l.rows position)) limit (subst (λ n. end ≡ true ↔ (n ≤ limit)) same tells)

first_most_of : (rows : List LogRow) (last : ℕ) → last < 2 ^ 64 → AllByRecursion (IsLogRow last) rows → first_position rows last < 2 ^ 64
first_most_of [] last fits all = omega arith
first_most_of (row ∷ rows) last fits all = omega (arith, all.0.1, fits)

pub first_most : (l : Log) → IsLog l → first_position l.rows l.last < 2 ^ 64
first_most l is = first_most_of l.rows l.last is.last_fits is.rows

not_before : (a b : ℕ) → b ≤ a → nat_lt a b ≡ false
not_before a b h = grind (arith, nat_tests)

pub not_trimmed : (l : Log) (position : ℕ) → first_position l.rows l.last ≤ position + 1 → trimmed_refusal l position ≡ None
not_trimmed l position kept = rw (not_before (position + 1) (first_position l.rows l.last) kept) refl

pub empty_log : IsLogObject nothing no_log
empty_log = record { bytes = refl; attrs = refl; rows = refl; is_log = record { rows = tt; rise = refl; last_fits = omega arith } }
