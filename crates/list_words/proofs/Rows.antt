-- The rows of listings.
use Rattle.std.proofs.Common.{◌≡◌, ℕ, ◌+◌, ◌<◌, ◌≤◌, ◌==◌, min, Bool, true, false, cond, List, [], ◌∷◌, ◌++◌, map, take, length, Option, Some, None, refl, sym, ◌∙◌, ap, subst, arith}
use Rattle.std.specs.List.{filter, dedup, dedup_from}
use Rattle.std.proofs.lemmas.Slice.Eq.{bytes_eq-Decides}
use Rattle.std.proofs.lemmas.List.{append_assoc, map-append, length-append, length-take, take-append-le}
use Rattle.std.proofs.lemmas.List.Elements.{filter-append}
use Rattle.object_words.specs.Rows.{RowView}
use Rattle.object_words.proofs.KeyLemmas.{number_itself}
use Rattle.list_words.specs.declared.command.ListCommand.{ListCommand}
use Rattle.list_words.specs.declared.row.ListedRow.{ListedRow}
use Rattle.list_words.specs.declared.row.ListedRow.TheVariants.{Thing, Subdir}
use Rattle.list_words.specs.Listings.{in_scope, subdir_of, thing_of, row_under, listed_row, is_same_subdir, most_rows, all_rows, rows_of, ends_with_subdir, with_row}

abbrev Same : ListedRow → ListedRow → Bool
Same = is_same_subdir

-- ---- subdirs once

ends_alike : (k x : ListedRow) (rows : List ListedRow) (row : ListedRow) → ends_with_subdir (k ∷ dedup_from Same x rows) row ≡ ends_with_subdir (dedup_from Same x rows) row
ends_alike k x [] row = refl
ends_alike k x (y ∷ rows) row =
    elim (Same y x) as (λ b. ends_with_subdir (k ∷ cond b (dedup_from Same x rows) (x ∷ dedup_from Same y rows)) row ≡ ends_with_subdir (cond b (dedup_from Same x rows) (x ∷ dedup_from Same y rows)) row) [
      | true ↦ ends_alike k x rows row
      | false ↦ refl
    ]

with_row-cons : (k x : ListedRow) (rows : List ListedRow) (row : ListedRow) → k ∷ with_row (dedup_from Same x rows) row ≡ with_row (k ∷ dedup_from Same x rows) row
with_row-cons k x rows row =
    let kept = dedup_from Same x rows in
    elim (ends_with_subdir kept row) as (λ b. ends_with_subdir kept row ≡ b → k ∷ cond b kept (kept ++ row ∷ []) ≡ with_row (k ∷ kept) row) [
      | true ↦ λ is. sym (ap (λ b. cond b (k ∷ kept) ((k ∷ kept) ++ row ∷ [])) (ends_alike k x rows row ∙ is))
      | false ↦ λ is. sym (ap (λ b. cond b (k ∷ kept) ((k ∷ kept) ++ row ∷ [])) (ends_alike k x rows row ∙ is))
    ] refl

dedup_from-push : (k : ListedRow) (rows : List ListedRow) (row : ListedRow) → dedup_from Same k (rows ++ row ∷ []) ≡ with_row (dedup_from Same k rows) row
dedup_from-push k [] row = refl
dedup_from-push k (x ∷ rows) row =
    elim (Same x k) as (λ b. cond b (dedup_from Same k (rows ++ row ∷ [])) (k ∷ dedup_from Same x (rows ++ row ∷ [])) ≡ with_row (cond b (dedup_from Same k rows) (k ∷ dedup_from Same x rows)) row) [
      | true ↦ dedup_from-push k rows row
      | false ↦ ap (λ kept. k ∷ kept) (dedup_from-push x rows row) ∙ with_row-cons k x rows row
    ]

dedup-push : (rows : List ListedRow) (row : ListedRow) → dedup Same (rows ++ row ∷ []) ≡ with_row (dedup Same rows) row
dedup-push [] row = refl
dedup-push (x ∷ rows) row = dedup_from-push x rows row

-- what comes twice in a row
dedup_from-twice : (k : ListedRow) (rows more : List ListedRow) (row : ListedRow) → Same row row ≡ true → dedup_from Same k (rows ++ row ∷ row ∷ more) ≡ dedup_from Same k (rows ++ row ∷ more)
dedup_from-twice k [] more row itself =
    elim (Same row k) as (λ b. Same row k ≡ b → cond b (dedup_from Same k (row ∷ more)) (k ∷ dedup_from Same row (row ∷ more)) ≡ cond b (dedup_from Same k more) (k ∷ dedup_from Same row more)) [
      | true ↦ λ is. ap (λ b. cond b (dedup_from Same k more) (k ∷ dedup_from Same row more)) is
      | false ↦ λ is. ap (λ b. k ∷ cond b (dedup_from Same row more) (row ∷ dedup_from Same row more)) itself
    ] refl
dedup_from-twice k (x ∷ rows) more row itself =
    λ i. cond (Same x k) (dedup_from-twice k rows more row itself i) (k ∷ dedup_from-twice x rows more row itself i)

dedup-twice : (rows more : List ListedRow) (row : ListedRow) → Same row row ≡ true → dedup Same (rows ++ row ∷ row ∷ more) ≡ dedup Same (rows ++ row ∷ more)
dedup-twice [] more row itself = ap (λ b. cond b (dedup_from Same row more) (row ∷ dedup_from Same row more)) itself
dedup-twice (x ∷ rows) more row itself = dedup_from-twice x rows more row itself

-- more rows behind change none of those that are kept
pub record IsFrontOf (front whole : List ListedRow) : Type 0 where
  pub more : List ListedRow
  pub is_front : whole ≡ front ++ more

dedup_from-first : (k : ListedRow) (rows : List ListedRow) → IsFrontOf (k ∷ []) (dedup_from Same k rows)
dedup_from-first k [] = record { more = []; is_front = refl }
dedup_from-first k (x ∷ rows) =
    elim (Same x k) as (λ b. IsFrontOf (k ∷ []) (cond b (dedup_from Same k rows) (k ∷ dedup_from Same x rows))) [
      | true ↦ dedup_from-first k rows
      | false ↦ record { more = dedup_from Same x rows; is_front = refl }
    ]

dedup_from-front : (k : ListedRow) (rows more : List ListedRow) → IsFrontOf (dedup_from Same k rows) (dedup_from Same k (rows ++ more))
dedup_from-front k [] more = dedup_from-first k more
dedup_from-front k (x ∷ rows) more =
    elim (Same x k) as (λ b. IsFrontOf (cond b (dedup_from Same k rows) (k ∷ dedup_from Same x rows)) (cond b (dedup_from Same k (rows ++ more)) (k ∷ dedup_from Same x (rows ++ more)))) [
      | true ↦ dedup_from-front k rows more
      | false ↦ let rest = dedup_from-front x rows more in record { more = rest.more; is_front = ap (λ kept. k ∷ kept) rest.is_front }
    ]

dedup-front : (rows more : List ListedRow) → IsFrontOf (dedup Same rows) (dedup Same (rows ++ more))
dedup-front [] more = record { more = dedup Same more; is_front = refl }
dedup-front (x ∷ rows) more = dedup_from-front x rows more

-- ---- all rows

module _ (c : ListCommand) where
  abbrev Pair : Type 0
  Pair = List ℕ × RowView

  abbrev chosen : List Pair → List Pair
  chosen live = filter (λ e. in_scope c e.0) live

  chosen-cons : (e : Pair) (ys : List Pair) → in_scope c e.0 ≡ true → chosen (e ∷ ys) ≡ e ∷ chosen ys
  chosen-cons e ys is = ap (λ b. cond b (e ∷ chosen ys) (chosen ys)) is

  chosen-not : (e : Pair) (ys : List Pair) → in_scope c e.0 ≡ false → chosen (e ∷ ys) ≡ chosen ys
  chosen-not e ys is = ap (λ b. cond b (e ∷ chosen ys) (chosen ys)) is

  -- one name more, at the end
  pub all_rows-push : (live : List Pair) (e : Pair) → in_scope c e.0 ≡ true → all_rows c (live ++ e ∷ []) ≡ with_row (all_rows c live) (listed_row c e)
  all_rows-push live e is =
      ap (λ es. dedup Same (map (listed_row c) es)) (filter-append (λ e. in_scope c e.0) live (e ∷ []) ∙ ap (λ es. chosen live ++ es) (chosen-cons e [] is))
      ∙ ap (dedup Same) (map-append (listed_row c) (chosen live) (e ∷ []))
      ∙ dedup-push (map (listed_row c) (chosen live)) (listed_row c e)

  pub outside : (xs ys : List Pair) (e : Pair) → in_scope c e.0 ≡ false → rows_of c (xs ++ e ∷ ys) ≡ rows_of c (xs ++ ys)
  outside xs ys e is =
      ap (λ es. take (most_rows c) (dedup Same (map (listed_row c) es)))
      (filter-append (λ e. in_scope c e.0) xs (e ∷ ys) ∙ ap (λ es. chosen xs ++ es) (chosen-not e ys is) ∙ sym (filter-append (λ e. in_scope c e.0) xs ys))

  pub folded : (xs ys : List Pair) (x e : Pair) (subdir : List ℕ) → in_scope c x.0 ≡ true → subdir_of c x.0 ≡ Some subdir → subdir_of c e.0 ≡ Some subdir → rows_of c (xs ++ x ∷ e ∷ ys) ≡ rows_of c (xs ++ x ∷ ys)
  folded xs ys x e subdir is of_x of_e =
      elim (in_scope c e.0) as (λ b. in_scope c e.0 ≡ b → rows_of c (xs ++ x ∷ e ∷ ys) ≡ rows_of c (xs ++ x ∷ ys)) [
        | false ↦ λ no.
            ap (λ es. rows_of c es) (sym (append_assoc xs (x ∷ []) (e ∷ ys))) ∙ outside (xs ++ x ∷ []) ys e no ∙ ap (λ es. rows_of c es) (append_assoc xs (x ∷ []) ys)
        | true ↦ λ both.
            let row_x : listed_row c x ≡ Subdir subdir = ap (λ o. row_under o x.0 (thing_of x.1)) of_x in
            let row_e : listed_row c e ≡ Subdir subdir = ap (λ o. row_under o e.0 (thing_of e.1)) of_e in
            let two : map (listed_row c) (chosen (xs ++ x ∷ e ∷ ys)) ≡ map (listed_row c) (chosen xs) ++ Subdir subdir ∷ Subdir subdir ∷ map (listed_row c) (chosen ys) =
            ap (map (listed_row c)) (filter-append (λ e. in_scope c e.0) xs (x ∷ e ∷ ys) ∙ ap (λ es. chosen xs ++ es) (chosen-cons x (e ∷ ys) is ∙ ap (λ es. x ∷ es) (chosen-cons e ys both)))
            ∙ map-append (listed_row c) (chosen xs) (x ∷ e ∷ chosen ys)
            ∙ (λ i. map (listed_row c) (chosen xs) ++ row_x i ∷ row_e i ∷ map (listed_row c) (chosen ys)) in
            let one : map (listed_row c) (chosen (xs ++ x ∷ ys)) ≡ map (listed_row c) (chosen xs) ++ Subdir subdir ∷ map (listed_row c) (chosen ys) =
            ap (map (listed_row c)) (filter-append (λ e. in_scope c e.0) xs (x ∷ ys) ∙ ap (λ es. chosen xs ++ es) (chosen-cons x ys is))
            ∙ map-append (listed_row c) (chosen xs) (x ∷ chosen ys)
            ∙ (λ i. map (listed_row c) (chosen xs) ++ row_x i ∷ map (listed_row c) (chosen ys)) in
            ap (λ rows. take (most_rows c) (dedup Same rows)) two
            ∙ ap (take (most_rows c)) (dedup-twice (map (listed_row c) (chosen xs)) (map (listed_row c) (chosen ys)) (Subdir subdir) (same_bytes subdir))
            ∙ sym (ap (λ rows. take (most_rows c) (dedup Same rows)) one)
      ] refl
    where
      same_bytes : (text : List ℕ) → Same (Subdir text) (Subdir text) ≡ true
      same_bytes text = (bytes_eq-Decides text text).1 refl

  all_rows-front : (xs ys : List Pair) → IsFrontOf (all_rows c xs) (all_rows c (xs ++ ys))
  all_rows-front xs ys =
      let split : map (listed_row c) (chosen (xs ++ ys)) ≡ map (listed_row c) (chosen xs) ++ map (listed_row c) (chosen ys) =
      ap (map (listed_row c)) (filter-append (λ e. in_scope c e.0) xs ys) ∙ map-append (listed_row c) (chosen xs) (chosen ys) in
      subst (λ rows. IsFrontOf (all_rows c xs) (dedup Same rows)) (sym split) (dedup-front (map (listed_row c) (chosen xs)) (map (listed_row c) (chosen ys)))

  pub behind : (xs ys : List Pair) → length (rows_of c xs) ≡ most_rows c → rows_of c (xs ++ ys) ≡ rows_of c xs
  behind xs ys full =
      let front = all_rows-front xs ys in
      let long : most_rows c ≤ length (all_rows c xs) = (let cut = length-take (most_rows c) (all_rows c xs) in omega (arith, full, cut)) in
      ap (take (most_rows c)) front.is_front ∙ take-append-le (most_rows c) (all_rows c xs) front.more long
