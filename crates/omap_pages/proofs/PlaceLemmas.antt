-- What the place of a key says of a list of entries, and of an edit there. R is the order of the keys.
use Rattle.std.proofs.Common.{◌≡◌, ℕ, zero, suc, ◌<◌, ◌≤◌, true, not, List, [], ◌∷◌, length, set, get_or, Some, None, is_some, refl, sym, ap, subst, ◌∙◌, arith, inl, inr}
use Rattle.std.specs.List.{insert, remove}
use Rattle.std.specs.Ordering.{is_lt, is_eq, eq_by_cmp}
use Rattle.std.specs.declared.cmp.Ordering.{Ordering}
use Rattle.std.specs.declared.cmp.Ordering.TheVariants.{Less, Equal, Greater}
use Rattle.std.specs.FinMap.Entries.{find, put, where_key, below_all, is_sorted}
use Rattle.std.proofs.lemmas.Bool.{and_parts, cases_lt}
use Rattle.omap_pages.proofs.FilterLemmas.{filter_from, filter_outside}
use Rattle.omap_pages.specs.Places.{IsAt, IsGapFor}
use Rattle.omap_pages.specs.Rows.{key_cmp}

less_from_test : (o : Ordering) → is_lt o ≡ true → o ≡ Less
less_from_test Less e = refl
less_from_test Equal e = cc
less_from_test Greater e = cc

module _ {K X : Type 0} (R : K → K → Ordering) where
  below_all_at : (x : K) (es : List (K × X)) → below_all R x es ≡ true → (j : ℕ) (d : K × X) → j < length es → R x (get_or es j d).0 ≡ Less
  below_all_at x [] h j d lt = absurd (omega arith)
  below_all_at x (e ∷ es) h zero d lt = less_from_test _ (and_parts _ _ h).0
  below_all_at x (e ∷ es) h (suc j) d lt = below_all_at x es (and_parts _ _ h).1 j d (omega arith)

  -- an earlier key is below a later one
  pub less_at : (es : List (K × X)) → is_sorted R es ≡ true → (i j : ℕ) (d : K × X) → i < j → j < length es → R (get_or es i d).0 (get_or es j d).0 ≡ Less
  less_at [] h i j d lt in_range = absurd (omega arith)
  less_at (e ∷ es) h zero zero d lt in_range = absurd (omega arith)
  less_at (e ∷ es) h (suc i) zero d lt in_range = absurd (omega arith)
  less_at (e ∷ es) h zero (suc j) d lt in_range = below_all_at e.0 es (and_parts _ _ h).0 j d (omega arith)
  less_at (e ∷ es) h (suc i) (suc j) d lt in_range = less_at es (and_parts _ _ h).1 i j d (omega arith) (omega arith)

  -- what stands before place i, and what from it on
  abbrev pub ComesAfter : List (K × X) → K → ℕ → Type 0
  ComesAfter es k i = (j : ℕ) (d : K × X) → j < i → R k (get_or es j d).0 ≡ Greater

  abbrev pub ComesBefore : List (K × X) → K → ℕ → Type 0
  ComesBefore es k i = (j : ℕ) (d : K × X) → i ≤ j → j < length es → R k (get_or es j d).0 ≡ Less

  pub find_at : (es : List (K × X)) (k : K) (i : ℕ) → i < length es → ComesAfter es k i → ((d : K × X) → R k (get_or es i d).0 ≡ Equal) → (d : K × X) → find R k es ≡ Some (get_or es i d).1
  find_at [] k i lt before here d = absurd (omega arith)
  find_at (e ∷ es) k zero lt before here d = rw (here e) refl
  find_at (e ∷ es) k (suc i) lt before here d = rw (before zero e (omega arith)) (find_at es k i (omega arith) (λ j d' l. before (suc j) d' (omega arith)) here d)

  pub find_gap : (es : List (K × X)) (k : K) (i : ℕ) → i ≤ length es → ComesAfter es k i → ComesBefore es k i → find R k es ≡ None
  find_gap [] k i le before after = refl
  find_gap (e ∷ es) k zero le before after = rw (after zero e (omega arith) (omega arith)) (find_gap es k zero (omega arith) (λ j d l. absurd (omega arith)) (λ j d l m. after (suc j) d (omega arith) (omega arith)))
  find_gap (e ∷ es) k (suc i) le before after = rw (before zero e (omega arith)) (find_gap es k i (omega arith) (λ j d l. before (suc j) d (omega arith)) (λ j d l m. after (suc j) d (omega arith) (omega arith)))

  pub put_gap : (es : List (K × X)) (k : K) (v : X) (i : ℕ) → i ≤ length es → ComesAfter es k i → ComesBefore es k i → insert es i (k, v) ≡ put R k v es
  put_gap [] k v zero le before after = refl
  put_gap [] k v (suc i) le before after = absurd (omega arith)
  put_gap (e ∷ es) k v zero le before after = rw (after zero e (omega arith) (omega arith)) refl
  put_gap (e ∷ es) k v (suc i) le before after = rw (before zero e (omega arith)) (ap (λ z. e ∷ z) (put_gap es k v i (omega arith) (λ j d l. before (suc j) d (omega arith)) (λ j d l m. after (suc j) d (omega arith) (omega arith))))

  pub put_at : (es : List (K × X)) (k : K) (v : X) (i : ℕ) → i < length es → ComesAfter es k i → ((d : K × X) → R k (get_or es i d).0 ≡ Equal) → (d : K × X) → set es i ((get_or es i d).0, v) ≡ put R k v es
  put_at [] k v i lt before here d = absurd (omega arith)
  put_at (e ∷ es) k v zero lt before here d = rw (here e) refl
  put_at (e ∷ es) k v (suc i) lt before here d = rw (before zero e (omega arith)) (ap (λ z. e ∷ z) (put_at es k v i (omega arith) (λ j d' l. before (suc j) d' (omega arith)) here d))

module _ {X : Type 0} (rows : List (List ℕ × X)) (key : List ℕ) (i : ℕ) where
  pub value_at_place : IsAt rows key i → (d : List ℕ × X) → find key_cmp key rows ≡ Some (get_or rows i d).1
  value_at_place at d = find_at key_cmp rows key i at.in_range at.before at.here d

  pub none_at_gap : IsGapFor rows key i → find key_cmp key rows ≡ None
  none_at_gap gap = find_gap key_cmp rows key i gap.in_range gap.before gap.after

  pub put_at_place : IsAt rows key i → (x : X) (d : List ℕ × X) → set rows i ((get_or rows i d).0, x) ≡ put key_cmp key x rows
  put_at_place at x d = put_at key_cmp rows key x i at.in_range at.before at.here d

  pub put_in_gap : IsGapFor rows key i → (x : X) → insert rows i (key, x) ≡ put key_cmp key x rows
  put_in_gap gap x = put_gap key_cmp rows key x i gap.in_range gap.before gap.after

pub there_at_place : {X : Type 0} (rows : List (List ℕ × X)) (key : List ℕ) (i : ℕ) → IsAt rows key i → is_some (find key_cmp key rows) ≡ true
there_at_place [] key i at = absurd (omega (arith, at.in_range))
there_at_place (e ∷ es) key i at = ap is_some (value_at_place (e ∷ es) key i at e)

-- the row at the place of a key is written over
pub set_at_place : {X : Type 0} (rows seen : List (List ℕ × X)) (k key : List ℕ) (i : ℕ) (e row : List ℕ × X) → seen ≡ rows → k ≡ key → IsAt seen k i → e ≡ get_or rows i e → row.0 ≡ e.0 → set rows i row ≡ put key_cmp key row.1 rows
set_at_place {X = X} rows seen k key i e row same same_key at read kept =
    let here = put_at_place seen k i at row.1 e in
    (λ j. set (sym same j) i ((kept ∙ ap (λ (r : List ℕ × X). r.0) (read ∙ ap (λ rs. get_or rs i e) (sym same))) j, row.1))
    ∙ here ∙ (λ j. put key_cmp (same_key j) row.1 (same j))

-- a row is put into the gap for its key
pub insert_in_gap : {X : Type 0} (rows seen : List (List ℕ × X)) (k key : List ℕ) (i : ℕ) (row : List ℕ × X) → seen ≡ rows → k ≡ key → IsGapFor seen k i → row.0 ≡ key → insert rows i row ≡ put key_cmp key row.1 rows
insert_in_gap rows seen k key i row same same_key gap of_key =
    (λ j. insert (sym same j) i ((of_key ∙ sym same_key) j, row.1)) ∙ put_in_gap seen k i gap row.1 ∙ (λ j. put key_cmp (same_key j) row.1 (same j))

module _ {X : Type 0} (rows : List (List ℕ × X)) (key : List ℕ) (i : ℕ) where
  -- the row at the place of a key is removed
  pub remove_at_place : IsAt rows key i → remove rows i ≡ where_key key_cmp (λ k. not (eq_by_cmp key_cmp key k)) rows
  remove_at_place at = filter_outside _ rows i (suc i) (omega arith) at.in_range
      (λ j d l. ap (λ o. not (is_eq o)) (at.before j d l))
      (λ j d l m. let same : j ≡ i = omega arith in rw same (ap (λ o. not (is_eq o)) (at.here d)))
      (λ j d l m. ap (λ o. not (is_eq o)) (at.after j d (omega arith) m))

  -- where there is a gap no row has the key
  pub kept_at_gap : IsGapFor rows key i → rows ≡ where_key key_cmp (λ k. not (eq_by_cmp key_cmp key k)) rows
  kept_at_gap gap = filter_from _ rows 0 (omega arith)
      (λ j d l. absurd (omega arith))
      (λ j d l m. elim (cases_lt j i) [
        | inl below ↦ ap (λ o. not (is_eq o)) (gap.before j d below)
        | inr from ↦ ap (λ o. not (is_eq o)) (gap.after j d from m)
      ])

module _ {X : Type 0} (rows seen : List (List ℕ × X)) (key : List ℕ) (i : ℕ) (same : seen ≡ rows) where
  pub find_here : (e : List ℕ × X) → IsAt seen key i → e ≡ get_or rows i e → find key_cmp key rows ≡ Some e.1
  find_here e at read = ap (find key_cmp key) (sym same) ∙ value_at_place seen key i at e ∙ ap (λ (r : List ℕ × X). Some r.1) (ap (λ rs. get_or rs i e) same ∙ sym read)

  pub there_here : IsAt seen key i → is_some (find key_cmp key rows) ≡ true
  there_here at = ap (λ rs. is_some (find key_cmp key rs)) (sym same) ∙ there_at_place seen key i at

  pub find_none : IsGapFor seen key i → find key_cmp key rows ≡ None
  find_none gap = ap (find key_cmp key) (sym same) ∙ none_at_gap seen key i gap

  pub remove_here : IsAt seen key i → remove rows i ≡ where_key key_cmp (λ k. not (eq_by_cmp key_cmp key k)) rows
  remove_here at = subst (λ rs. remove rs i ≡ where_key key_cmp (λ k. not (eq_by_cmp key_cmp key k)) rs) same (remove_at_place seen key i at)

  pub kept_none : IsGapFor seen key i → rows ≡ where_key key_cmp (λ k. not (eq_by_cmp key_cmp key k)) rows
  kept_none gap = subst (λ rs. rs ≡ where_key key_cmp (λ k. not (eq_by_cmp key_cmp key k)) rs) same (kept_at_gap seen key i gap)
