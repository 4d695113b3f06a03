-- Lists of entries in the order of their names, and the rows that they are written as.
use Rattle.std.proofs.Common.{◌≡◌, ℕ, zero, suc, Bool, true, false, cond, true≢false, if◌then◌else◌, T, List, [], ◌∷◌, ◌++◌, map, filter, take, Option, Some, None, option_map, refl, sym, ap, ◌∙◌, subst}
use Rattle.std.specs.List.{AllByRecursion}
use Rattle.std.specs.declared.cmp.Ordering.{Ordering}
use Rattle.std.specs.declared.cmp.Ordering.TheVariants.{Less, Equal, Greater}
use Rattle.std.specs.Ordering.{eq_by_cmp, is_eq, is_lt}
use Rattle.std.specs.Cmp.Lexicographic.{nat_list_cmp_total}
use Rattle.std.specs.FinMap.Entries.{below_all, find, is_sorted, same_entries, where_key}
use Rattle.omap_pages.specs.Rows.{Rows, key_cmp}
use Rattle.object_words.specs.declared.bucket.Bucket.{Bucket}
use Rattle.class_words.proofs.LogLemmas.{name_itself, other_name, same_name}
use Rattle.cls_record.specs.Pages.{keys_below}
use Rattle.cls_record.proofs.FrontLemmas.{behind_front, front_cmp, is_behind, not_behind}
use Rattle.class_words.proofs.AboveLog.{left_of, right_of, both_of, below_then, is_less, same_key}

t_less : (o : Ordering) → T (is_lt o) → o ≡ Less
t_less Less below = refl
t_less Equal below = absurd below
t_less Greater below = absurd below

-- ---- entries

abbrev pub Entries : Type 0
Entries = List (List ℕ × Bucket)

missing : (q : List ℕ) (es : Entries) → T (below_all key_cmp q es) → find key_cmp q es ≡ None
missing q [] h = refl
missing q (e ∷ es) h = ap (λ o. cond (is_eq o) (Some e.1) (find key_cmp q es)) (t_less _ (left_of _ _ h)) ∙ missing q es (right_of _ _ h)

found_later : (q : List ℕ) (x : Bucket) (e : List ℕ × Bucket) (es : Entries) → T (below_all key_cmp e.0 es) → find key_cmp q es ≡ Some x → find key_cmp q (e ∷ es) ≡ Some x
found_later q x e es order here =
    elim (eq_by_cmp key_cmp q e.0) as (λ b. eq_by_cmp key_cmp q e.0 ≡ b → cond b (Some e.1) (find key_cmp q es) ≡ Some x) [
      | true ↦ λ t. let none = ap (λ k. find key_cmp k es) (same_name q e.0 t) ∙ missing e.0 es order in absurd (let bad : None ≡ Some x = sym none ∙ here in cc)
      | false ↦ λ t. here
    ] refl

-- what holds of each answer holds of each entry
pub all_found : (P : List ℕ → Type 0) (es : Entries) → T (is_sorted key_cmp es) → ((q : List ℕ) (x : Bucket) → find key_cmp q es ≡ Some x → P q) → AllByRecursion (λ (e : List ℕ × Bucket). P e.0) es
all_found P [] order holds = tt
all_found P (e ∷ es) order holds = (
  holds e.0 e.1 (ap (λ b. cond b (Some e.1) (find key_cmp e.0 es)) (name_itself e.0)),
  all_found P es (right_of _ _ order) (λ q x here. holds q x (found_later q x e es (left_of _ _ order) here)),
)

-- the entries whose row passes a test
abbrev pub passing : (Bucket → Bool) → Entries → Entries
passing test es = filter (λ (e : List ℕ × Bucket). test e.1) es

-- the row, if it passes
abbrev pub passed : (Bucket → Bool) → Option Bucket → Option Bucket
passed test None = None
passed test (Some b) = if test b then Some b else None

pub all_passing : (P : List ℕ → Type 0) (test : Bucket → Bool) (es : Entries) → AllByRecursion (λ (e : List ℕ × Bucket). P e.0) es → AllByRecursion (λ (e : List ℕ × Bucket). P e.0) (passing test es)
all_passing P test [] all = tt
all_passing P test (e ∷ es) all =
    elim (test e.1) as (λ b. AllByRecursion (λ (x : List ℕ × Bucket). P x.0) (cond b (e ∷ passing test es) (passing test es))) [
      | true ↦ (all.0, all_passing P test es all.1)
      | false ↦ all_passing P test es all.1
    ]

below_passing : (x : List ℕ) (test : Bucket → Bool) (es : Entries) → T (below_all key_cmp x es) → T (below_all key_cmp x (passing test es))
below_passing x test [] h = tt
below_passing x test (e ∷ es) h =
    let rest = below_passing x test es (right_of _ _ h) in
    elim (test e.1) as (λ b. T (below_all key_cmp x (cond b (e ∷ passing test es) (passing test es)))) [ true ↦ both_of _ _ (left_of _ _ h) rest | false ↦ rest ]

pub sorted_passing : (test : Bucket → Bool) (es : Entries) → T (is_sorted key_cmp es) → T (is_sorted key_cmp (passing test es))
sorted_passing test [] h = tt
sorted_passing test (e ∷ es) h =
    let rest = sorted_passing test es (right_of _ _ h) in
    elim (test e.1) as (λ b. T (is_sorted key_cmp (cond b (e ∷ passing test es) (passing test es)))) [ true ↦ both_of _ _ (below_passing e.0 test es (left_of _ _ h)) rest | false ↦ rest ]

pub find_passing : (test : Bucket → Bool) (n : List ℕ) (es : Entries) → T (is_sorted key_cmp es) → find key_cmp n (passing test es) ≡ passed test (find key_cmp n es)
find_passing test n [] order = refl
find_passing test n (e ∷ es) order =
    let rest = find_passing test n es (right_of _ _ order) in
    elim (test e.1) as (λ t. test e.1 ≡ t → find key_cmp n (cond t (e ∷ passing test es) (passing test es)) ≡ passed test (cond (eq_by_cmp key_cmp n e.0) (Some e.1) (find key_cmp n es))) [
      | true ↦ λ pass. elim (eq_by_cmp key_cmp n e.0) as (λ u. cond u (Some e.1) (find key_cmp n (passing test es)) ≡ passed test (cond u (Some e.1) (find key_cmp n es))) [
        | true ↦ ap (λ t. if t then Some e.1 else None) (sym pass)
        | false ↦ rest
      ]
      | false ↦ λ fail. elim (eq_by_cmp key_cmp n e.0) as (λ u. eq_by_cmp key_cmp n e.0 ≡ u → find key_cmp n (passing test es) ≡ passed test (cond u (Some e.1) (find key_cmp n es))) [
        | true ↦ λ same. rest ∙ ap (passed test) (ap (λ k. find key_cmp k es) (same_name n e.0 same) ∙ missing e.0 es (left_of _ _ order)) ∙ ap (λ t. if t then Some e.1 else None) (sym fail)
        | false ↦ λ other. rest
      ] refl
    ] refl

-- ---- entries as rows

module _ (p : List ℕ) (f : Bucket → List ℕ) where
  -- an entry under its name behind a front
  abbrev pub written : List ℕ × Bucket → List ℕ × List ℕ
  written e = (p ++ e.0, f e.1)

  find_written : (n : List ℕ) (es : Entries) → find key_cmp (p ++ n) (map written es) ≡ option_map f (find key_cmp n es)
  find_written n [] = refl
  find_written n (e ∷ es) =
      ap (λ t. cond t (Some (f e.1)) (find key_cmp (p ++ n) (map written es))) (ap is_eq (front_cmp p n e.0))
      ∙ elim (eq_by_cmp key_cmp n e.0) as (λ b. cond b (Some (f e.1)) (find key_cmp (p ++ n) (map written es)) ≡ option_map f (cond b (Some e.1) (find key_cmp n es))) [
        | true ↦ refl
        | false ↦ find_written n es
      ]

  find_other : (q : List ℕ) (es : Entries) → behind_front p q ≡ None → find key_cmp q (map written es) ≡ None
  find_other q [] none = refl
  find_other q (e ∷ es) none = rw (other_name q (p ++ e.0) (not_behind p q e.0 none)) (find_other q es none)

  below_written : (x : List ℕ) (es : Entries) → T (below_all key_cmp x es) → T (below_all key_cmp (p ++ x) (map written es))
  below_written x [] h = tt
  below_written x (e ∷ es) h = both_of _ _ (subst (λ o. T (is_lt o)) (sym (front_cmp p x e.0)) (left_of _ _ h)) (below_written x es (right_of _ _ h))

  sorted_written : (es : Entries) → T (is_sorted key_cmp es) → T (is_sorted key_cmp (map written es))
  sorted_written [] h = tt
  sorted_written (e ∷ es) h = both_of _ _ (below_written e.0 es (left_of _ _ h)) (sorted_written es (right_of _ _ h))

  -- rows that have under each key what the entries have are the entries
  pub same_rows : (xs : Rows) (es : Entries) → T (is_sorted key_cmp xs) → T (is_sorted key_cmp es) → ((n : List ℕ) → find key_cmp (p ++ n) xs ≡ option_map f (find key_cmp n es))
      → ((q : List ℕ) → behind_front p q ≡ None → find key_cmp q xs ≡ None) → xs ≡ map written es
  same_rows xs es order es_order here others =
      same_entries key_cmp nat_list_cmp_total same_key xs (map written es) order (sorted_written es es_order) (λ q.
      elim (behind_front p q) as (λ o. behind_front p q ≡ o → find key_cmp q xs ≡ find key_cmp q (map written es)) [
        | Some n ↦ λ e. let is = is_behind p q n e in ap (λ k. find key_cmp k xs) is ∙ here n ∙ sym (ap (λ k. find key_cmp k (map written es)) is ∙ find_written n es)
        | None ↦ λ e. others q e ∙ sym (find_other q es e)
      ] refl)

  pub keys_written : (es : Entries) → map (λ (row : List ℕ × List ℕ). row.0) (map written es) ≡ map (λ n. p ++ n) (map (λ (e : List ℕ × Bucket). e.0) es)
  keys_written [] = refl
  keys_written (e ∷ es) = ap (λ l. (p ++ e.0) ∷ l) (keys_written es)

-- ---- the first rows below an end

module _ (end : List ℕ) where
  abbrev pub is_below_end : List ℕ → Bool
  is_below_end k = is_lt (key_cmp k end)

  none_below : (x : List ℕ) (xs : Rows) → is_below_end x ≡ false → T (below_all key_cmp x xs) → where_key key_cmp is_below_end xs ≡ []
  none_below x [] not h = refl
  none_below x (y ∷ ys) not h =
      elim (is_below_end y.0) as (λ t. is_below_end y.0 ≡ t → cond t (y ∷ where_key key_cmp is_below_end ys) (where_key key_cmp is_below_end ys) ≡ []) [
        | true ↦ λ e. absurd (true≢false (sym (below_then x y.0 end (t_less _ (left_of _ _ h)) (is_less _ e)) ∙ not))
        | false ↦ λ e. none_below x ys not (right_of _ _ h)
      ] refl

  pub all_below : (xs : Rows) → T (is_sorted key_cmp xs) → keys_below end xs ≡ map (λ (row : List ℕ × List ℕ). row.0) (where_key key_cmp is_below_end xs)
  all_below [] order = refl
  all_below (x ∷ xs) order =
      elim (is_below_end x.0) as (λ t. is_below_end x.0 ≡ t → (if t then x.0 ∷ keys_below end xs else []) ≡ map (λ (row : List ℕ × List ℕ). row.0) (cond t (x ∷ where_key key_cmp is_below_end xs) (where_key key_cmp is_below_end xs))) [
        | true ↦ λ e. ap (λ l. x.0 ∷ l) (all_below xs (right_of _ _ order))
        | false ↦ λ e. sym (ap (map (λ (row : List ℕ × List ℕ). row.0)) (none_below x.0 xs e (left_of _ _ order)))
      ] refl

  pub first_below : (n : ℕ) (xs : Rows) → keys_below end (take n xs) ≡ take n (keys_below end xs)
  first_below zero xs = refl
  first_below (suc n) [] = refl
  first_below (suc n) (x ∷ xs) =
      elim (is_below_end x.0) as (λ t. (if t then x.0 ∷ keys_below end (take n xs) else []) ≡ take (suc n) (if t then x.0 ∷ keys_below end xs else [])) [
        | true ↦ ap (λ l. x.0 ∷ l) (first_below n xs)
        | false ↦ refl
      ]
