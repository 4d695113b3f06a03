-- Lists by rising name, and where names stand in them.
use Rattle.std.proofs.Common.{◌≡◌, ⊎_elim, ℕ, Bool, true, false, not, cond, List, [], ◌∷◌, ◌++◌, Some, None, get_or, refl, sym, ◌∙◌, ap, subst, arith}
use Rattle.std.specs.List.{Contains}
use Rattle.std.specs.Ordering.{eq_by_cmp}
use Rattle.std.specs.FinMap.Entries.{find, where_key, below_all, is_sorted}
use Rattle.std.proofs.lemmas.Bool.{and_parts, and_from, both_ways, false_from_ne_true}
use Rattle.std.proofs.lemmas.List.Elements.{Contains-get_or, Contains-append_right, Contains-append_cases, Contains-push_cases}
use Rattle.object_words.specs.Names.{name_cmp}
use Rattle.object_words.proofs.KeyLemmas.{same_text}
use Rattle.list_words.specs.Listings.{is_before}
use Rattle.list_words.proofs.Texts.{before_itself, not_after}
use Rattle.task_list.proofs.Names.{find-head, find-other, find-none, before_apart}
use Rattle.task_list.proofs.Passing.{in_front, at_front, behind_front}

-- nothing stands in an empty list
pub nowhere : {X : Type 0} (x : X) → Contains [] x → ⊥
nowhere x there = let within = there.1 in omega (arith, within)

abbrev Pairs : Type 0 → Type 0
Pairs X = List (List ℕ × X)

module _ {X : Type 0} where
  -- each name is above the one that is below all
  pub below_at : (n : List ℕ) (es : Pairs X) (e : List ℕ × X) → below_all name_cmp n es ≡ true → Contains es e → is_before n e.0 ≡ true
  below_at n [] e below there = absurd (nowhere e there)
  below_at n (f ∷ es) e below there =
      let parts = and_parts (is_before n f.0) (below_all name_cmp n es) below in
      ⊎_elim (λ is. subst (λ g. is_before n g.0 ≡ true) is parts.0) (λ behind. below_at n es e parts.1 behind) (in_front f es e there)

  -- nothing stands under a name that is below all
  pub find-below_all : (n : List ℕ) (es : Pairs X) → below_all name_cmp n es ≡ true → find name_cmp n es ≡ None
  find-below_all n es below =
      find-none n es (λ k d within. before_apart n (get_or es k d).0 (below_at n es (get_or es k d) below (Contains-get_or es k d within)))

  -- what stands further in front has the lower name
  pub in_order : (xs ys : Pairs X) (x y : List ℕ × X) → is_sorted name_cmp (xs ++ ys) ≡ true → Contains xs x → Contains ys y → is_before x.0 y.0 ≡ true
  in_order [] ys x y rise there later = absurd (nowhere x there)
  in_order (f ∷ xs) ys x y rise there later =
      let parts = and_parts (below_all name_cmp f.0 (xs ++ ys)) (is_sorted name_cmp (xs ++ ys)) rise in
      ⊎_elim (λ is. subst (λ g. is_before g.0 y.0 ≡ true) is (below_at f.0 (xs ++ ys) y parts.0 (Contains-append_right xs ys y later)))
      (λ behind. in_order xs ys x y parts.1 behind later) (in_front f xs x there)

  below-front : (n : List ℕ) (xs ys : Pairs X) → below_all name_cmp n (xs ++ ys) ≡ true → below_all name_cmp n xs ≡ true
  below-front n [] ys below = refl
  below-front n (f ∷ xs) ys below =
      let parts = and_parts (is_before n f.0) (below_all name_cmp n (xs ++ ys)) below in
      and_from _ _ parts.0 (below-front n xs ys parts.1)

  pub sorted-front : (xs ys : Pairs X) → is_sorted name_cmp (xs ++ ys) ≡ true → is_sorted name_cmp xs ≡ true
  sorted-front [] ys rise = refl
  sorted-front (f ∷ xs) ys rise =
      let parts = and_parts (below_all name_cmp f.0 (xs ++ ys)) (is_sorted name_cmp (xs ++ ys)) rise in
      and_from _ _ (below-front f.0 xs ys parts.0) (sorted-front xs ys parts.1)

  -- what is below an element stands before it
  pub stands_before : (xs ys : Pairs X) (e m : List ℕ × X) → is_sorted name_cmp (xs ++ e ∷ ys) ≡ true → Contains (xs ++ e ∷ ys) m → is_before m.0 e.0 ≡ true → Contains xs m
  stands_before xs ys e m rise there below =
      ⊎_elim (λ before. before)
      (λ from. absurd (
      ⊎_elim (λ is. both_ways _ (before_itself e.0) (subst (λ g. is_before g.0 e.0 ≡ true) (sym is) below))
      (λ behind. let parts = and_parts (below_all name_cmp e.0 ys) (is_sorted name_cmp ys) (sorted-back xs (e ∷ ys) rise) in
      both_ways _ (not_after e.0 m.0 (below_at e.0 ys m parts.0 behind)) below)
      (in_front e ys m from)))
      (Contains-append_cases xs (e ∷ ys) m there)
    where
      sorted-back : (xs ys : Pairs X) → is_sorted name_cmp (xs ++ ys) ≡ true → is_sorted name_cmp ys ≡ true
      sorted-back [] ys rise = rise
      sorted-back (f ∷ xs) ys rise = sorted-back xs ys (and_parts (below_all name_cmp f.0 (xs ++ ys)) (is_sorted name_cmp (xs ++ ys)) rise).1

  -- ---- what is found

  pub found_there : (es : Pairs X) (e : List ℕ × X) → is_sorted name_cmp es ≡ true → Contains es e → find name_cmp e.0 es ≡ Some e.1
  found_there [] e rise there = absurd (nowhere e there)
  found_there (f ∷ es) e rise there =
      let parts = and_parts (below_all name_cmp f.0 es) (is_sorted name_cmp es) rise in
      ⊎_elim (λ is. subst (λ g. find name_cmp g.0 (f ∷ es) ≡ Some g.1) is (find-head f.0 f.1 es))
      (λ behind. find-other e.0 f es (λ same. before_apart f.0 e.0 (below_at f.0 es e parts.0 behind) (sym same)) ∙ found_there es e parts.1 behind)
      (in_front f es e there)

  pub there_found : (es : Pairs X) (n : List ℕ) (x : X) → find name_cmp n es ≡ Some x → Contains es (n, x)
  there_found [] n x is = cc
  there_found (f ∷ es) n x is =
      elim (eq_by_cmp name_cmp n f.0) as (λ b. eq_by_cmp name_cmp n f.0 ≡ b → cond b (Some f.1) (find name_cmp n es) ≡ Some x → Contains (f ∷ es) (n, x)) [
        | true ↦ λ tied here.
            let name = same_text n f.0 tied in
            let value : f.1 ≡ x = cc in
            subst (Contains (f ∷ es)) (λ i. (sym name i, value i)) (at_front f es)
        | false ↦ λ apart later. behind_front f es (n, x) (there_found es n x later)
      ] refl is

  -- ---- what is kept of a list

  pub kept_there : (keep : List ℕ → Bool) (es : Pairs X) (e : List ℕ × X) → Contains es e → keep e.0 ≡ true → Contains (where_key name_cmp keep es) e
  kept_there keep [] e there passes = absurd (nowhere e there)
  kept_there keep (f ∷ es) e there passes =
      let kept = where_key name_cmp keep es in
      elim (keep f.0) as (λ b. keep f.0 ≡ b → Contains (cond b (f ∷ kept) kept) e) [
        | true ↦ λ is.
            ⊎_elim (λ same. subst (Contains (f ∷ kept)) same (at_front f kept))
            (λ behind. behind_front f kept e (kept_there keep es e behind passes)) (in_front f es e there)
        | false ↦ λ drops.
            ⊎_elim (λ same. absurd (both_ways _ drops (subst (λ g. keep g.0 ≡ true) (sym same) passes)))
            (λ behind. kept_there keep es e behind passes) (in_front f es e there)
      ] refl

  -- the last element of a list
  pub record HasLast (es : Pairs X) : Type 0 where
    pub front : Pairs X
    pub last : List ℕ × X
    pub split : es ≡ front ++ last ∷ []

  last_of : (f : List ℕ × X) (es : Pairs X) → HasLast (f ∷ es)
  last_of f [] = record { front = []; last = f; split = refl }
  last_of f (g ∷ es) = let l = last_of g es in record { front = f ∷ l.front; last = l.last; split = ap (λ z. f ∷ z) l.split }

  pub has_last : (es : Pairs X) (e : List ℕ × X) → Contains es e → HasLast es
  has_last [] e there = absurd (nowhere e there)
  has_last (f ∷ es) e there = last_of f es

  -- it has the greatest name
  pub upto_last : (es front : Pairs X) (last e : List ℕ × X) → es ≡ front ++ last ∷ [] → is_sorted name_cmp es ≡ true → Contains es e → is_before last.0 e.0 ≡ false
  upto_last es front last e split rise there =
      ⊎_elim (λ before. not_after e.0 last.0 (in_order front (last ∷ []) e last (subst (λ z. is_sorted name_cmp z ≡ true) split rise) before (at_front last [])))
      (λ is. subst (λ g. is_before last.0 g.0 ≡ false) is (before_itself last.0))
      (Contains-push_cases front last e (subst (λ z. Contains z e) split there))

  -- ---- a list in two

  module _ (low : List ℕ → Bool) (down : (x y : List ℕ) → is_before x y ≡ true → low y ≡ true → low x ≡ true) where
    abbrev lower : Pairs X → Pairs X
    lower = where_key name_cmp low

    abbrev higher : Pairs X → Pairs X
    higher = where_key name_cmp (λ n. not (low n))

    none_lower : (n : List ℕ) (es : Pairs X) → low n ≡ false → below_all name_cmp n es ≡ true → (lower es ≡ []) × (higher es ≡ es)
    none_lower n [] high below = (refl, refl)
    none_lower n (e ∷ es) high below =
        let parts = and_parts (is_before n e.0) (below_all name_cmp n es) below in
        let no = false_from_ne_true (low e.0) (λ is. both_ways _ high (down n e.0 parts.0 is)) in
        let rest = none_lower n es high parts.1 in
        (ap (λ b. cond b (e ∷ lower es) (lower es)) no ∙ rest.0, ap (λ b. cond (not b) (e ∷ higher es) (higher es)) no ∙ ap (λ z. e ∷ z) rest.1)

    pub in_two : (es : Pairs X) → is_sorted name_cmp es ≡ true → es ≡ lower es ++ higher es
    in_two [] rise = refl
    in_two (e ∷ es) rise =
        let parts = and_parts (below_all name_cmp e.0 es) (is_sorted name_cmp es) rise in
        elim (low e.0) as (λ b. low e.0 ≡ b → e ∷ es ≡ cond b (e ∷ lower es) (lower es) ++ cond (not b) (e ∷ higher es) (higher es)) [
          | true ↦ λ is. ap (λ z. e ∷ z) (in_two es parts.1)
          | false ↦ λ no. let all = none_lower e.0 es no parts.0 in λ i. sym all.0 i ++ e ∷ sym all.1 i
        ] refl

  pub none_higher : (low : List ℕ → Bool) → ((n : List ℕ) → low n ≡ true) → (es : Pairs X) → where_key name_cmp (λ n. not (low n)) es ≡ []
  none_higher low all [] = refl
  none_higher low all (e ∷ es) =
      ap (λ b. cond (not b) (e ∷ where_key name_cmp (λ n. not (low n)) es) (where_key name_cmp (λ n. not (low n)) es)) (all e.0) ∙ none_higher low all es
