-- Lists of events, one behind the other, and the numbers of a pass's own.
use Rattle.std.proofs.Common.{◌≡◌, ◌≢◌, ℕ, ◌+◌, ◌<◌, ◌≤◌, ◌⊎◌, ◌==◌, true, false, cond, List, [], ◌∷◌, ◌++◌, length, refl, sym, ap, ◌∙◌, inl, inr, ⊎_elim, arith, eq-eqb, ne_eqb, length-append, add-zero}
use Rattle.std.proofs.lemmas.List.{append-nil}
use Rattle.std.specs.List.{AllByRecursion}
use Rattle.turn_cell.specs.Histories.{NoneBy, NoneFrom, NoneBetween, numbers_from, numbers_of}

module _ {X : Type 0} (P : X → Type 0) where
  pub all_append : (xs ys : List X) → AllByRecursion P xs → AllByRecursion P ys → AllByRecursion P (xs ++ ys)
  all_append [] ys p q = q
  all_append (x ∷ xs) ys p q = (p.0, all_append xs ys p.1 q)

  pub all_behind : (xs ys : List X) → AllByRecursion P (xs ++ ys) → AllByRecursion P ys
  all_behind [] ys p = p
  all_behind (x ∷ xs) ys p = all_behind xs ys p.1

  pub all_weaker : (Q : X → Type 0) → ((x : X) → P x → Q x) → (xs : List X) → AllByRecursion P xs → AllByRecursion Q xs
  all_weaker Q f [] p = tt
  all_weaker Q f (x ∷ xs) p = (f x p.0, all_weaker Q f xs p.1)

module _ {E : Type 0} (by : E → ℕ) where
  -- each of these events is by that pass
  abbrev pub AllBy : ℕ → List E → Type 0
  AllBy pass events = AllByRecursion (λ e. by e ≡ pass) events

  pub none_by_another : (pass other : ℕ) (es : List E) → pass ≢ other → AllBy pass es → NoneBy by other es
  none_by_another pass other es apart own = all_weaker (λ e. by e ≡ pass) (λ e. by e ≢ other) (λ e is same. apart (sym is ∙ same)) es own

  -- the events of a pass whose number is not one of these
  pub none_between_by : (pass low high : ℕ) (es : List E) → (pass < low) ⊎ (high ≤ pass) → AllBy pass es → NoneBetween by low high es
  none_between_by pass low high es d own =
      all_weaker (λ e. by e ≡ pass) (λ e. (by e < low) ⊎ (high ≤ by e)) (λ e is. ⊎_elim (λ l. inl (omega (arith, l, is))) (λ h. inr (omega (arith, h, is))) d) es own

  pub none_between_from : (low high : ℕ) (es : List E) → NoneFrom by low es → NoneBetween by low high es
  none_between_from low high es p = all_weaker (λ e. by e < low) (λ e. (by e < low) ⊎ (high ≤ by e)) (λ e l. inl l) es p

  -- fewer numbers
  pub none_between_less : (low high low' high' : ℕ) (es : List E) → low ≤ low' → high' ≤ high → NoneBetween by low high es → NoneBetween by low' high' es
  none_between_less low high low' high' es l h p =
      all_weaker (λ e. (by e < low) ⊎ (high ≤ by e)) (λ e. (by e < low') ⊎ (high' ≤ by e)) (λ e d. ⊎_elim (λ a. inl (omega (arith, a, l))) (λ b. inr (omega (arith, b, h))) d) es p

  pub none_by_between : (low high pass : ℕ) (es : List E) → low ≤ pass → pass < high → NoneBetween by low high es → NoneBy by pass es
  none_by_between low high pass es l h p =
      all_weaker (λ e. (by e < low) ⊎ (high ≤ by e)) (λ e. by e ≢ pass) (λ e d is. ⊎_elim (λ a. absurd (omega (arith, a, l, is))) (λ b. absurd (omega (arith, b, h, is))) d) es p

  numbers_of_none : (next pass : ℕ) (es : List E) → NoneBy by pass es → numbers_from by next pass es ≡ []
  numbers_of_none next pass [] p = refl
  numbers_of_none next pass (e ∷ es) p = rw (ne_eqb (by e) pass p.0) (numbers_of_none (next + 1) pass es p.1)

  -- a pass that made no event has no numbers
  pub numbers_of_fresh : (low high pass : ℕ) (es : List E) → low ≤ pass → pass < high → NoneBetween by low high es → numbers_of by pass es ≡ []
  numbers_of_fresh low high pass es l h p = numbers_of_none 1 pass es (none_by_between low high pass es l h p)

  numbers_append : (next pass : ℕ) (xs ys : List E) → numbers_from by next pass (xs ++ ys) ≡ numbers_from by next pass xs ++ numbers_from by (next + length xs) pass ys
  numbers_append next pass [] ys = ap (λ n. numbers_from by n pass ys) (sym (add-zero next))
  numbers_append next pass (x ∷ xs) ys =
      let after : List ℕ = numbers_from by (next + length (x ∷ xs)) pass ys in
      let place : (next + 1) + length xs ≡ next + length (x ∷ xs) = omega arith in
      let r : numbers_from by (next + 1) pass (xs ++ ys) ≡ numbers_from by (next + 1) pass xs ++ after = numbers_append (next + 1) pass xs ys ∙ ap (λ n. numbers_from by (next + 1) pass xs ++ numbers_from by n pass ys) place in
      elim (by x == pass) as (λ b. cond b (next ∷ numbers_from by (next + 1) pass (xs ++ ys)) (numbers_from by (next + 1) pass (xs ++ ys)) ≡ cond b (next ∷ numbers_from by (next + 1) pass xs) (numbers_from by (next + 1) pass xs) ++ after)
      [ true ↦ ap (λ l. next ∷ l) r | false ↦ r ]

  -- a step adds its number to those of the pass
  pub numbers_grow : (pass : ℕ) (seen between : List E) (e : E) → NoneBy by pass between → by e ≡ pass
      → numbers_of by pass ((seen ++ between) ++ e ∷ []) ≡ numbers_of by pass seen ++ length ((seen ++ between) ++ e ∷ []) ∷ []
  numbers_grow pass seen between e others own =
      let last : numbers_from by (1 + length (seen ++ between)) pass (e ∷ []) ≡ length ((seen ++ between) ++ e ∷ []) ∷ [] =
      rw (eq-eqb (by e) pass own) (ap (λ n. n ∷ []) (let n = length-append (seen ++ between) (e ∷ []) in omega arith)) in
      let front : numbers_of by pass (seen ++ between) ≡ numbers_of by pass seen =
      numbers_append 1 pass seen between ∙ (ap (λ l. numbers_of by pass seen ++ l) (numbers_of_none (1 + length seen) pass between others) ∙ append-nil (numbers_of by pass seen)) in
      numbers_append 1 pass (seen ++ between) (e ∷ []) ∙ (ap (λ l. l ++ numbers_from by (1 + length (seen ++ between)) pass (e ∷ [])) front ∙ ap (λ l. numbers_of by pass seen ++ l) last)
