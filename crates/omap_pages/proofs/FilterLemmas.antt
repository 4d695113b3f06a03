-- A filter of a list, where the places are known at which its test passes.
use Rattle.std.proofs.Common.{◌≡◌, ℕ, zero, suc, ◌+◌, ◌<◌, ◌≤◌, Bool, true, false, List, [], ◌∷◌, length, drop, get_or, refl, ap, arith}
use Rattle.std.specs.List.{filter, remove_range}

module _ {E : Type 0} (p : E → Bool) where
  -- the first i fail, and the others pass
  pub filter_from : (es : List E) (i : ℕ) → i ≤ length es → ((j : ℕ) (d : E) → j < i → p (get_or es j d) ≡ false) → ((j : ℕ) (d : E) → i ≤ j → j < length es → p (get_or es j d) ≡ true) → drop i es ≡ filter p es
  filter_from [] zero le before after = refl
  filter_from [] (suc i) le before after = refl
  filter_from (e ∷ es) zero le before after = rw (after zero e (omega arith) (omega arith)) (ap (λ z. e ∷ z) (filter_from es zero (omega arith) (λ j d l. absurd (omega arith)) (λ j d l m. after (suc j) d (omega arith) (omega arith))))
  filter_from (e ∷ es) (suc i) le before after = rw (before zero e (omega arith)) (filter_from es i (omega arith) (λ j d l. before (suc j) d (omega arith)) (λ j d l m. after (suc j) d (omega arith) (omega arith)))

  -- those from place s to below e fail, and the others pass
  pub filter_outside : (es : List E) (s e : ℕ) → s ≤ e → e ≤ length es → ((j : ℕ) (d : E) → j < s → p (get_or es j d) ≡ true) → ((j : ℕ) (d : E) → s ≤ j → j < e → p (get_or es j d) ≡ false) → ((j : ℕ) (d : E) → e ≤ j → j < length es → p (get_or es j d) ≡ true) → remove_range es s e ≡ filter p es
  filter_outside es zero e le end before inside after = filter_from es e end (λ j d l. inside j d (omega arith) l) after
  filter_outside es (suc s) zero le end before inside after = absurd (omega arith)
  filter_outside [] (suc s) (suc e) le end before inside after = refl
  filter_outside (x ∷ es) (suc s) (suc e) le end before inside after = rw (before zero x (omega arith)) (ap (λ z. x ∷ z) (filter_outside es s e (omega arith) (omega arith) (λ j d l. before (suc j) d (omega arith)) (λ j d l m. inside (suc j) d (omega arith) (omega arith)) (λ j d l m. after (suc j) d (omega arith) (omega arith))))

  -- those from place s to below e pass, and the others fail
  pub length-filter_inside : (es : List E) (s e : ℕ) → s ≤ e → e ≤ length es → ((j : ℕ) (d : E) → j < s → p (get_or es j d) ≡ false) → ((j : ℕ) (d : E) → s ≤ j → j < e → p (get_or es j d) ≡ true) → ((j : ℕ) (d : E) → e ≤ j → j < length es → p (get_or es j d) ≡ false) → length (filter p es) + s ≡ e
  length-filter_inside [] s e le end before inside after = omega arith
  length-filter_inside (x ∷ es) zero zero le end before inside after = rw (after zero x (omega arith) (omega arith)) (length-filter_inside es zero zero le (omega arith) (λ j d l. absurd (omega arith)) (λ j d l m. absurd (omega arith)) (λ j d l m. after (suc j) d (omega arith) (omega arith)))
  length-filter_inside (x ∷ es) zero (suc e) le end before inside after = rw (inside zero x (omega arith) (omega arith)) (let rest = length-filter_inside es zero e (omega arith) (omega arith) (λ j d l. absurd (omega arith)) (λ j d l m. inside (suc j) d (omega arith) (omega arith)) (λ j d l m. after (suc j) d (omega arith) (omega arith)) in omega (arith, rest))
  length-filter_inside (x ∷ es) (suc s) zero le end before inside after = absurd (omega arith)
  length-filter_inside (x ∷ es) (suc s) (suc e) le end before inside after = rw (before zero x (omega arith)) (let rest = length-filter_inside es s e (omega arith) (omega arith) (λ j d l. before (suc j) d (omega arith)) (λ j d l m. inside (suc j) d (omega arith) (omega arith)) (λ j d l m. after (suc j) d (omega arith) (omega arith)) in omega (arith, rest))
