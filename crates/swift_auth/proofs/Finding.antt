-- The one user of whom something holds.
use Rattle.std.proofs.Common.{◌≡◌, ℕ, ◌<◌, inl, inr, List, [], ◌∷◌, length, map, get_or, find, Contains, All, Bool, true, false, cond, Option, Some, None, Decides, ◌&&◌, refl, sym, ap, ◌∙◌, subst, arith, bytes_eq}
use Rattle.std.specs.List.{IsDistinct}
use Rattle.std.proofs.lemmas.Bool.{false≢true, cases_lt}
use Rattle.std.proofs.lemmas.List.{length-map, get_or-map, get_or_default}
use Rattle.std.proofs.lemmas.List.Elements.{All-nil, All-cons, All-weaker, Contains-get_or, Contains-append_right}
use Rattle.std.proofs.lemmas.Map.Keys.{apart_from_distinct}
use Rattle.std.proofs.lemmas.Slice.Eq.{bytes_eq-Decides}
use Rattle.swift_auth.specs.Users.{UserView, IsTheOne}

-- ---- what `find` answers

module _ (p : UserView → Bool) where
  found_from : (x : UserView) (xs : List UserView) (u : UserView) → (find p xs ≡ Some u → (p u ≡ true) × Contains xs u)
      → (b : Bool) → p x ≡ b → cond b (Some x) (find p xs) ≡ Some u → (p u ≡ true) × Contains (x ∷ xs) u
  found_from x xs u later true is h =
      let same : x ≡ u = cc in
      (ap p (sym same) ∙ is, subst (Contains (x ∷ xs)) same (Contains-get_or (x ∷ xs) 0 x (omega arith)))
  found_from x xs u later false is h = let behind = later h in (behind.0, Contains-append_right (x ∷ []) xs u behind.1)

  -- a user who is found passes, and is among the users
  found : (xs : List UserView) (u : UserView) → find p xs ≡ Some u → (p u ≡ true) × Contains xs u
  found [] u h = absurd (cc)
  found (x ∷ xs) u h = found_from x xs u (found xs u) (p x) refl h

  none_from : (x : UserView) (xs : List UserView) → (find p xs ≡ None → All (λ u. p u ≡ false) xs)
      → (b : Bool) → p x ≡ b → cond b (Some x) (find p xs) ≡ None → All (λ u. p u ≡ false) (x ∷ xs)
  none_from x xs later true is h = absurd (cc)
  none_from x xs later false is h = All-cons (λ u. p u ≡ false) x xs is (later h)

  -- where none is found, nobody passes
  none : (xs : List UserView) → find p xs ≡ None → All (λ u. p u ≡ false) xs
  none [] h = All-nil (λ u. p u ≡ false)
  none (x ∷ xs) h = none_from x xs (none xs) (p x) refl h

-- ---- users who are told apart by a text

module _ (text : UserView → List ℕ) (users : List UserView) (differ : IsDistinct bytes_eq (map text users)) where
  apart : (i j : ℕ) (d : UserView) → i < j → j < length users → text (get_or users i d) ≡ text (get_or users j d) → ⊥
  apart i j d before inside same =
      let here : get_or (map text users) i (text d) ≡ text (get_or users i d) = get_or-map text users i d (text d) (omega arith) in
      let there : get_or (map text users) j (text d) ≡ text (get_or users j d) = get_or-map text users j d (text d) inside in
      let unlike = apart_from_distinct bytes_eq (map text users) i j (text d) differ before (omega (arith, length-map users text)) in
      let alike = (bytes_eq-Decides (get_or (map text users) i (text d)) (get_or (map text users) j (text d))).1 (here ∙ same ∙ sym there) in
      false≢true (sym unlike ∙ alike)

  -- two of them with one text are one
  one_by_text : (u v : UserView) → Contains users u → Contains users v → text u ≡ text v → v ≡ u
  one_by_text u v (i, i_in, at_i) (j, j_in, at_j) same =
      let at_j_too : get_or users j u ≡ v = get_or_default users j u v j_in ∙ at_j in
      let alike : text (get_or users i u) ≡ text (get_or users j u) = ap text at_i ∙ same ∙ sym (ap text at_j_too) in
      elim (cases_lt i j) [
        | inl before ↦ absurd (apart i j u before j_in alike)
        | inr after ↦ elim (cases_lt j i) [
          | inl before ↦ absurd (apart j i u before i_in (sym alike))
          | inr too ↦ let one : j ≡ i = omega arith in sym at_j_too ∙ (ap (λ k. get_or users k u) one ∙ at_i)
        ]
      ]

  -- what `find` answers by a test that at most one text passes
  pub the_one : (p : UserView → Bool) (Holds : UserView → Type 0) → ((u : UserView) → Decides (p u) (Holds u)) → ((u v : UserView) → Holds u → Holds v → text u ≡ text v)
      → (answer : Option UserView) → answer ≡ find p users → IsTheOne Holds users answer
  the_one p Holds decides by_text None is = All-weaker (λ u. p u ≡ false) (λ u. ¬ (Holds u)) (λ u fails holds. absurd (false≢true (sym fails ∙ (decides u).1 holds))) users (none p users (sym is))
  the_one p Holds decides by_text (Some u) is =
      let here = found p users u (sym is) in
      let holds = (decides u).0 here.0 in
      (here.1, holds, λ other among too. one_by_text u other here.1 among (by_text u other holds too))

both : (a b : Bool) {P Q : Type 0} → Decides a P → Decides b Q → Decides (a && b) (P × Q)
both true b p q = (λ h. (p.0 refl, q.0 h), λ (_, h). q.1 h)
both false b p q = (λ h. absurd (false≢true h), λ (h, _). p.1 h)

-- two comparisons together
pub both_decide : (x x' y y' : List ℕ) → Decides (bytes_eq x x' && bytes_eq y y') ((x ≡ x') × (y ≡ y'))
both_decide x x' y y' = both (bytes_eq x x') (bytes_eq y y') (bytes_eq-Decides x x') (bytes_eq-Decides y y')
