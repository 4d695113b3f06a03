-- What all passes know, after a step of one of them.
use Rattle.std.proofs.Common.{◌≡◌, ◌≢◌, ℕ, ◌+◌, ◌≤◌, List, set, sym, ◌∙◌, subst, inl, inr, ⊎_elim, arith}
use mathlib.Core.Option.{some}
use lib.ListN.{get_elem?}
use Rattle.atomic_table.proofs.Lists.{at_set}
use Rattle.turn_cell.specs.declared.knowledge.Knowledge.{Knowledge}
use Rattle.turn_cell.specs.Rule.{AreApart, AllApart}

module _ {E F : Type 0} where
  pub apart_sym : (v w : Knowledge E F) → AreApart v w → AreApart w v
  apart_sym v w d = ⊎_elim (λ l. inr l) (λ l. inl l) d

  -- what is apart from a pass is apart from one that has some of its numbers
  pub apart_less : (v w x : Knowledge E F) → v.number ≤ w.number → w.number + w.room ≤ v.number + v.room → AreApart v x → AreApart w x
  apart_less v w x l h d = ⊎_elim (λ a. inl (omega (arith, a, h))) (λ a. inr (omega (arith, a, l))) d

  -- the pass at `seat` has new knowledge, under some of its numbers
  pub apart_set : (views : List (Knowledge E F)) (seat : ℕ) (v w : Knowledge E F) → get_elem? views seat ≡ some v → v.number ≤ w.number → w.number + w.room ≤ v.number + v.room → AllApart views → AllApart (set views seat w)
  apart_set views seat v w at l h apart i j x y at_i at_j differ =
      ⊎_elim
      (λ p. ⊎_elim
      (λ q. absurd (differ (p.0 ∙ sym q.0)))
      (λ q. subst (λ (z : Knowledge E F). AreApart z y) p.1 (apart_less v w y l h (apart seat j v y at q.1 (λ e. q.0 (sym e)))))
      (at_set views seat j w y at_j))
      (λ p. ⊎_elim
      (λ q. subst (λ (z : Knowledge E F). AreApart x z) q.1 (apart_sym w x (apart_less v w x l h (apart_sym x v (apart i seat x v p.1 at p.0)))))
      (λ q. apart i j x y p.1 q.1 differ)
      (at_set views seat j w y at_j))
      (at_set views seat i w x at_i)

  -- what holds of the new knowledge of one pass, and of what each other pass knows, holds of all
  pub each_set : (Q : ℕ → Knowledge E F → Type 0) (views : List (Knowledge E F)) (seat : ℕ) (w : Knowledge E F) → Q seat w → ((j : ℕ) (v : Knowledge E F) → j ≢ seat → get_elem? views j ≡ some v → Q j v)
      → (j : ℕ) (v : Knowledge E F) → get_elem? (set views seat w) j ≡ some v → Q j v
  each_set Q views seat w mine others j v at =
      ⊎_elim (λ p. subst (λ (z : Knowledge E F). Q j z) p.1 (subst (λ (k : ℕ). Q k w) (sym p.0) mine)) (λ p. others j v p.0 p.1) (at_set views seat j w v at)
