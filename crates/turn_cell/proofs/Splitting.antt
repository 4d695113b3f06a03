-- A pass is cut in two, and the rule is kept.
use Rattle.std.proofs.Common.{◌≡◌, ℕ, zero, suc, ◌+◌, ◌-◌, ◌<◌, ◌≤◌, ◌⊎◌, List, [], ◌∷◌, ◌++◌, length, set, refl, sym, ap, ◌∙◌, subst, inl, inr, ⊎_elim, arith}
use mathlib.Core.Option.{some, some-injective, some-ne-none}
use lib.ListN.{get_elem?}
use Rattle.atomic_table.specs.Table.{State, Splits}
use Rattle.turn_cell.specs.Histories.{NoneBetween}
use Rattle.turn_cell.specs.declared.knowledge.Knowledge.{Knowledge}
use Rattle.turn_cell.specs.Rule.{resting, Knows, AreApart, HasOneHistory}
use Rattle.turn_cell.proofs.Events.{all_behind, none_between_less, none_by_between}
use Rattle.turn_cell.proofs.Passes.{apart_sym, apart_less, apart_set, each_set}

-- an element of a list that is one longer
at_end : {A : Type 0} (l : List A) (a b : A) (j : ℕ) → get_elem? (l ++ a ∷ []) j ≡ some b → (get_elem? l j ≡ some b) ⊎ ((j ≡ length l) × (a ≡ b))
at_end [] a b zero e = inr (refl, some-injective a b e)
at_end [] a b (suc j) e = absurd (some-ne-none b (sym e))
at_end (x ∷ xs) a b zero e = inl e
at_end (x ∷ xs) a b (suc j) e = ⊎_elim (λ h. inl h) (λ h. inr (ap suc h.0, h.1)) (at_end xs a b j e)

module _ {M E F : Type 0} (history : M → List E) (fixed : M → F) (by : E → ℕ) (lawful : F → List E → Type 0) (first : M) where
  abbrev Rule : State M (Knowledge E F) → Type 0
  Rule s = HasOneHistory history fixed by lawful first s

  pub split_allows : (seat : ℕ) (v : Knowledge E F) (share : ℕ) → 0 < share → share < v.room
      → Splits Rule seat v (resting v.number (v.room - share) v.seen v.found v.fixed) (resting (v.number + (v.room - share)) share v.seen v.found v.fixed)
  split_allows seat v share some_share less s k at =
      let f = k.each seat v at in
      let small : ℕ = v.room - share in
      let left : Knowledge E F = resting v.number small v.seen v.found v.fixed in
      let right : Knowledge E F = resting (v.number + small) share v.seen v.found v.fixed in
      let views : List (Knowledge E F) = set s.views seat left in
      let sum : small + share ≡ v.room = omega arith in
      let knows_right : (j : ℕ) → Knows by (fixed first) k.log k.is_out k.holder j right = λ j.
      record {
        rest = f.rest;
        begins = f.begins;
        others = none_by_between by (v.number + 1) (v.number + v.room) (v.number + small) f.rest (omega arith) (omega arith)
            (all_behind (λ e. (by e < v.number + 1) ⊎ (v.number + v.room ≤ by e)) v.seen f.rest (subst (NoneBetween by (v.number + 1) (v.number + v.room)) f.begins f.unused));
        later = f.later;
        found_before = f.found_before;
        unused = none_between_less by (v.number + 1) (v.number + v.room) (v.number + small + 1) (v.number + small + share) k.log (omega arith) (omega arith) f.unused;
        some_room = some_share;
        same = f.same;
        turn = λ t. absurd cc;
      } in
      let knows : (j : ℕ) (w : Knowledge E F) → get_elem? views j ≡ some w → Knows by (fixed first) k.log k.is_out k.holder j w =
      each_set (λ j w. Knows by (fixed first) k.log k.is_out k.holder j w) s.views seat left
      (record {
        rest = f.rest;
        begins = f.begins;
        others = f.others;
        later = f.later;
        found_before = f.found_before;
        unused = none_between_less by (v.number + 1) (v.number + v.room) (v.number + 1) (v.number + small) k.log (omega arith) (omega arith) f.unused;
        some_room = omega arith;
        same = f.same;
        turn = λ t. absurd cc;
      })
      (λ j w differ there. k.each j w there) in
      let beside : (j : ℕ) (w : Knowledge E F) → get_elem? views j ≡ some w → AreApart right w =
      each_set (λ j w. AreApart right w) s.views seat left
      (inr (omega arith))
      (λ j w differ there. apart_less v right w (omega arith) (omega arith) (k.apart seat j v w at there (λ e. differ (sym e)))) in
      record {
        log = k.log;
        is_out = k.is_out;
        holder = k.holder;
        longer = k.longer;
        words = k.words;
        legal = k.legal;
        home = k.home;
        away = k.away;
        each = λ j w there. ⊎_elim (λ h. knows j w h) (λ h. subst (λ z. Knows by (fixed first) k.log k.is_out k.holder j z) h.1 (knows_right j)) (at_end views right w j there);
        apart = λ i j x y at_i at_j differ.
            ⊎_elim
            (λ p. ⊎_elim
            (λ q. apart_set s.views seat v left at (omega arith) (omega arith) k.apart i j x y p q differ)
            (λ q. subst (λ (z : Knowledge E F). AreApart x z) q.1 (apart_sym right x (beside i x p)))
            (at_end views right y j at_j))
            (λ p. ⊎_elim
            (λ q. subst (λ (z : Knowledge E F). AreApart z y) p.1 (beside j y q))
            (λ q. absurd (differ (p.0 ∙ sym q.0)))
            (at_end views right y j at_j))
            (at_end views right x i at_i);
      }
