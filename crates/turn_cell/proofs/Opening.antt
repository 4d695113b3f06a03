-- A new cell keeps the rule.
use Rattle.std.proofs.Common.{◌≡◌, ℕ, zero, suc, ◌+◌, ◌-◌, ◌*◌, ◌^◌, false, List, [], ◌∷◌, length, refl, sym, ap, ◌∙◌, subst, arith}
use Rattle.std.proofs.lemmas.List.{append-nil}
use mathlib.Core.Option.{some, some-injective, some-ne-none}
use lib.ListN.{get_elem?}
use Rattle.atomic_table.specs.Table.{opening}
use Rattle.turn_cell.specs.Histories.{NoneFrom}
use Rattle.turn_cell.specs.declared.knowledge.Knowledge.{Knowledge}
use Rattle.turn_cell.specs.Rule.{resting, Knows, HasOneHistory}
use Rattle.turn_cell.proofs.Events.{none_between_from, none_between_less}

only_at : {A : Type 0} (Q : ℕ → A → Type 0) (w : A) → Q 0 w → (j : ℕ) (v : A) → get_elem? (w ∷ []) j ≡ some v → Q j v
only_at Q w q zero v at = subst (Q 0) (some-injective w v at) q
only_at Q w q (suc j) v at = absurd (some-ne-none v (sym at))

module _ {M E F : Type 0} (history : M → List E) (fixed : M → F) (by : E → ℕ) (lawful : F → List E → Type 0) where
  opens : (first : M) → lawful (fixed first) (history first) → NoneFrom by 1 (history first)
      → HasOneHistory history fixed by lawful first (opening (0 ∷ []) (first ∷ []) (resting 1 (2 ^ 62) (history first) (history first) (fixed first)))
  opens first legal unnumbered =
      let v : Knowledge E F = resting 1 (2 ^ 62) (history first) (history first) (fixed first) in
      record {
        log = history first;
        is_out = false;
        holder = 0;
        longer = omega arith;
        words = let n : 0 ≡ 2 * (length (history first) - length (history first)) + 0 = omega arith in ap (λ (j : ℕ). j ∷ []) n;
        legal = legal;
        home = λ e. (first, refl, refl, refl);
        away = λ e. absurd cc;
        each = only_at (λ j w. Knows by (fixed first) (history first) false 0 j w) v
            (record {
              rest = [];
              begins = sym (append-nil (history first));
              others = tt;
              later = [];
              found_before = sym (append-nil (history first));
              unused = none_between_less by 1 (1 + 2 ^ 62) (1 + 1) (1 + 2 ^ 62) (history first) (omega arith) (omega arith) (none_between_from by 1 (1 + 2 ^ 62) (history first) unnumbered);
              some_room = omega arith;
              same = refl;
              turn = λ e. absurd cc;
            });
        apart = λ i j x y at_i at_j differ. absurd (differ (only_at (λ k w. k ≡ 0) v refl i x at_i ∙ sym (only_at (λ k w. k ≡ 0) v refl j y at_j)));
      }

  -- the same, for a first value and slots that are known to be these
  pub opens_with : (first state : M) (slots : List M) → first ≡ state → slots ≡ state ∷ [] → lawful (fixed state) (history state) → NoneFrom by 1 (history state)
      → HasOneHistory history fixed by lawful first (opening (0 ∷ []) slots (resting 1 (2 ^ 62) (history first) (history first) (fixed first)))
  opens_with first state slots is all legal unnumbered =
      subst (λ (x : M). HasOneHistory history fixed by lawful x (opening (0 ∷ []) slots (resting 1 (2 ^ 62) (history x) (history x) (fixed x)))) (sym is)
      (subst (λ (l : List M). HasOneHistory history fixed by lawful state (opening (0 ∷ []) l (resting 1 (2 ^ 62) (history state) (history state) (fixed state)))) (sym all) (opens state legal unnumbered))
