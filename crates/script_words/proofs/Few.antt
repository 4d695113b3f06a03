-- Too few words.
use Rattle.std.proofs.Common.{◌≡◌, ℕ, ◌<◌, List, [], ◌∷◌, length, map, None, Bor, refl, arith}
use Rattle.script_words.specs.Reading.{start_in}

-- no actor, or no zone
pub too_few_to_start : (zones : ℕ) (words : List (Bor (List ℕ))) → length words < 2 → start_in zones (map (λ word. word.now) words) ≡ None
too_few_to_start zones [] few = refl
too_few_to_start zones (a ∷ []) few = refl
too_few_to_start zones (a ∷ b ∷ words) few = absurd (omega (arith, few))
