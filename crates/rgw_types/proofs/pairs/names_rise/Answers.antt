use Rattle.std.proofs.Common.{◌≡◌, ℕ, ◌<◌, true, List, [], ◌∷◌, length, refl, arith}
use Rattle.rgw_types.specs.Pairs.{is_risen}
use Rattle.rgw_types.proofs.pairs.names_rise.Goals as goal

few : (ps : List (List ℕ × List ℕ)) → length ps < 2 → is_risen ps ≡ true
few [] h = refl
few (p ∷ []) h = refl
few (p ∷ q ∷ ps) h = absurd (omega arith)

pub returns : goal.returns
returns c = let short : length c.loop-rest.rest.now < 2 = omega arith in grind (arith, few)
