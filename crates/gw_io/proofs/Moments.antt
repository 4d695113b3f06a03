-- Moments at equal distances, and those of a plan.
use Rattle.std.proofs.Common.{◌≡◌, ℕ, ◌+◌, ◌-◌, ◌^◌, ◌<◌, min, List, [], ◌∷◌, ◌++◌, length, get_or, Some, All, sym, ap, ◌∙◌, arith}
use Rattle.std.proofs.lemmas.List.FromFn.{length-map-range_with_len, get_or-map-range_with_len, map-range_with_len_more}
use Rattle.gw_io.specs.Outside.{first_moments}
use Rattle.gw_io.specs.Memory.{moment_at}

-- one step after a moment is the next one
pub moment_at-add-one : (first step k now : ℕ) → now ≡ moment_at first step k → min (now + step) (2 ^ 64 - 1) ≡ moment_at first step (k + 1)
moment_at-add-one first step k now is = omega arith

-- what was told by a plan that was kept is the first moments of the plan
pub told_by_plan : (plan kept : ℕ → ℕ) (k : ℕ) (told : List ℕ) → Some kept ≡ Some plan → first_moments kept k ≡ told → told ≡ first_moments plan (length told)
told_by_plan plan kept k told same is =
    let same_plan : kept ≡ plan = cc in
    let all : told ≡ first_moments plan k = sym is ∙ ap (λ p. first_moments p k) same_plan in
    let count : length told ≡ k = ap length all ∙ length-map-range_with_len plan 0 k in
    all ∙ ap (first_moments plan) (sym count)

-- without a step each moment is the first
pub told_without_step : (moment step : ℕ) (told : List ℕ) → moment < 2 ^ 64 → step ≡ 0 → told ≡ first_moments (moment_at moment step) (length told) → All (λ m. m ≡ moment) told
told_without_step moment step told fits none all = λ k d below.
    let same : told ≡ first_moments (moment_at moment 0) (length told) = all ∙ ap (λ s. first_moments (moment_at moment s) (length told)) none in
    let at : get_or told k d ≡ moment_at moment 0 k =
    ap (λ xs. get_or xs k d) same ∙ get_or-map-range_with_len (moment_at moment 0) 0 (length told) k k d below (omega arith) in
    at ∙ omega arith

-- one call more
pub first_moments-add-one : (plan : ℕ → ℕ) (n m : ℕ) → m ≡ n + 1 → first_moments plan m ≡ first_moments plan n ++ plan n ∷ []
first_moments-add-one plan n m is = ap (first_moments plan) is ∙ map-range_with_len_more plan 0 n n (omega arith)

-- as many as were asked for
pub first_moments-as_planned : (plan : ℕ → ℕ) (n : ℕ) → first_moments plan n ≡ first_moments plan (length (first_moments plan n))
first_moments-as_planned plan n = ap (first_moments plan) (sym (length-map-range_with_len plan 0 n))
