-- Lists of events, each by one pass.
use Rattle.std.specs.Prelude.{◌≢◌, ℕ, ◌+◌, ◌<◌, ◌≤◌, ◌⊎◌, ◌==◌, if◌then◌else◌, List, [], ◌∷◌}
use Rattle.std.specs.List.{AllByRecursion}

module _ {E : Type 0} (by : E → ℕ) where
  -- none of these events is by that pass
  abbrev pub NoneBy : ℕ → List E → Type 0
  NoneBy pass events = AllByRecursion (λ e. by e ≢ pass) events

  -- none is by a pass with this number or a greater one
  abbrev pub NoneFrom : ℕ → List E → Type 0
  NoneFrom number events = AllByRecursion (λ e. by e < number) events

  -- none is by a pass with a number from `low` to below `high`
  abbrev pub NoneBetween : ℕ → ℕ → List E → Type 0
  NoneBetween low high events = AllByRecursion (λ e. (by e < low) ⊎ (high ≤ by e)) events

  -- the numbers of the events by that pass, where the first event has the number `next`
  abbrev pub numbers_from : ℕ → ℕ → List E → List ℕ
  numbers_from next pass [] = []
  numbers_from next pass (e ∷ es) = if by e == pass then (next ∷ numbers_from (next + 1) pass es) else numbers_from (next + 1) pass es

  -- the numbers of the events by that pass. The first event of a history has number 1
  abbrev pub numbers_of : ℕ → List E → List ℕ
  numbers_of pass events = numbers_from 1 pass events
