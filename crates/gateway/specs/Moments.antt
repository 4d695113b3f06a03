-- Which moments a clock told for calls.
use Rattle.std.specs.Prelude.{◌≡◌, ℕ, List, [], ◌∷◌, ◌++◌}
use Rattle.realm_model.specs.declared.event.Event.{Event}
use Rattle.realm_door.specs.Steps.{actor_of_pass}
use Rattle.call_words.specs.Calls.{Ground, alone, task, Call}
use Rattle.call_service.specs.Serving.{is_by_end}
use Rattle.door_moments.specs.Acts.{own_moments, Tells}

-- What was told for a reply that rests on this: nothing for a request alone; for a task the moments of its events, and one
-- more where the body's end decided.
abbrev pub AreToldFor : Type 0 → List Event → ℕ → Ground → List ℕ → Type 0
AreToldFor tells seen pass alone moments = moments ≡ []
AreToldFor tells seen pass (task actor end) moments =
    tells → Tells (is_by_end end) moments (own_moments seen (actor_of_pass pass actor))

-- what was told for calls, one after another, and then later
abbrev pub AreTold : Type 0 → List Event → ℕ → List Call → List ℕ → List ℕ → Type 0
AreTold tells seen pass [] moments later = moments ≡ later
AreTold tells seen pass (call ∷ calls) moments later =
    (first : List ℕ) × (others : List ℕ) × (moments ≡ first ++ others)
    × AreToldFor tells seen pass call.ground first × AreTold tells seen pass calls others later
