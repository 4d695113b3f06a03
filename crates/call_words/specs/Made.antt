-- Which events of a history were made for calls.
use Rattle.std.specs.Prelude.{◌≡◌, ℕ, List, [], ◌∷◌, ◌++◌}
use Rattle.std.specs.List.{AllByRecursion}
use Rattle.realm_model.specs.Worlds.{actor_of}
use Rattle.realm_model.specs.declared.event.Event.{Event}
use Rattle.realm_door.specs.Steps.{actor_of_pass}
use Rattle.call_words.specs.Calls.{Ground, alone, task, Call}

-- each of the events is by this actor of the pass
abbrev pub AreBy : ℕ → ℕ → List Event → Type 0
AreBy pass actor events = AllByRecursion (λ e. actor_of e ≡ actor_of_pass pass actor) events

-- the events that were made for a reply that rests on this
abbrev pub AreMadeFor : ℕ → Ground → List Event → Type 0
AreMadeFor pass alone events = events ≡ []
AreMadeFor pass (task actor end) events = AreBy pass actor events

-- the events that were made for calls, one after another, and then later
abbrev pub AreMade : ℕ → List Call → List Event → List Event → Type 0
AreMade pass [] events later = events ≡ later
AreMade pass (call ∷ calls) events later =
    (first : List Event) × (others : List Event) × (events ≡ first ++ others)
    × AreMadeFor pass call.ground first × AreMade pass calls others later
