-- The tails that an actor made and has not named are all that were made of their bundle, with the sizes that it knows.
use Rattle.std.specs.Prelude.{◌≡◌, ℕ, ◌+◌, ◌<◌, List, length, get_or}
use Rattle.realm_model.specs.Phases.{ActorId, Bundle, opened, Phase}
use Rattle.realm_model.specs.Facts.{making, Ledger}
use Rattle.realm_model.specs.Maps.{Made}
use Rattle.stripe_law.specs.Sizes.{IsOfSize}

-- an open bundle of an actor is being made by it, with so many tails
abbrev pub OpenAt : ActorId → (ℕ → ℕ → ℕ → Bundle) → (ℕ → ℕ → ℕ → Ledger) → Type 0
OpenAt actor own ledger =
    (zone write holder : ℕ) (sizes : List ℕ)
    → own zone write holder ≡ opened sizes
    → ledger zone write holder ≡ record { count = length sizes; place = making actor }

-- and so for each actor
abbrev pub Open : (ActorId → Phase) → (ℕ → ℕ → ℕ → Ledger) → Type 0
Open phases ledger = (a : ActorId) → OpenAt a (phases a).stripes.own ledger

-- the tails of an open bundle have the sizes that its actor knows
abbrev pub SizesAt : (ℕ → ℕ → ℕ → Bundle) → Made → Type 0
SizesAt own made =
    (zone write holder : ℕ) (sizes : List ℕ)
    → own zone write holder ≡ opened sizes
    → (i : ℕ) → i < length sizes → IsOfSize (made zone write (i + 1)) (get_or sizes i 0)

-- and so for each actor
abbrev pub OpenSizes : (ActorId → Phase) → Made → Type 0
OpenSizes phases made = (a : ActorId) → SizesAt (phases a).stripes.own made
