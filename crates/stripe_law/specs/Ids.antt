-- The numbers that an actor knows are those of its own events. So no two actors have a bundle in common.
use Rattle.std.specs.Prelude.{◌≡◌, ℕ, ◌≤◌, ◌⊎◌, IfSome, Option}
use Rattle.realm_model.specs.Phases.{ActorId, FirstEvent, Bundle, unused, Phase}

-- the event of this number was made, and by this actor
abbrev pub IsBy : (ℕ → ActorId) → ℕ → ActorId → ℕ → Type 0
IsBy by count actor number = (number ≤ count) × (by number ≡ actor)

-- the holder of each bundle that an actor has used is a number of its own
abbrev pub OwnHolders : (ℕ → ActorId) → ℕ → ActorId → (ℕ → ℕ → ℕ → Bundle) → Type 0
OwnHolders by count actor own =
    (zone write holder : ℕ) → (own zone write holder ≡ unused) ⊎ IsBy by count actor holder

-- the numbers that one actor knows
pub record KnowsIds (by : ℕ → ActorId) (count : ℕ) (actor : ActorId) (first : Option FirstEvent) (reads : ℕ → Option ℕ) (own : ℕ → ℕ → ℕ → Bundle) : Type 0 where
  pub first_is : IfSome first (λ first. IsBy by count actor first.number)
  pub reads_are : (number : ℕ) → IfSome (reads number) (λ zone. IsBy by count actor number)
  pub holders_are : OwnHolders by count actor own

-- the numbers that each actor knows
abbrev pub Ids : (ℕ → ActorId) → ℕ → (ActorId → Phase) → Type 0
Ids by count phases =
    (a : ActorId) → KnowsIds by count a (phases a).first (phases a).stripes.reads (phases a).stripes.own
