-- A bundle that the actor of its holder has not used is nowhere.
use Rattle.std.specs.Prelude.{◌≡◌, ℕ}
use Rattle.realm_model.specs.Phases.{ActorId, unused, Phase}
use Rattle.realm_model.specs.Facts.{nowhere, Ledger}

-- no tail was made
abbrev pub no_ledger : Ledger
no_ledger = record { count = 0; place = nowhere }

-- what the actor of its holder has not used was not made
abbrev pub Makers : (ℕ → ActorId) → (ActorId → Phase) → (ℕ → ℕ → ℕ → Ledger) → Type 0
Makers by phases ledger =
    (zone write holder : ℕ)
    → (phases (by holder)).stripes.own zone write holder ≡ unused → ledger zone write holder ≡ no_ledger
