-- The tails that were made of a write are its parts from 1 to the count, and each has bytes.
use Rattle.std.specs.Prelude.{◌≡◌, ℕ, ◌≤◌, true, length, IfSome, is_some}
use Rattle.realm_model.specs.Facts.{Ledger}
use Rattle.realm_model.specs.Maps.{Made}

-- a tail that was made is counted, and has bytes
abbrev pub MadeOnce : Made → (ℕ → ℕ → ℕ → Ledger) → Type 0
MadeOnce made ledger =
    (zone write part : ℕ)
    → IfSome (made zone write part) (λ bytes. (1 ≤ part) × ((part ≤ (ledger zone write write).count) × (1 ≤ length bytes)))

-- each part that is counted was made
abbrev pub MadeAll : Made → (ℕ → ℕ → ℕ → Ledger) → Type 0
MadeAll made ledger =
    (zone write part : ℕ)
    → 1 ≤ part → part ≤ (ledger zone write write).count → is_some (made zone write part) ≡ true
