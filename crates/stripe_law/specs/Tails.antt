-- The tails that exist are those that were made and counted, with the bytes of their making.
use Rattle.std.specs.Prelude.{◌≡◌, ℕ, ◌≤◌, true, [], unwrap_or}
use Rattle.rgw_types.specs.declared.pool_key.Key.{Key}
use Rattle.object_words.specs.Keys.{tail_key}
use Rattle.object_words.specs.Tails.{Tail, is_there}
use Rattle.realm_model.specs.Facts.{Ledger}
use Rattle.realm_model.specs.Maps.{Made}

-- a tail has the bytes with which it was made
abbrev pub Bytes : (ℕ → Key → Tail) → Made → Type 0
Bytes tails made =
    (zone write part : ℕ) → (tails zone (tail_key write part)).bytes ≡ unwrap_or (made zone write part) []

-- a part is kept once it is counted; its write holds it
abbrev pub IsKept : ℕ → Ledger → Type 0
IsKept part l = (1 ≤ part) × (part ≤ l.count)

-- a tail is there exactly while it is kept
abbrev pub Holders : (ℕ → Key → Tail) → (ℕ → ℕ → ℕ → Ledger) → Type 0
Holders tails ledger =
    (zone write part : ℕ)
    → (is_there (tails zone (tail_key write part)) ≡ true → IsKept part (ledger zone write write))
    × (IsKept part (ledger zone write write) → is_there (tails zone (tail_key write part)) ≡ true)
