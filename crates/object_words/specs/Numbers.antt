-- Sums that stop at the end of 64 bits; in a legal history none comes so far.
use Rattle.std.specs.Prelude.{ℕ, ◌+◌, ◌-◌, ◌^◌, min}

-- the greatest number of 64 bits
abbrev pub greatest : ℕ
greatest = 2 ^ 64 - 1

-- one more: the next revision, or position
abbrev pub next : ℕ → ℕ
next n = min (n + 1) greatest

-- the moment so long after another
abbrev pub moment_later : ℕ → ℕ → ℕ
moment_later moment span = min (moment + span) greatest
