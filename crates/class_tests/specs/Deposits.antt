-- Deposits by passes, the events of the tests' machine. An event is the pass, the cents, and the balance that it left.
use Rattle.std.specs.Prelude.{◌≡◌, ℕ, ◌+◌, ◌%◌, ◌^◌, List, [], ◌∷◌, ◌++◌, replicate}

-- each balance is the one before it and the cents, which wrap at 2^64
abbrev pub IsBalanced : ℕ → List (ℕ × ℕ × ℕ) → Type 0
IsBalanced balance [] = Unit {0}
IsBalanced balance (e ∷ es) = (e.2 ≡ (balance + e.1) % 2 ^ 64) × IsBalanced e.2 es

abbrev pub balance_after : ℕ → List (ℕ × ℕ × ℕ) → ℕ
balance_after balance [] = balance
balance_after balance (e ∷ es) = balance_after e.2 es

-- after `before` deposits of nothing by pass 0
abbrev pub history_of : ℕ → List (ℕ × ℕ × ℕ) → List (ℕ × ℕ × ℕ)
history_of before deposits = replicate before (0, 0, 0) ++ deposits
