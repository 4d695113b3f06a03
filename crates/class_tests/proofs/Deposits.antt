-- The histories of the tests' machine.
use Rattle.std.proofs.Common.{◌≡◌, ℕ, zero, suc, ◌+◌, ◌%◌, ◌^◌, List, [], ◌∷◌, ◌++◌, replicate, refl, sym, ap, ◌∙◌, subst, append_assoc, arith}
use Rattle.turn_cell.specs.Histories.{NoneFrom}
use Rattle.class_tests.specs.Deposits.{IsBalanced, balance_after, history_of}

pub balance_push : (balance : ℕ) (es : List (ℕ × ℕ × ℕ)) (e : ℕ × ℕ × ℕ) → balance_after balance (es ++ e ∷ []) ≡ e.2
balance_push balance [] e = refl
balance_push balance (x ∷ xs) e = balance_push x.2 xs e

balanced_push : (balance : ℕ) (es : List (ℕ × ℕ × ℕ)) (e : ℕ × ℕ × ℕ) → e.2 ≡ (balance_after balance es + e.1) % 2 ^ 64 → IsBalanced balance es → IsBalanced balance (es ++ e ∷ [])
balanced_push balance [] e is b = (is, tt)
balanced_push balance (x ∷ xs) e is b = (b.0, balanced_push x.2 xs e is b.1)

-- deposits of nothing leave the balance
balance_history : (before : ℕ) (es : List (ℕ × ℕ × ℕ)) → balance_after 0 (history_of before es) ≡ balance_after 0 es
balance_history zero es = refl
balance_history (suc n) es = balance_history n es

pub legal_push : (before : ℕ) (es : List (ℕ × ℕ × ℕ)) (e : ℕ × ℕ × ℕ) → e.2 ≡ (balance_after 0 es + e.1) % 2 ^ 64 → IsBalanced 0 (history_of before es) → IsBalanced 0 (history_of before (es ++ e ∷ []))
legal_push before es e is b =
    subst (IsBalanced 0) (append_assoc (replicate before (0, 0, 0)) es (e ∷ []))
    (balanced_push 0 (history_of before es) e (is ∙ ap (λ (n : ℕ). (n + e.1) % 2 ^ 64) (sym (balance_history before es))) b)

pub legal_before : (before : ℕ) → IsBalanced 0 (history_of before [])
legal_before zero = tt
legal_before (suc n) = (refl, legal_before n)

pub none_before : (before : ℕ) → NoneFrom (λ (e : ℕ × ℕ × ℕ). e.0) 1 (history_of before [])
none_before zero = tt
none_before (suc n) = (omega arith, none_before n)
