use Rattle.std.proofs.Common.{◌≡◌, ℕ, suc, length, get_or, ap, ◌∙◌}
use Rattle.index_entry.specs.LogRows.{log_key}
use Rattle.index_entry.proofs.PieceLemmas.{length-number_bytes}
use Rattle.index_entry.proofs.log_row.position_of.Goals as goal
use Rattle.index_entry.proofs.log_row.position_of.Goals.{then-key-ne-LOG_KEY_LEN-via-then-key-ne-LOG_KEY_LEN, then-key-ne-LOG_KEY_LEN-via-else-key-ne-LOG_KEY_LEN+then-key-ne0}

other : (c : goal.Joined-then-key-ne-LOG_KEY_LEN) (position : ℕ) → c.args.key.now ≡ log_key position → ⊥
other c position here = elim c.then-key-ne-LOG_KEY_LEN.branch [
  | then-key-ne-LOG_KEY_LEN-via-then-key-ne-LOG_KEY_LEN w ↦ w.if-key-ne-LOG_KEY_LEN.true (ap length here ∙ ap suc (length-number_bytes position))
  | then-key-ne-LOG_KEY_LEN-via-else-key-ne-LOG_KEY_LEN+then-key-ne0 w ↦ w.if-key-ne0.true (ap (λ z. get_or z 0 0) here)
]

pub returns-then-key-ne-LOG_KEY_LEN-clause-exact : goal.returns-then-key-ne-LOG_KEY_LEN-clause-exact
returns-then-key-ne-LOG_KEY_LEN-clause-exact c position fits here = absurd (other c position here)

pub returns-then-key-ne-LOG_KEY_LEN-clause-none : goal.returns-then-key-ne-LOG_KEY_LEN-clause-none
returns-then-key-ne-LOG_KEY_LEN-clause-none c position fits here = other c position here
