-- The ends of a connection together.
use Rattle.std.specs.Prelude.{ℕ, List}
use Rattle.std.specs.declared.option.Option.{Option}

-- what the source has left, what the sink has taken, what the clock has told and will tell, and how often reading and
-- writing have failed
pub record EndsState : Type 0 where
  pub left : Option (List ℕ)
  pub taken : Option (List ℕ)
  pub told : Option (List ℕ)
  pub plan : Option (ℕ → ℕ)
  pub read_faults : ℕ
  pub write_faults : ℕ
