-- What a call on the outside may leave: the cause of a fault, and the bytes of a write that was cut short.
use Rattle.std.specs.Prelude.{◌≡◌, ℕ, ◌+◌, ◌-◌, ◌^◌, ◌<◌, ◌≤◌, min, List, length, map, take, ⊤, None, Some, Result, IfOk, OnOk, OnErr}
use Rattle.std.specs.declared.option.Option.{Option}
use Rattle.std.specs.Io.{ReadsAtMost, WritesAtMost}
use Rattle.std.specs.Io.KnownBytes.{Appends, ReadConsumes, WriteAppends}
use Rattle.std.specs.List.{range_with_len}

-- a count in 64 bits, one up; at its end it stands still
abbrev pub raised : ℕ → ℕ
raised count = min (count + 1) (2 ^ 64 - 1)

-- a count of faults rose, or stands at its end
abbrev pub Rose : ℕ → ℕ → Type 0
Rose before now = raised before ≤ now

-- A count of faults never falls. A fault is answered only where it rose, and a good answer only where it did not.
pub record HasCause {T E : Type 0} (before now : ℕ) (result : Result T E) : Type 0 where
  pub later : before ≤ now
  pub good : OnOk result (now ≡ before)
  pub failed : OnErr result (Rose before now)

-- What a read leaves: the next bytes at the front of the buffer, those that are left behind them, and the cause of a fault.
pub record Reads {E : Type 0} (old new : Option (List ℕ)) (before now : ℕ) (result : Result ℕ E) (buf : List ℕ) : Type 0 where
  pub bound : ReadsAtMost result buf
  pub bytes : ReadConsumes old new result buf
  pub cause : HasCause before now result

-- What a write leaves: some first bytes are taken, one at least unless there is none, and the cause of a fault.
pub record Writes {E : Type 0} (old new : Option (List ℕ)) (before now : ℕ) (result : Result ℕ E) (piece : List ℕ) : Type 0 where
  pub bound : WritesAtMost result piece
  pub progress : IfOk result (λ n. 0 < length piece → 0 < n)
  pub bytes : WriteAppends old new result piece
  pub cause : HasCause before now result

-- Known bytes grew by some first bytes of `bytes`, and not by all of them.
abbrev pub AppendsProperPrefix : Option (List ℕ) → Option (List ℕ) → List ℕ → Type 0
AppendsProperPrefix old new bytes = (n : ℕ) × (n < length bytes) × Appends old new (take n bytes)

-- the first n moments of a plan, which has the moment of each call of a clock, from 0
abbrev pub first_moments : (ℕ → ℕ) → ℕ → List ℕ
first_moments plan n = map plan (range_with_len 0 n)

-- A clock that has a plan, and tells what it told, told the first moments of the plan.
abbrev pub IsAsPlanned : Option (ℕ → ℕ) → Option (List ℕ) → Type 0
IsAsPlanned None told = ⊤
IsAsPlanned (Some plan) None = ⊤
IsAsPlanned (Some plan) (Some told) = told ≡ first_moments plan (length told)
