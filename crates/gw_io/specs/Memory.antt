-- What the objects in memory are at a moment.
use Rattle.std.specs.Prelude.{◌≡◌, ℕ, ◌+◌, ◌-◌, ◌*◌, ◌^◌, min, List, All, length, Some}
use Rattle.std.specs.declared.option.Option.{Option}
use Rattle.std.specs.Io.KnownBytes.{Appends}
use Rattle.gw_io.specs.Outside.{first_moments}

-- a `SliceSource`: the bytes that are left, how many a call gives at most, which calls fail, the calls so far and those
-- of them that failed
pub record SliceState : Type 0 where
  pub left : List ℕ
  pub piece : ℕ
  pub failing : List ℕ
  pub calls : ℕ
  pub faults : ℕ

-- a `VecSink`: the bytes that were taken, how many it has room for, how many a call takes at most, which calls fail, the
-- calls so far and those of them that failed
pub record VecState : Type 0 where
  pub taken : List ℕ
  pub capacity : ℕ
  pub piece : ℕ
  pub failing : List ℕ
  pub calls : ℕ
  pub faults : ℕ

-- a `StepClock`: its first moment, its step, and how many moments it has told
pub record StepState : Type 0 where
  pub first : ℕ
  pub step : ℕ
  pub calls : ℕ

-- the moment of the k-th call, from 0; sums stop at the greatest `u64`
abbrev pub moment_at : ℕ → ℕ → ℕ → ℕ
moment_at first step k = min (first + k * step) (2 ^ 64 - 1)

-- the moments of all calls
abbrev pub plan_of : StepState → Option (ℕ → ℕ)
plan_of clock = Some (moment_at clock.first clock.step)

-- the moments of the calls so far
abbrev pub moments_of : StepState → List ℕ
moments_of clock = first_moments (moment_at clock.first clock.step) clock.calls

-- Whatever calls were made of a clock that keeps its plan, it told the first moments of the steps.
abbrev pub TellsSteps : StepState → ℕ → ℕ → Type 0
TellsSteps clock first step = (later : StepState) (told : List ℕ) → plan_of later ≡ plan_of clock
    → Appends (Some (moments_of clock)) (Some (moments_of later)) told → told ≡ first_moments (moment_at first step) (length told)

-- Whatever calls were made of a clock that keeps its plan, it told this one moment.
abbrev pub TellsOnly : StepState → ℕ → Type 0
TellsOnly clock moment = (later : StepState) (told : List ℕ) → plan_of later ≡ plan_of clock
    → Appends (Some (moments_of clock)) (Some (moments_of later)) told → All (λ m. m ≡ moment) told
