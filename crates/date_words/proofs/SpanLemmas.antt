-- `span_at` finds the span in which a day falls.
use Rattle.std.proofs.Common.{◌≡◌, ◌∙◌, ℕ, zero, suc, ◌+◌, ◌-◌, ◌<◌, ◌≤◌, ◌⊎◌, Bool, true, false, nat_lt, refl, inl, inr, arith}
use Rattle.std.proofs.lemmas.Bool.{cond-true, cond-false}
use Rattle.std.proofs.lemmas.Bool.Decides.{nat_tests}
use Rattle.date_words.specs.Civil.{span_at}

-- The day `total` falls in the span `r.0`, which is at most `bound`, `r.1` days into it. `before n`
-- is the sum of the first n spans.
pub record IsSpanOf (before days_in : ℕ → ℕ) (bound total : ℕ) (r : ℕ × ℕ) : Type 0 where
  pub sum : before r.0 + r.1 ≡ total
  pub high : r.0 ≤ bound
  pub within : r.1 < days_in r.0

here : (days_in : ℕ → ℕ) (more n days : ℕ) → nat_lt days (days_in n) ≡ true → span_at days_in (suc more) n days ≡ (n, days)
unfolding span_at
here days_in more n days is = cond-true _ _ _ is

later : (days_in : ℕ → ℕ) (more n days : ℕ) → nat_lt days (days_in n) ≡ false → span_at days_in (suc more) n days ≡ span_at days_in more (suc n) (days - days_in n)
unfolding span_at
later days_in more n days is = cond-false _ _ _ is

either : (b : Bool) → (b ≡ true) ⊎ (b ≡ false)
either true = inl refl
either false = inr refl

last : (before days_in : ℕ → ℕ) → ((n : ℕ) → before (suc n) ≡ before n + days_in n) → (n days : ℕ)
    → before n + days < before (suc (n + zero)) → IsSpanOf before days_in (n + zero) (before n + days) (span_at days_in zero n days)
unfolding span_at
last before days_in next n days h =
    let same : n + zero ≡ n = omega arith in
    record { sum = refl; high = omega arith; within = omega (arith, next n, rw same at h) }

step : (before days_in : ℕ → ℕ) → ((n : ℕ) → before (suc n) ≡ before n + days_in n) → (more n days : ℕ)
    → (nat_lt days (days_in n) ≡ true) ⊎ (nat_lt days (days_in n) ≡ false)
    → (days_in n ≤ days → IsSpanOf before days_in (suc n + more) (before (suc n) + (days - days_in n)) (span_at days_in more (suc n) (days - days_in n)))
    → IsSpanOf before days_in (n + suc more) (before n + days) (span_at days_in (suc more) n days)
step before days_in next more n days (inl is) rest =
    rw (here days_in more n days is) (record { sum = refl; high = omega arith; within = grind (arith, nat_tests) })
step before days_in next more n days (inr is) rest =
    let full : days_in n ≤ days = grind (arith, nat_tests) in
    let r = rest full in
    rw (later days_in more n days is) (record { sum = r.sum ∙ omega (arith, next n); high = omega (arith, r.high); within = r.within })

pub span_at_is : (before days_in : ℕ → ℕ) → ((n : ℕ) → before (suc n) ≡ before n + days_in n) → (more n days : ℕ)
    → before n + days < before (suc (n + more)) → IsSpanOf before days_in (n + more) (before n + days) (span_at days_in more n days)
span_at_is before days_in next zero n days h = last before days_in next n days h
span_at_is before days_in next (suc more) n days h =
    step before days_in next more n days (either _) (λ full.
    let place : n + suc more ≡ suc n + more = omega arith in
    let total : before (suc n) + (days - days_in n) ≡ before n + days = omega (arith, next n) in
    span_at_is before days_in next more (suc n) (days - days_in n) (rw total (rw place at h)))
