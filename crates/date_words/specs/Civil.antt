-- The date and the time of day of a second since 1970, in the Gregorian calendar and UTC.
use Rattle.std.specs.Prelude.{◌≡◌, ℕ, zero, suc, ◌+◌, ◌-◌, ◌/◌, ◌%◌, if◌then◌else◌, nat_lt}
use Rattle.httpdate.specs.Calendar.{days_in_year, days_in_month, IsCivilDate, IsTimeOfDay, seconds_from_civil}

-- a date and a time of day: months and days count from 1
pub record Civil : Type 0 where
  pub year : ℕ
  pub month : ℕ
  pub day : ℕ
  pub hour : ℕ
  pub minute : ℕ
  pub second : ℕ

-- the calendar and the clock have these numbers, and they are this second since 1970
pub record IsCivilOf (seconds : ℕ) (c : Civil) : Type 0 where
  pub date : IsCivilDate c.year c.month c.day
  pub time : IsTimeOfDay c.hour c.minute c.second
  pub seconds_are : seconds_from_civil c.year c.month c.day c.hour c.minute c.second ≡ seconds

-- Spans follow one another, the n-th so many days long. So many days into the n-th, and with so
-- many more spans to go: the span in which that day falls, and the days into it.
unfoldable pub span_at : (ℕ → ℕ) → ℕ → ℕ → ℕ → ℕ × ℕ
span_at days_in zero n days = (n, days)
span_at days_in (suc more) n days =
    if nat_lt days (days_in n) then (n, days) else span_at days_in more (suc n) (days - days_in n)

-- the year of a day since 1970, counted from 1970, and the days into it
unfoldable pub year_at : ℕ → ℕ × ℕ
year_at days = span_at (λ n. days_in_year (1970 + n)) 8029 0 days

-- the month of a day of the year, counted from 0, and the days into it
unfoldable pub month_at : ℕ → ℕ → ℕ × ℕ
month_at year days = span_at (λ n. days_in_month year (suc n)) 11 0 days

-- the date and the time of day of a second since 1970, up to the end of the year 9999
unfoldable pub civil_of : ℕ → Civil
civil_of seconds =
    let time = seconds % 86400 in
    let year = year_at (seconds / 86400) in
    let month = month_at (1970 + year.0) year.1 in
    record {
      year = 1970 + year.0;
      month = month.0 + 1;
      day = month.1 + 1;
      hour = time / 3600;
      minute = time % 3600 / 60;
      second = time % 60;
    }
