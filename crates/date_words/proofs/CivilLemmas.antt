-- `civil_of` gives the one date and time of day that a second has.
use Rattle.std.proofs.Common.{◌≡◌, ℕ, suc, ◌+◌, ◌-◌, ◌*◌, ◌/◌, ◌%◌, ◌<◌, refl, sym, ap, ◌∙◌, arith}
use Rattle.httpdate.specs.declared.date.HttpDate.{HttpDate}
use Rattle.httpdate.specs.Calendar.{days_in_year, days_in_month, days_of_years, days_of_months, days_from_civil, weekday}
use Rattle.httpdate.proofs.CalendarLemmas.{days_of_years_closed, days_of_months_all, days_from_civil_bound}
use Rattle.httpdate.proofs.Theorems.{unix_secs_injective}
use Rattle.date_words.specs.Civil.{Civil, IsCivilOf, year_at, month_at, civil_of}
use Rattle.date_words.proofs.SpanLemmas.{IsSpanOf, span_at_is}

one_more_year : (n : ℕ) → days_of_years (suc n) ≡ days_of_years n + days_in_year (1970 + n)
unfolding days_of_years
one_more_year n = refl

one_more_month : (year n : ℕ) → days_of_months year (suc n) ≡ days_of_months year n + days_in_month year (suc n)
unfolding days_of_months
one_more_month year n = refl

no_year : days_of_years 0 ≡ 0
unfolding days_of_years
no_year = refl

no_month : (year : ℕ) → days_of_months year 0 ≡ 0
unfolding days_of_months
no_month year = refl

abbrev IsYear : ℕ → ℕ × ℕ → Type 0
IsYear days r = IsSpanOf days_of_years (λ n. days_in_year (1970 + n)) 8029 days r

abbrev IsMonth : ℕ → ℕ → ℕ × ℕ → Type 0
IsMonth year days r = IsSpanOf (days_of_months year) (λ n. days_in_month year (suc n)) 11 days r

year_at_is : (days : ℕ) → days < 2932897 → IsYear days (year_at days)
unfolding year_at
year_at_is days h =
    let start : days_of_years 0 + days ≡ days = omega (arith, no_year) in
    rw start at (span_at_is days_of_years (λ n. days_in_year (1970 + n)) one_more_year 8029 0 days (rw start (omega (arith, days_of_years_closed 8030))))

month_at_is : (year days : ℕ) → days < days_in_year year → IsMonth year days (month_at year days)
unfolding month_at
month_at_is year days h =
    let start : days_of_months year 0 + days ≡ days = omega (arith, no_month year) in
    rw start at (span_at_is (days_of_months year) (λ n. days_in_month year (suc n)) (one_more_month year) 11 0 days (rw start (omega (arith, days_of_months_all year))))

-- the first day of a year has no day before it in that year, and so on
days_are_sums : (year month days : ℕ) → days_from_civil (1970 + year) (month + 1) (days + 1) ≡ days_of_years year + days_of_months (1970 + year) month + days
days_are_sums year month days =
    let y : 1970 + year - 1970 ≡ year = omega arith in
    let m : month + 1 - 1 ≡ month = omega arith in
    rw (y, m) (omega arith)

clock : (seconds : ℕ) → (seconds / 86400 * 86400 + seconds % 86400 / 3600 * 3600 + seconds % 86400 % 3600 / 60 * 60 + seconds % 86400 % 60 ≡ seconds)
    × (seconds % 86400 / 3600 < 24) × (seconds % 86400 % 3600 / 60 < 60) × (seconds % 86400 % 60 < 60)
clock seconds = omega arith

pub civil_of_is : (seconds : ℕ) → seconds < 253402300800 → IsCivilOf seconds (civil_of seconds)
unfolding civil_of
civil_of_is seconds h =
    let y = year_at_is (seconds / 86400) (omega arith) in
    let m = month_at_is (1970 + (year_at (seconds / 86400)).0) (year_at (seconds / 86400)).1 y.within in
    let t = clock seconds in
    let next : (month_at (1970 + (year_at (seconds / 86400)).0) (year_at (seconds / 86400)).1).0 + 1 ≡ suc (month_at (1970 + (year_at (seconds / 86400)).0) (year_at (seconds / 86400)).1).0 = omega arith in
    record {
      date = ((omega arith, omega (arith, y.high)), (omega arith, omega (arith, m.high)), (omega arith, rw next (omega (arith, m.within))));
      time = (t.1, t.2, t.3);
      seconds_are = rw days_are_sums (omega (arith, y.sum, m.sum, t.0));
    }

pub days_are : (seconds : ℕ) (c : Civil) → IsCivilOf seconds c → days_from_civil c.year c.month c.day ≡ seconds / 86400
days_are seconds c is = omega (arith, is.time, is.seconds_are)

pub is_before_end : (seconds : ℕ) (c : Civil) → IsCivilOf seconds c → seconds < 253402300800
is_before_end seconds c is = omega (arith, is.time, is.seconds_are, days_from_civil_bound _ _ _ is.date)

-- the date of the crate below
abbrev pub date_of : (seconds : ℕ) (c : Civil) → IsCivilOf seconds c → HttpDate
date_of seconds c is = record {
  parts = record { year = c.year; mon = c.month; day = c.day; hour = c.hour; min = c.minute; sec = c.second; wday = weekday (seconds / 86400) };
  civil = is.date;
  time = is.time;
  right_day = ap weekday (sym (days_are seconds c is));
}

-- two dates and times of one second are the same
pub one_civil : (seconds : ℕ) (a b : Civil) → IsCivilOf seconds a → IsCivilOf seconds b → a ≡ b
one_civil seconds a b x y =
    let same = unix_secs_injective (date_of seconds a x) (date_of seconds b y) (x.seconds_are ∙ sym y.seconds_are) in
    λ i. record { year = (same i).year; month = (same i).mon; day = (same i).day; hour = (same i).hour; minute = (same i).min; second = (same i).sec }
