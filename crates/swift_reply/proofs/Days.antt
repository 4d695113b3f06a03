-- jiff's date of a day is that of `day_text`.
use Rattle.std.proofs.Common.{◌≡◌, ℕ, zero, suc, ◌+◌, ◌-◌, ◌*◌, ◌/◌, ◌≤◌, ◌++◌, refl, ap, ◌∙◌, arith, pos, ◌+ℤ◌, ◌-ℤ◌, unsigned_abs, codes}
use Rattle.jiff_core.specs.declared.civil.date.Date.{Date}
use Rattle.jiff_core.specs.Date.{epoch_day}
use Rattle.jiff_core.specs.Calendar as jiff
use Rattle.jiff_core.proofs.SignedLemmas.{signed_arith}
use Rattle.jiff_core.proofs.CalendarLemmas.{day_count-epoch, days_from_civil-day_count, days_of_months-zero}
use Rattle.jiff_core.proofs.DateLemmas.{epoch_day_injective}
use Rattle.jiff_fmt.specs.Text.{pad2, pad4}
use Rattle.httpdate.specs.Calendar.{days_in_month, days_of_years, days_of_months, days_from_civil}
use Rattle.date_words.specs.Civil.{Civil, IsCivilOf, civil_of}
use Rattle.date_words.proofs.CivilLemmas.{civil_of_is, days_are}
use Rattle.swift_reply.specs.Moments.{day_text}

-- ---- the two calendars count the same days

months_same : (year n : ℕ) → jiff.days_of_months (pos year) n ≡ days_of_months year n
unfolding jiff.days_of_months days_of_months
months_same year zero = refl
months_same year (suc n) = ap (λ k. k + days_in_month year (suc n)) (months_same year n)

first_years : jiff.days_of_years 11970 ≡ 4_371_953
unfolding jiff.day_count
first_years = omega (arith, day_count-epoch, days_of_months-zero (pos 1970))

one_more_year : (n : ℕ) → jiff.days_of_years (suc n) ≡ jiff.days_of_years n + jiff.days_in_year (pos n -ℤ pos 10000)
unfolding jiff.days_of_years
one_more_year n = refl

less_10000 : (n : ℕ) → pos (11970 + n) -ℤ pos 10000 ≡ pos (1970 + n)
less_10000 n = omega (arith, signed_arith)

years_same : (n : ℕ) → jiff.days_of_years (11970 + n) ≡ 4_371_953 + days_of_years n
unfolding days_of_years
years_same zero = first_years
years_same (suc n) =
    let next : 11970 + suc n ≡ suc (11970 + n) = omega arith in
    let year = ap jiff.days_in_year (less_10000 n) in
    rw next (omega (arith, one_more_year (11970 + n), year, years_same n))

plus_10000 : (n : ℕ) → unsigned_abs (pos (1970 + n) +ℤ pos 10000) ≡ 11970 + n
plus_10000 n = omega (arith, signed_arith)

days_same : (year month day : ℕ) → 1970 ≤ year → 1 ≤ day → jiff.day_count (pos year) month day ≡ 4_371_953 + days_from_civil year month day
unfolding jiff.day_count
days_same year month day low first =
    let from : 1970 + (year - 1970) ≡ year = omega arith in
    let years = rw from at (ap jiff.days_of_years (plus_10000 (year - 1970)) ∙ years_same (year - 1970)) in
    omega (arith, years, months_same year (month - 1))

-- the date of a civil time, as jiff has it
abbrev date_of : (seconds : ℕ) (c : Civil) → IsCivilOf seconds c → Date
date_of seconds c is = record {
  year = pos c.year;
  month = c.month;
  day = c.day;
  year_in = omega (arith, signed_arith, is.date);
  month_in = is.date.1;
  day_in = is.date.2;
}

pub date_parts : (days : ℕ) (d : Date) → days ≤ 2_932_896 → epoch_day d ≡ pos days
    → (d.year ≡ pos (civil_of (days * 86400)).year) × (d.month ≡ (civil_of (days * 86400)).month) × (d.day ≡ (civil_of (days * 86400)).day)
date_parts days d h is =
    let s = days * 86400 in
    let c = civil_of s in
    let r = civil_of_is s (omega arith) in
    let there = days_are s c r in
    let same = days_same c.year c.month c.day r.date.0.0 r.date.2.0 in
    epoch_day_injective d (date_of s c r) (omega (arith, signed_arith, is, there, same, days_from_civil-day_count (pos c.year) c.month c.day))

pub day_text_is : (days : ℕ) → (let c = civil_of (days * 86400) in pad4 c.year ++ codes "-" ++ pad2 c.month ++ codes "-" ++ pad2 c.day) ≡ day_text days
unfolding civil_of day_text
day_text_is days =
    let whole : days * 86400 / 86400 ≡ days = omega arith in
    rw whole refl

pub same_digits : (y m d year month day : ℕ) → y ≡ year → m ≡ month → d ≡ day → pad4 y ++ codes "-" ++ pad2 m ++ codes "-" ++ pad2 d ≡ pad4 year ++ codes "-" ++ pad2 month ++ codes "-" ++ pad2 day
same_digits y m d year month day a b c = rw (a, b, c) refl
