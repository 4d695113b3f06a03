-- `http_date` gives the one text that a second has, and that text is read as the second.
use Rattle.std.proofs.Common.{◌≡◌, ℕ, ◌<◌, List, Some, refl, sym, ap, ◌∙◌, arith, inl}
use Rattle.httpdate.specs.declared.date.HttpDate.{HttpDate}
use Rattle.httpdate.specs.Valid.{IsValid}
use Rattle.httpdate.specs.Date.{unix_secs, date_text, parse_secs}
use Rattle.httpdate.specs.Text.{imf_fixdate}
use Rattle.httpdate.proofs.CalendarLemmas.{days_from_civil_bound}
use Rattle.httpdate.proofs.FormatLemmas.{parse_complete}
use Rattle.httpdate.proofs.Theorems.{unix_secs_injective}
use Rattle.httpdate.proofs.ValidLemmas.{is_valid_complete}
use Rattle.date_words.specs.Civil.{civil_of}
use Rattle.date_words.specs.HttpDate.{IsDateOfSecond, parts_of, http_date}
use Rattle.date_words.proofs.CivilLemmas.{civil_of_is, date_of}

-- the crate below has a date with these parts
parts_are : (seconds : ℕ) (h : seconds < 253402300800) → (date_of seconds (civil_of seconds) (civil_of_is seconds h)).parts ≡ parts_of seconds
unfolding parts_of
parts_are seconds h = refl

pub is_before_year_10000 : (d : HttpDate) → unix_secs d < 253402300800
is_before_year_10000 d = omega (arith, d.time, days_from_civil_bound _ _ _ d.civil)

pub date_text_is : (d : HttpDate) → date_text d ≡ http_date (unix_secs d)
unfolding http_date
date_text_is d =
    let h = is_before_year_10000 d in
    let e = civil_of_is (unix_secs d) h in
    ap imf_fixdate (unix_secs_injective d (date_of (unix_secs d) (civil_of (unix_secs d)) e) (sym e.seconds_are) ∙ parts_are (unix_secs d) h)

pub has_date : (seconds : ℕ) → seconds < 253402300800 → IsDateOfSecond seconds (http_date seconds)
has_date seconds h =
    let e = civil_of_is seconds h in
    let d = date_of seconds (civil_of seconds) e in
    (d, e.seconds_are, ap http_date (sym e.seconds_are) ∙ sym (date_text_is d))

valid_date_is_read : (text : List ℕ) (d : HttpDate) → text ≡ date_text d → parse_secs text ≡ Some (unix_secs d)
valid_date_is_read text d shown =
    let valid : IsValid d.parts = (d.civil, d.time, d.right_day) in
    rw (parse_complete text d.parts valid (inl shown), is_valid_complete d.parts valid)

pub parse_secs-http_date : (seconds : ℕ) → seconds < 253402300800 → parse_secs (http_date seconds) ≡ Some seconds
parse_secs-http_date seconds h =
    let e = has_date seconds h in
    valid_date_is_read _ e.0 e.2 ∙ ap Some e.1
