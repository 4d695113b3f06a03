-- The text of a second, as a date of HTTP (RFC 9110, section 5.6.7, IMF-fixdate).
use Rattle.std.specs.Prelude.{◌≡◌, ℕ, ◌/◌, List, min}
use Rattle.httpdate.specs.declared.parts.Parts.{Parts}
use Rattle.httpdate.specs.declared.date.HttpDate.{HttpDate}
use Rattle.httpdate.specs.Calendar.{weekday}
use Rattle.httpdate.specs.Date.{unix_secs, date_text}
use Rattle.httpdate.specs.Text.{imf_fixdate}
use Rattle.date_words.specs.declared.TheConstants.{LATEST_MOMENT}
use Rattle.date_words.specs.Civil.{civil_of}

-- the text is that of some date with these seconds
abbrev pub IsDateOfSecond : ℕ → List ℕ → Type 0
IsDateOfSecond seconds text = (d : HttpDate) × (unix_secs d ≡ seconds) × (text ≡ date_text d)

-- what the text of a second shows
unfoldable pub parts_of : ℕ → Parts
parts_of seconds =
    let c = civil_of seconds in
    record {
      year = c.year;
      mon = c.month;
      day = c.day;
      hour = c.hour;
      min = c.minute;
      sec = c.second;
      wday = weekday (seconds / 86400);
    }

-- the text of a second since 1970, up to the end of the year 9999
unfoldable pub http_date : ℕ → List ℕ
http_date seconds = imf_fixdate (parts_of seconds)

-- the text of a moment in microseconds since 1970, where a later one than the latest is taken as that
abbrev pub date_of_micros : ℕ → List ℕ
date_of_micros micros = http_date (min micros LATEST_MOMENT / 1_000_000)
