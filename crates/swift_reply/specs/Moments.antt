-- A moment as a row of a listing shows it, as `2023-11-14T22:13:20.000000` (ISO 8601, in UTC).
use Rattle.std.specs.Prelude.{ℕ, ◌+◌, ◌/◌, ◌%◌, List, ◌++◌, codes, min}
use Rattle.date_words.specs.declared.TheConstants.{LATEST_MOMENT}
use Rattle.date_words.specs.Civil.{year_at, month_at}
use Rattle.jiff_fmt.specs.Text.{pad2, pad4}

-- the date of a day since 1970
unfoldable pub day_text : ℕ → List ℕ
day_text days =
    let year = year_at days in
    let month = month_at (1970 + year.0) year.1 in
    pad4 (1970 + year.0) ++ codes "-" ++ pad2 (month.0 + 1) ++ codes "-" ++ pad2 (month.1 + 1)

-- a number below 1000000, in six digits
abbrev pub pad6 : ℕ → List ℕ
pad6 n = pad2 (n / 10000) ++ pad4 (n % 10000)

-- the time of day, of the microseconds since midnight
unfoldable pub clock_text : ℕ → List ℕ
clock_text micros =
    let seconds = micros / 1000000 in
    pad2 (seconds / 3600) ++ codes ":" ++ pad2 (seconds % 3600 / 60) ++ codes ":" ++ pad2 (seconds % 60)
    ++ codes "." ++ pad6 (micros % 1000000)

-- the text of a moment in microseconds since 1970, where a later one than the latest is taken as that
abbrev pub moment_text : ℕ → List ℕ
moment_text micros =
    let moment = min micros LATEST_MOMENT in
    day_text (moment / 86400000000) ++ codes "T" ++ clock_text (moment % 86400000000)
