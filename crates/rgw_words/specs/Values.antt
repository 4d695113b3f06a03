-- What the values of options mean.
use Rattle.std.specs.Prelude.{ℕ, Bool, not, ◌&&◌, ◌==◌, List, length, slice_index, Option, Some, None, if◌then◌else◌, nat_lt, nat_le}
use Rattle.std.specs.List.{list_all}
use Rattle.std.specs.Char.{is_ascii_digit}
use Rattle.std.specs.Str.Parse.{digits_value}
use Rattle.object_words.specs.Limits.{is_name}
use Rattle.date_words.specs.declared.TheConstants.{LATEST_MOMENT}

-- the word begins with a dash, as an option does and no value may
abbrev pub begins_with_dash : List ℕ → Bool
begins_with_dash word = slice_index word 0 == 45

-- the word can be the value of `--bucket`
abbrev pub is_bucket : List ℕ → Bool
is_bucket word = not (begins_with_dash word) && is_name 256 word

-- one or more decimal digits, leading zeros among them
abbrev pub is_number : List ℕ → Bool
is_number word = nat_lt 0 (length word) && list_all is_ascii_digit word

-- the moment that the value of `--now` says, in microseconds since 1970
abbrev pub moment_of : List ℕ → Option ℕ
moment_of word =
    if is_number word && nat_le (digits_value 10 word) LATEST_MOMENT then Some (digits_value 10 word) else None
