-- A number that was not read.
use Rattle.std.proofs.Common.{◌≡◌, ℕ, ◌^◌, ◌<◌, true, List, Some, None, Err, arith, rules}
use Rattle.std.specs.List.{list_all}
use Rattle.std.specs.Char.{is_ascii_digit}
use Rattle.std.specs.Str.Parse.{digits_value, ParsesUnsigned}
use Rattle.std.proofs.lemmas.Str.Parse.{IsNumeralModel, numerals_by_value, parse_digits}
use Rattle.std.proofs.lemmas.Grind.{common_steps}
use Rattle.rgw_words.specs.Values.{moment_of}
use Rattle.rgw_words.specs.Options.{number_in}

digits : IsNumeralModel (λ ds. list_all is_ascii_digit ds ≡ true) (digits_value 10)
digits = numerals_by_value _ (search rules)

-- digits that are no number of 64 bits say no moment
pub moment_of-unread : {E : Type 0} (word : List ℕ) (e : E) → ParsesUnsigned 64 10 word (Err e) → list_all is_ascii_digit word ≡ true → None ≡ moment_of word
moment_of-unread word e unread all =
    let large = parse_digits digits 64 word (Err e) unread all in
    grind (arith, common_steps, large)

-- digits that are no number of 64 bits say none up to one of 64 bits
pub number_of-unread : {E : Type 0} (word : List ℕ) (least greatest : ℕ) (e : E) → greatest < 2 ^ 64 → ParsesUnsigned 64 10 word (Err e)
    → list_all is_ascii_digit word ≡ true → None ≡ number_in least greatest 0 (Some word)
number_of-unread word least greatest e fits unread all =
    let large = parse_digits digits 64 word (Err e) unread all in
    grind (arith, common_steps, large)
