-- What parsing says of a limit of 1 to 9 digits.
use Rattle.std.proofs.Common.{◌≡◌, ℕ, ◌≤◌, leb, ltb, true, List, length, Option, Some, None, Ok, Result, min, refl, ap, ◌∙◌, arith, rules}
use Rattle.std.specs.List.{list_all}
use Rattle.std.specs.Char.{is_ascii_digit}
use Rattle.std.specs.Str.Parse.{ParsesUnsigned, digits_value}
use Rattle.std.proofs.lemmas.Bool.{and_parts, leb-true, ltb-true}
use Rattle.std.proofs.lemmas.Str.Parse.{IsNumeralModel, numerals_by_value, digits_value_short, parse_gives}
use Rattle.swift_words.specs.Queries.{is_limit, limit_fault, limit_in}

decimal : IsNumeralModel (λ text. list_all is_ascii_digit text ≡ true) (digits_value 10)
decimal = numerals_by_value _ (search rules)

pub limit_is_read : {E : Type 0} (value : List ℕ) (r : Result ℕ E) → is_limit value ≡ true → ParsesUnsigned 32 10 value r
    → r ≡ Ok (digits_value 10 value)
unfolding is_limit
limit_is_read value r limit parses =
    let some = and_parts (ltb 0 (length value)) _ limit in
    let few = and_parts (leb (length value) 9) (list_all is_ascii_digit value) some.1 in
    let short : length value ≤ 9 = leb-true (length value) 9 few.0 in
    parse_gives decimal 32 value r parses few.1 (ltb-true 0 (length value) some.0)
    (omega (arith, digits_value_short decimal value 9 few.1 short))

pub limit_of_value : (sent : Option (List ℕ)) (value : List ℕ) (n r : ℕ) → sent ≡ Some value → is_limit value ≡ true
    → n ≡ digits_value 10 value → r ≡ min n 10000 → (limit_fault sent ≡ None) × (r ≡ limit_in sent)
limit_of_value sent value n r is limit read capped = rw (is, limit) (refl, capped ∙ ap (λ m. min m 10000) read)
