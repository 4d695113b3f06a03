-- Words that are texts, and numbers.
use Rattle.std.proofs.Common.{◌≡◌, ℕ, zero, suc, ◌^◌, ◌<◌, ◌≤◌, Bool, true, false, ◌&&◌, List, [], ◌∷◌, length, Some, None, Result, Ok, Err, refl, cond, sym, ap, subst, ◌∙◌, arith, rules}
use Rattle.std.specs.List.{list_all}
use Rattle.std.specs.Char.{is_ascii_digit, is_ascii_alphanumeric}
use Rattle.std.specs.Result.{OkIff, result_ok}
use Rattle.std.specs.Prelude.{nat_lt, nat_le}
use Rattle.std.specs.Str.{is_utf8, IsUtf8, IsAscii}
use Rattle.object_words.specs.Limits.{is_name}
use Rattle.script_words.specs.Names.{is_actor_name}
use Rattle.std.specs.Str.Parse.{digits_value, ParsesUnsigned}
use Rattle.std.proofs.lemmas.Bool.{false_from_ne_true, and_parts}
use Rattle.std.proofs.lemmas.Str.{IsUtf8-from_ascii, IsUtf8-from_is_utf8, is_utf8-from_IsUtf8}
use Rattle.std.proofs.lemmas.Str.Parse.{IsNumeralModel, numerals_by_value, parse_digits}
use Rattle.std.proofs.lemmas.Grind.{common_steps}
use Rattle.script_words.specs.Reading.{number_in, name_in, actor_in}

-- ---- UTF-8

pub no_utf8 : (word : List ℕ) → ¬ (IsUtf8 word) → is_utf8 word ≡ false
no_utf8 word none = false_from_ne_true (is_utf8 word) (λ is. none (IsUtf8-from_is_utf8 word is))

-- bytes that pass a test which only ASCII passes
ascii : (test : ℕ → Bool) → ((b : ℕ) → test b ≡ true → b < 128) → (word : List ℕ) → list_all test word ≡ true → IsUtf8 word
ascii test low word all = IsUtf8-from_ascii word (each word all)
  where
    each : (word : List ℕ) → list_all test word ≡ true → IsAscii word
    each [] all i = omega arith
    each (b ∷ word) all zero = low b (and_parts (test b) (list_all test word) all).0
    each (b ∷ word) all (suc i) = each word (and_parts (test b) (list_all test word) all).1 i

pub digits_are_utf8 : (word : List ℕ) → list_all is_ascii_digit word ≡ true → IsUtf8 word
digits_are_utf8 word all = ascii is_ascii_digit (λ b is. grind (arith, common_steps)) word all

alphanumerics_are_utf8 : (word : List ℕ) → list_all is_ascii_alphanumeric word ≡ true → IsUtf8 word
alphanumerics_are_utf8 word all = ascii is_ascii_alphanumeric (λ b is. grind (arith, common_steps)) word all

-- ---- names

-- other bytes are no name
pub no_name : (most : ℕ) (word : List ℕ) → ¬ (IsUtf8 word) → name_in most word ≡ None
no_name most word none = rw (no_utf8 word none) (none_of (is_name most word))
  where
    none_of : (a : Bool) → cond (a && false) (Some word) None ≡ None
    none_of true = refl
    none_of false = refl

pub some_name : (most : ℕ) (word text name : List ℕ) → IsUtf8 word → text ≡ word → is_name most text ≡ true → name ≡ text → name_in most word ≡ Some name
some_name most word text name utf8 same is copy =
    let limits : is_name most word ≡ true = subst (λ t. is_name most t ≡ true) same is in
    rw (limits, is_utf8-from_IsUtf8 word utf8) (ap (λ n. Some n) (sym (copy ∙ same)))

no_actor_by : (word : List ℕ) (is : Bool) → is_actor_name word ≡ is → ¬ (IsUtf8 word) → actor_in word ≡ None
no_actor_by word false is none = rw is refl
no_actor_by word true is none =
    let parts = and_parts (nat_lt 0 (length word)) (nat_le (length word) 16 && list_all is_ascii_alphanumeric word) is in
    absurd (none (alphanumerics_are_utf8 word (and_parts (nat_le (length word) 16) (list_all is_ascii_alphanumeric word) parts.1).1))

pub no_actor : (word : List ℕ) → ¬ (IsUtf8 word) → actor_in word ≡ None
no_actor word none = no_actor_by word (is_actor_name word) refl none

-- ---- numbers

digits : IsNumeralModel (λ ds. list_all is_ascii_digit ds ≡ true) (digits_value 10)
digits = numerals_by_value _ (search rules)

reads_by : {E : Type 0} (word : List ℕ) (read : Result ℕ E) → length word ≤ 20 → list_all is_ascii_digit word ≡ true
    → OkIff read ((0 < length word) × (digits_value 10 word < 2 ^ 64)) (digits_value 10 word) → result_ok read ≡ number_in word
reads_by word (Ok n) few all says = grind (arith, common_steps, says)
reads_by word (Err e) few all says = grind (arith, common_steps, says)

-- digits are read as the number that they write, where it fits
pub reads_number : {E : Type 0} (word : List ℕ) (read : Result ℕ E) → ParsesUnsigned 64 10 word read → length word ≤ 20
    → list_all is_ascii_digit word ≡ true → result_ok read ≡ number_in word
reads_number word read parses few all = reads_by word read few all (parse_digits digits 64 word read parses all)
