-- Options behind a command, in any order: each a name and a value, in two words or in one.
use Rattle.std.specs.Prelude.{ℕ, Bool, not, ◌&&◌, ◌||◌, ◌==◌, true, false, nat_le, List, [], ◌∷◌, Option, Some, None, is_some, if◌then◌else◌, bytes_eq, codes}
use Rattle.std.specs.List.{list_any, position, before_first, after_first}
use Rattle.std.specs.Str.Parse.{digits_value}
use Rattle.rgw_words.specs.Values.{begins_with_dash, is_number}

-- ---- the two forms

-- `name=value` in one word, which its first `=` divides
abbrev pub is_joined : List ℕ → Bool
is_joined word = is_some (position (λ b. b == 61) word)

abbrev pub name_in : List ℕ → List ℕ
name_in word = before_first (λ b. b == 61) word

abbrev pub value_in : List ℕ → List ℕ
value_in word = after_first (λ b. b == 61) word

-- an option, and the words behind it
pub record Said : Type 0 where
  pub name : List ℕ
  pub value : List ℕ
  pub rest : List (List ℕ)

abbrev pub said_in_two : List ℕ → List (List ℕ) → Option Said
said_in_two word [] = None
said_in_two word (value ∷ words) = Some (record { name = word; value = value; rest = words })

-- the option that words begin with
abbrev pub first_option : List (List ℕ) → Option Said
first_option [] = None
first_option (word ∷ words) =
    if is_joined word then Some (record { name = name_in word; value = value_in word; rest = words })
    else said_in_two word words

-- the value of the first option of this name
abbrev pub value_of : List ℕ → List (List ℕ) → Option (List ℕ)
value_of name [] = None
value_of name (word ∷ []) =
    if is_joined word then (if bytes_eq (name_in word) name then Some (value_in word) else None) else None
value_of name (word ∷ next ∷ words) =
    if is_joined word then (if bytes_eq (name_in word) name then Some (value_in word) else value_of name (next ∷ words))
    else (if bytes_eq word name then Some next else value_of name words)

-- ---- which options there are

-- the options of every command
abbrev pub option_names : List (List ℕ)
option_names =
    codes "--bucket" ∷ codes "--stripe" ∷ codes "--frame" ∷ codes "--frames" ∷ codes "--shards" ∷ codes "--tag-seconds"
    ∷ codes "--largest" ∷ codes "--now" ∷ codes "--users" ∷ []

abbrev pub is_usual_option : List ℕ → Bool
is_usual_option word = list_any (bytes_eq word) option_names

-- those that a server has beside
abbrev pub server_option_names : List (List ℕ)
server_option_names = codes "--port" ∷ codes "--workers" ∷ codes "--accepts" ∷ []

abbrev pub is_server_option : List ℕ → Bool
is_server_option word = list_any (bytes_eq word) server_option_names

-- those of every command, and for a server its own
abbrev pub is_option : Bool → List ℕ → Bool
is_option serving word = is_usual_option word || (serving && is_server_option word)

-- an option and its value, which does not begin with a dash; the option is not among the words behind them
abbrev pub begins_option : Bool → List ℕ → List ℕ → List (List ℕ) → Bool
begins_option serving name value words =
    is_option serving name && (not (begins_with_dash value) && not (is_some (value_of name words)))

-- options alone, each once
abbrev pub are_options : Bool → List (List ℕ) → Bool
are_options serving [] = true
are_options serving (word ∷ []) = if is_joined word then begins_option serving (name_in word) (value_in word) [] else false
are_options serving (word ∷ next ∷ words) =
    if is_joined word
    then (if begins_option serving (name_in word) (value_in word) (next ∷ words) then are_options serving (next ∷ words) else false)
    else (if begins_option serving word next words then are_options serving words else false)

-- ---- numbers

-- the number that a value says, from the least to the greatest; the usual one where the option is not there
abbrev pub number_in : ℕ → ℕ → ℕ → Option (List ℕ) → Option ℕ
number_in least greatest usual None = Some usual
number_in least greatest usual (Some word) =
    if is_number word && (nat_le least (digits_value 10 word) && nat_le (digits_value 10 word) greatest)
    then Some (digits_value 10 word) else None
