-- Options in one word or in two.
use Rattle.std.proofs.Common.{◌≡◌, ℕ, ◌<◌, Bool, true, false, cond, List, [], ◌∷◌, length, Option, Some, None, MatchOption, Bor, eqb, nat_lt, refl, sym, ap, ◌∙◌, bytes_eq, arith}
use Rattle.std.specs.Prelude.{is_some}
use Rattle.std.specs.List.{position_or_len, before_first, after_first}
use Rattle.rgw_words.specs.Options.{is_joined, name_in, value_in, Said, said_in_two, first_option, value_of, begins_option, are_options}

-- ---- a word in two parts

inside : (n m : ℕ) → n < m → is_some (cond (nat_lt n m) (Some n) None) ≡ true
inside n m less = let is : nat_lt n m ≡ true = grind (arith, less) in rw is refl

behind : (n m : ℕ) → n ≡ m → is_some (cond (nat_lt n m) (Some n) None) ≡ false
behind n m same = let is : nat_lt n m ≡ false = grind (arith, same) in rw is refl

pub divided : (word : List ℕ) (parts : Option (Bor (List ℕ) × Bor (List ℕ)))
    → MatchOption parts (position_or_len (λ b. eqb b 61) word ≡ length word)
    (λ x. (position_or_len (λ b. eqb b 61) word < length word) × (x.0.now ≡ before_first (λ b. eqb b 61) word) × (x.1.now ≡ after_first (λ b. eqb b 61) word))
    → MatchOption parts (is_joined word ≡ false) (λ x. (is_joined word ≡ true) × (x.0.now ≡ name_in word) × (x.1.now ≡ value_in word))
divided word None whole = behind _ _ whole
divided word (Some x) at = (inside _ _ at.0, at.1, at.2)

-- ---- by the option that the words begin with

abbrev pub value_by : List ℕ → Option Said → Option (List ℕ)
value_by name None = None
value_by name (Some said) = cond (bytes_eq said.name name) (Some said.value) (value_of name said.rest)

pub value_first : (name : List ℕ) (words : List (List ℕ)) → value_by name (first_option words) ≡ value_of name words
value_first name [] = refl
value_first name (word ∷ []) =
    elim (is_joined word) as (λ b. value_by name (cond b (Some (record { name = name_in word; value = value_in word; rest = [] })) None)
    ≡ cond b (cond (bytes_eq (name_in word) name) (Some (value_in word)) None) None) [
      | true ↦ refl
      | false ↦ refl
    ]
value_first name (word ∷ next ∷ words) =
    elim (is_joined word) as (λ b. value_by name (cond b (Some (record { name = name_in word; value = value_in word; rest = next ∷ words })) (said_in_two word (next ∷ words)))
    ≡ cond b (cond (bytes_eq (name_in word) name) (Some (value_in word)) (value_of name (next ∷ words))) (cond (bytes_eq word name) (Some next) (value_of name words))) [
      | true ↦ refl
      | false ↦ refl
    ]

abbrev pub are_by : Bool → Option Said → Bool
are_by serving None = false
are_by serving (Some said) = cond (begins_option serving said.name said.value said.rest) (are_options serving said.rest) false

itself : (b : Bool) → cond b true false ≡ b
itself true = refl
itself false = refl

pub are_first : (serving : Bool) (word : List ℕ) (words : List (List ℕ)) → are_by serving (first_option (word ∷ words)) ≡ are_options serving (word ∷ words)
are_first serving word [] =
    elim (is_joined word) as (λ b. are_by serving (cond b (Some (record { name = name_in word; value = value_in word; rest = [] })) None)
    ≡ cond b (begins_option serving (name_in word) (value_in word) []) false) [
      | true ↦ itself (begins_option serving (name_in word) (value_in word) [])
      | false ↦ refl
    ]
are_first serving word (next ∷ words) =
    elim (is_joined word) as (λ b. are_by serving (cond b (Some (record { name = name_in word; value = value_in word; rest = next ∷ words })) (said_in_two word (next ∷ words)))
    ≡ cond b (cond (begins_option serving (name_in word) (value_in word) (next ∷ words)) (are_options serving (next ∷ words)) false)
    (cond (begins_option serving word next words) (are_options serving words) false)) [
      | true ↦ refl
      | false ↦ refl
    ]

pub are_said : (serving : Bool) (words : List (List ℕ)) (said : Said) (begins : Bool) → first_option words ≡ Some said → begins_option serving said.name said.value said.rest ≡ begins
    → cond begins (are_options serving said.rest) false ≡ are_options serving words
are_said serving [] said begins is by = let clash : None ≡ Some said = is in absurd (cc)
are_said serving (word ∷ words) said begins is by =
    ap (λ b. cond b (are_options serving said.rest) false) (sym by) ∙ ap (are_by serving) (sym is) ∙ are_first serving word words
