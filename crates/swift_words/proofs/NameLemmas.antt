-- A path without a fault has names of their sizes.
use Rattle.std.proofs.Common.{◌≡◌, ℕ, Bool, true, false, cond, List, [], ◌∷◌, ◌++◌, map, Option, Some, None, refl}
use Rattle.std.specs.Option.{option_or}
use Rattle.std.proofs.lemmas.Bool.{and_from}
use Rattle.percent_encoding.specs.Percent.{percent_decode}
use Rattle.swift_words.specs.declared.fault.WordFault.{WordFault}
use Rattle.swift_words.specs.declared.target.Target.TheVariants.{Auth, Unknown}
use Rattle.swift_words.specs.Parts.{fault_unless, name_fault, is_name}
use Rattle.swift_words.specs.Targets.{is_account, is_auth, without_account, named_by, has_names, limit_after, part_fault, parts_fault}

first_none : (first later : Option WordFault) → option_or first later ≡ None → first ≡ None
first_none None later none = refl
first_none (Some fault) later none = none

later_none : (first later : Option WordFault) → option_or first later ≡ None → later ≡ None
later_none None later none = none
later_none (Some fault) later none = cc

unless_none : (test : Bool) (fault : WordFault) → fault_unless test fault ≡ None → test ≡ true
unless_none true fault none = refl
unless_none false fault none = cc

is_named : (most : ℕ) (part : List ℕ) → name_fault most part ≡ None → is_name most (percent_decode part) ≡ true
is_named most part none = unless_none _ _ (later_none _ _ none)

-- what is said of the first of the parts, and of those after it
fault_of_first : (words : List (List ℕ)) (part : List ℕ) (parts : List (List ℕ)) → parts_fault words (part ∷ parts) ≡ None
    → part_fault (limit_after words) part ≡ None
unfolding parts_fault
fault_of_first words part parts none = first_none _ _ none

fault_of_rest : (words : List (List ℕ)) (part : List ℕ) (parts : List (List ℕ)) → parts_fault words (part ∷ parts) ≡ None
    → parts_fault (words ++ percent_decode part ∷ []) parts ≡ None
unfolding parts_fault
fault_of_rest words part parts none = later_none _ _ none

no_names : (words : List (List ℕ)) → has_names (without_account words) ≡ true
no_names words = by_test (is_auth words)
  where
    by_test : (test : Bool) → has_names (cond test Auth Unknown) ≡ true
    by_test true = refl
    by_test false = refl

below : (a b c : List ℕ) (parts : List (List ℕ)) (test : Bool) → is_account a b c ≡ test
    → parts_fault (a ∷ b ∷ c ∷ []) parts ≡ None → has_names (named_by (a ∷ b ∷ c ∷ map percent_decode parts)) ≡ true
unfolding named_by
below a b c parts false is none = rw is (no_names (a ∷ b ∷ c ∷ map percent_decode parts))
below a b c [] true is none = rw is refl
below a b c (d ∷ []) true is none = rw is (is_named 256 d (rw is at (fault_of_first (a ∷ b ∷ c ∷ []) d [] none)))
below a b c (d ∷ e ∷ parts) true is none =
    let container = rw is at (fault_of_first (a ∷ b ∷ c ∷ []) d (e ∷ parts) none) in
    let after = fault_of_rest (a ∷ b ∷ c ∷ []) d (e ∷ parts) none in
    let object = rw is at (fault_of_first (a ∷ b ∷ c ∷ percent_decode d ∷ []) e parts after) in
    rw is (and_from _ _ (is_named 256 d container) (is_named 1024 e object))

pub names_of_path : (parts : List (List ℕ)) → parts_fault [] parts ≡ None → has_names (named_by (map percent_decode parts)) ≡ true
unfolding named_by
names_of_path [] none = refl
names_of_path (a ∷ []) none = no_names (percent_decode a ∷ [])
names_of_path (a ∷ b ∷ []) none = no_names (percent_decode a ∷ percent_decode b ∷ [])
names_of_path (a ∷ b ∷ c ∷ parts) none =
    let a' = percent_decode a in
    let b' = percent_decode b in
    let c' = percent_decode c in
    let after_first = fault_of_rest [] a (b ∷ c ∷ parts) none in
    let after_second = fault_of_rest (a' ∷ []) b (c ∷ parts) after_first in
    let after_third = fault_of_rest (a' ∷ b' ∷ []) c parts after_second in
    below a' b' c' parts (is_account a' b' c') refl after_third
