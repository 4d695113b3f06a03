-- Bodies and verbs: the grammar and the reading of words say the same.
use Rattle.std.proofs.Common.{◌≡◌, inl, inr, ⊎_elim, ℕ, ◌≤◌, ◌==◌, Bool, true, false, cond, List, [], ◌∷◌, Option, Some, None, refl, sym, ap, ◌∙◌, subst, codes}
use Rattle.std.specs.Prelude.{bytes_eq, nat_le}
use Rattle.std.specs.Option.{option_map, option_and_then}
use Rattle.std.proofs.lemmas.Bool.{eqb-true, le-leb, leb-true, false_from_ne_true}
use Rattle.std.proofs.lemmas.Option.{none-some, same_Some, cond_some}
use Rattle.task_words.specs.declared.job.Job.TheVariants.{Check}
use Rattle.script_words.specs.Lines.{is_container, most_letters, IsPlain, IsBody, IsVerb}
use Rattle.script_words.specs.Reading.{number_in, container_in, path_in, times_in, body_in, put_in, get_in, only_container, account_in, container_verb, verb_in}
use Rattle.script_words.specs.declared.line.ScriptBody.{ScriptBody}
use Rattle.script_words.specs.declared.line.ScriptBody.TheVariants.{Word, Times}
use Rattle.script_words.specs.declared.line.Verb.{Verb}
use Rattle.script_words.specs.declared.line.Verb.TheVariants.{Put, Get, Stat, Make, Remove, Account}
use Rattle.script_words.specs.declared.line.Verb.TheVariants as verbs
use Rattle.script_words.specs.declared.verbs.Path.{Path}
use Rattle.script_words.proofs.Options.{map_some, then_some, either_some, same_word}
use Rattle.script_words.proofs.WordsSay.{number_says, number_means, path_says, path_means, kept}

-- ---- bodies

plain_says : (word : List ℕ) → IsPlain word → body_in word ≡ Some (Word word)
plain_says [] plain = absurd (plain.some refl)
plain_says (first ∷ rest) plain =
    let no_star : (first == 42) ≡ false = false_from_ne_true (first == 42) (λ is. plain.no_star (eqb-true first 42 is)) in
    let no_dash : bytes_eq (first ∷ rest) (codes "-") ≡ false =
    false_from_ne_true (bytes_eq (first ∷ rest) (codes "-")) (λ is. plain.no_dash (same_word (first ∷ rest) (codes "-") is)) in
    ap (λ t. cond t (times_in rest) (cond (bytes_eq (first ∷ rest) (codes "-")) (Some (Word [])) (Some (Word (first ∷ rest))))) no_star
    ∙ ap (λ t. cond t (Some (Word [])) (Some (Word (first ∷ rest)))) no_dash

pub body_says : (word : List ℕ) (body : ScriptBody) → IsBody word body → body_in word ≡ Some body
body_says word (Word bytes) is = ⊎_elim
    (λ (none : (word ≡ codes "-") × (bytes ≡ [])). ap body_in none.0 ∙ ap (λ b. Some (Word b)) (sym none.1))
    (λ (some : IsPlain word × (bytes ≡ word)). plain_says word some.0 ∙ ap (λ b. Some (Word b)) (sym some.1)) is
body_says word (Times n) is =
    let few : nat_le n most_letters ≡ true = le-leb n most_letters is.3 in
    ap body_in is.1 ∙ ap (option_and_then (λ m. cond (nat_le m most_letters) (Some (Times m)) None)) (number_says is.0 n is.2)
    ∙ ap (λ t. cond t (Some (Times n)) None) few

times_mean : (word digits : List ℕ) (body : ScriptBody) → word ≡ 42 ∷ digits → times_in digits ≡ Some body → IsBody word body
times_mean word digits body is read =
    let number = then_some (λ m. cond (nat_le m most_letters) (Some (Times m)) None) (number_in digits) body read in
    let parts = limit (nat_le number.0 most_letters) number.0 body refl number.2 in
    subst (IsBody word) parts.1 (digits, is, number_means digits number.0 number.1, parts.0)
  where
    limit : (few : Bool) (n : ℕ) (body : ScriptBody) → nat_le n most_letters ≡ few
        → cond few (Some (Times n)) None ≡ Some body → (n ≤ most_letters) × (Times n ≡ body)
    limit true n body few read = (leb-true n most_letters few, same_Some (Times n) body read)
    limit false n body few read = absurd (none-some body read)

pub body_means : (word : List ℕ) (body : ScriptBody) → body_in word ≡ Some body → IsBody word body
body_means [] body read = absurd (none-some body read)
body_means (first ∷ rest) body read =
    let word = first ∷ rest in
    let dash = bytes_eq word (codes "-") in ⊎_elim
    (λ (star : ((first == 42) ≡ true) × (times_in rest ≡ Some body)).
    times_mean word rest body (ap (λ b. b ∷ rest) (eqb-true first 42 star.0)) star.1)
    (λ (other : ((first == 42) ≡ false) × (cond dash (Some (Word [])) (Some (Word word)) ≡ Some body)). ⊎_elim
    (λ (none : (dash ≡ true) × (Some (Word []) ≡ Some body)).
    subst (IsBody word) (same_Some (Word []) body none.1) (inl (same_word word (codes "-") none.0, refl)))
    (λ (some : (dash ≡ false) × (Some (Word word) ≡ Some body)).
    subst (IsBody word) (same_Some (Word word) body some.1)
    (inr (
      record {
        some = λ is. cc;
        no_dash = λ is. absurd (differ dash some.0 (ap (λ w. bytes_eq w (codes "-")) is));
        no_star = λ is. absurd (differ (first == 42) other.0 (ap (λ b. b == 42) is));
      },
      refl,
    )))
    (either_some dash (Some (Word [])) (Some (Word word)) body other.1))
    (either_some (first == 42) (times_in rest) (cond dash (Some (Word [])) (Some (Word word))) body read)
  where
    differ : (t : Bool) → t ≡ false → t ≡ true → ⊥
    differ true is other = cc
    differ false is other = cc

-- ---- verbs

-- a container that is named behind a verb's word
named_says : (command container : List ℕ) → is_container container ≡ true
    → option_and_then (container_verb command) (only_container (container ∷ [])) ≡ container_verb command container
named_says command container is = ap (option_and_then (container_verb command)) (kept (is_container container) container container is refl)

pub verb_says : (words : List (List ℕ)) (verb : Verb) → IsVerb words verb → verb_in words ≡ Some verb
verb_says words (Put container name body) is =
    ap verb_in is.2 ∙ ap (option_and_then (λ (p : Path). option_map (λ b. Put p.container p.name b) (body_in is.1))) (path_says is.0 container name is.3)
    ∙ ap (option_map (λ b. Put container name b)) (body_says is.1 body is.4)
verb_says words (Get container name) is =
    ap verb_in is.1 ∙ ap (option_map (λ (p : Path). Get p.container p.name)) (path_says is.0 container name is.2)
verb_says words (Stat container) is = ap verb_in is.0 ∙ named_says (codes "stat") container is.1
verb_says words (verbs.List container) is = ap verb_in is.0 ∙ named_says (codes "list") container is.1
verb_says words (Make container) is = ap verb_in is.0 ∙ named_says (codes "mk") container is.1
verb_says words (Remove container) is = ap verb_in is.0 ∙ named_says (codes "rm") container is.1
verb_says words Account is = ap verb_in is
verb_says words (verbs.Job (Check container)) is = ap verb_in is.0 ∙ named_says (codes "check") container is.1

put_means : (command : List ℕ) (words : List (List ℕ)) (verb : Verb) → command ≡ codes "put" → put_in words ≡ Some verb → IsVerb (command ∷ words) verb
put_means command [] verb is read = absurd (none-some verb read)
put_means command (path ∷ []) verb is read = absurd (none-some verb read)
put_means command (path ∷ word ∷ more ∷ words) verb is read = absurd (none-some verb read)
put_means command (path ∷ word ∷ []) verb is read =
    let first = then_some (λ (p : Path). option_map (λ b. Put p.container p.name b) (body_in word)) (path_in path) verb read in
    let p = first.0 in
    let second = map_some (λ b. Put p.container p.name b) (body_in word) verb first.2 in
    subst (IsVerb (command ∷ path ∷ word ∷ [])) second.2
    (path, word, ap (λ c. c ∷ path ∷ word ∷ []) is, path_means path p first.1, body_means word second.0 second.1)

get_means : (command : List ℕ) (words : List (List ℕ)) (verb : Verb) → command ≡ codes "get" → get_in words ≡ Some verb → IsVerb (command ∷ words) verb
get_means command [] verb is read = absurd (none-some verb read)
get_means command (path ∷ more ∷ words) verb is read = absurd (none-some verb read)
get_means command (path ∷ []) verb is read =
    let first = map_some (λ (p : Path). Get p.container p.name) (path_in path) verb read in
    subst (IsVerb (command ∷ path ∷ [])) first.2 (path, ap (λ c. c ∷ path ∷ []) is, path_means path first.0 first.1)

account_means : (command : List ℕ) (words : List (List ℕ)) (verb : Verb) → command ≡ codes "account" → account_in words ≡ Some verb → IsVerb (command ∷ words) verb
account_means command (word ∷ words) verb is read = absurd (none-some verb read)
account_means command [] verb is read = subst (IsVerb (command ∷ [])) (same_Some Account verb read) (ap (λ c. c ∷ []) is)

-- one of the verbs, or the next
next_verb : (command text : List ℕ) (words : List (List ℕ)) (verb : Verb) (here rest : Option Verb)
    → (command ≡ text → here ≡ Some verb → IsVerb (command ∷ words) verb)
    → (rest ≡ Some verb → IsVerb (command ∷ words) verb)
    → cond (bytes_eq command text) here rest ≡ Some verb → IsVerb (command ∷ words) verb
next_verb command text words verb here rest means others read = ⊎_elim
    (λ (p : (bytes_eq command text ≡ true) × (here ≡ Some verb)). means (same_word command text p.0) p.1)
    (λ (q : (bytes_eq command text ≡ false) × (rest ≡ Some verb)). others q.1)
    (either_some (bytes_eq command text) here rest verb read)

-- this word's verb, or the next
next_named : (command text container : List ℕ) (verb here : Verb) (rest : Option Verb) → (command ≡ text → IsVerb (command ∷ container ∷ []) here)
    → (rest ≡ Some verb → IsVerb (command ∷ container ∷ []) verb)
    → cond (bytes_eq command text) (Some here) rest ≡ Some verb → IsVerb (command ∷ container ∷ []) verb
next_named command text container verb here rest means others read =
    next_verb command text (container ∷ []) verb (Some here) rest
    (λ is found. subst (IsVerb (command ∷ container ∷ [])) (same_Some here verb found) (means is)) others read

-- each verb that stands before the name of a container
container_means : (command container : List ℕ) (verb : Verb) → is_container container ≡ true → container_verb command container ≡ Some verb → IsVerb (command ∷ container ∷ []) verb
container_means command container verb named read =
    next_named command (codes "stat") container verb (Stat container) _ says
    (next_named command (codes "list") container verb (verbs.List container) _ says
    (next_named command (codes "mk") container verb (Make container) _ says
    (next_named command (codes "rm") container verb (Remove container) _ says
    (next_named command (codes "check") container verb (verbs.Job (Check container)) _ says (λ none. absurd (none-some verb none)))))) read
  where
    says : {text : List ℕ} → command ≡ text → (command ∷ container ∷ [] ≡ text ∷ container ∷ []) × (is_container container ≡ true)
    says is = (ap (λ c. c ∷ container ∷ []) is, named)

named_means : (command : List ℕ) (words : List (List ℕ)) (verb : Verb) → option_and_then (container_verb command) (only_container words) ≡ Some verb → IsVerb (command ∷ words) verb
named_means command [] verb read = absurd (none-some verb read)
named_means command (word ∷ more ∷ words) verb read = absurd (none-some verb read)
named_means command (word ∷ []) verb read =
    let found = then_some (container_verb command) (container_in word) verb read in
    let name = cond_some (is_container word) word found.0 found.1 in
    container_means command word verb name.0 (ap (container_verb command) name.1 ∙ found.2)

pub verb_means : (words : List (List ℕ)) (verb : Verb) → verb_in words ≡ Some verb → IsVerb words verb
verb_means [] verb read = absurd (none-some verb read)
verb_means (command ∷ words) verb read =
    next_verb command (codes "put") words verb _ _ (put_means command words verb)
    (next_verb command (codes "get") words verb _ _ (get_means command words verb)
    (next_verb command (codes "account") words verb _ _ (account_means command words verb)
    (named_means command words verb))) read
