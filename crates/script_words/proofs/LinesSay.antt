-- Lines: the grammar and the reading of words say the same.
use Rattle.std.proofs.Common.{◌≡◌, ⊎_elim, ℕ, true, false, cond, List, [], ◌∷◌, Option, Some, None, refl, sym, ap, ◌∙◌, subst, codes}
use Rattle.std.specs.Prelude.{bytes_eq}
use Rattle.std.specs.Option.{option_map, option_and_then}
use Rattle.std.proofs.lemmas.Option.{none-some, same_Some, cond_some}
use Rattle.script_words.specs.Lines.{Says, words_of, IsLine}
use Rattle.script_words.specs.Names.{is_actor_name}
use Rattle.script_words.specs.Reading.{number_in, zone_in, actor_in, verb_in, clock_in, start_in, step_in, run_in, stop_in, do_in, line_in}
use Rattle.script_words.specs.declared.line.Line.{Line}
use Rattle.script_words.specs.declared.line.Line.TheVariants.{Clock, Start, Step, Run, Stop, Do}
use Rattle.script_words.proofs.Options.{map_some, then_some, either_some, same_word}
use Rattle.script_words.proofs.WordsSay.{number_says, number_means, zone_says, zone_means, kept}
use Rattle.script_words.proofs.VerbsSay.{verb_says, verb_means}

-- ---- what is said is read

pub line_says : (zones : ℕ) (words : List (List ℕ)) (line : Line) → Says zones words line → line_in zones words ≡ Some line
line_says zones words (Clock moment) is =
    ap (line_in zones) is.1 ∙ ap (option_map (λ n. Clock n)) (number_says is.0 moment is.2)
line_says zones words (Start actor zone verb) is =
    ap (line_in zones) is.2
    ∙ ap (option_and_then (λ a. option_and_then (λ z. option_map (λ v. Start a z v) (verb_in is.1)) (zone_in zones is.0))) (kept (is_actor_name actor) actor actor is.3 refl)
    ∙ ap (option_and_then (λ z. option_map (λ v. Start actor z v) (verb_in is.1))) (zone_says zones is.0 zone is.4)
    ∙ ap (option_map (λ v. Start actor zone v)) (verb_says is.1 verb is.5)
line_says zones words (Step actor events) is =
    ap (line_in zones) is.1
    ∙ ap (option_and_then (λ a. option_map (λ n. Step a n) (number_in is.0))) (kept (is_actor_name actor) actor actor is.2 refl)
    ∙ ap (option_map (λ n. Step actor n)) (number_says is.0 events is.3)
line_says zones words (Run actor) is =
    ap (line_in zones) is.says ∙ ap (option_map (λ a. Run a)) (kept (is_actor_name actor) actor actor is.named refl)
line_says zones words (Stop actor) is =
    ap (line_in zones) is.says ∙ ap (option_map (λ a. Stop a)) (kept (is_actor_name actor) actor actor is.named refl)
line_says zones words (Do zone verb) is =
    ap (line_in zones) is.2
    ∙ ap (option_and_then (λ z. option_map (λ v. Do z v) (verb_in is.1))) (zone_says zones is.0 zone is.3)
    ∙ ap (option_map (λ v. Do zone v)) (verb_says is.1 verb is.4)

-- ---- what is read is said

actor_means : (word actor : List ℕ) → actor_in word ≡ Some actor → (is_actor_name word ≡ true) × (word ≡ actor)
actor_means word actor read = cond_some (is_actor_name word) word actor read

clock_means : (zones : ℕ) (command : List ℕ) (words : List (List ℕ)) (line : Line) → command ≡ codes "clock" → clock_in words ≡ Some line → Says zones (command ∷ words) line
clock_means zones command [] line is read = absurd (none-some line read)
clock_means zones command (number ∷ more ∷ words) line is read = absurd (none-some line read)
clock_means zones command (number ∷ []) line is read =
    let first = map_some (λ n. Clock n) (number_in number) line read in
    subst (Says zones (command ∷ number ∷ [])) first.2 (number, ap (λ c. c ∷ number ∷ []) is, number_means number first.0 first.1)

start_means : (zones : ℕ) (command : List ℕ) (words : List (List ℕ)) (line : Line) → command ≡ codes "start" → start_in zones words ≡ Some line → Says zones (command ∷ words) line
start_means zones command [] line is read = absurd (none-some line read)
start_means zones command (word ∷ []) line is read = absurd (none-some line read)
start_means zones command (word ∷ digit ∷ words) line is read =
    let first = then_some (λ a. option_and_then (λ z. option_map (λ v. Start a z v) (verb_in words)) (zone_in zones digit)) (actor_in word) line read in
    let second = then_some (λ z. option_map (λ v. Start first.0 z v) (verb_in words)) (zone_in zones digit) line first.2 in
    let third = map_some (λ v. Start first.0 second.0 v) (verb_in words) line second.2 in
    let actor = actor_means word first.0 first.1 in
    subst (Says zones (command ∷ word ∷ digit ∷ words)) (ap (λ a. Start a second.0 third.0) actor.1 ∙ third.2)
    (digit, words, ap (λ c. c ∷ word ∷ digit ∷ words) is, actor.0, zone_means zones digit second.0 second.1, verb_means words third.0 third.1)

step_means : (zones : ℕ) (command : List ℕ) (words : List (List ℕ)) (line : Line) → command ≡ codes "step" → step_in words ≡ Some line → Says zones (command ∷ words) line
step_means zones command [] line is read = absurd (none-some line read)
step_means zones command (word ∷ []) line is read = absurd (none-some line read)
step_means zones command (word ∷ number ∷ more ∷ words) line is read = absurd (none-some line read)
step_means zones command (word ∷ number ∷ []) line is read =
    let first = then_some (λ a. option_map (λ n. Step a n) (number_in number)) (actor_in word) line read in
    let second = map_some (λ n. Step first.0 n) (number_in number) line first.2 in
    let actor = actor_means word first.0 first.1 in
    subst (Says zones (command ∷ word ∷ number ∷ [])) (ap (λ a. Step a second.0) actor.1 ∙ second.2)
    (number, ap (λ c. c ∷ word ∷ number ∷ []) is, actor.0, number_means number second.0 second.1)

run_means : (zones : ℕ) (command : List ℕ) (words : List (List ℕ)) (line : Line) → command ≡ codes "run" → run_in words ≡ Some line → Says zones (command ∷ words) line
run_means zones command [] line is read = absurd (none-some line read)
run_means zones command (word ∷ more ∷ words) line is read = absurd (none-some line read)
run_means zones command (word ∷ []) line is read =
    let first = map_some (λ a. Run a) (actor_in word) line read in
    let actor = actor_means word first.0 first.1 in
    subst (Says zones (command ∷ word ∷ [])) (ap (λ a. Run a) actor.1 ∙ first.2) (record { says = ap (λ c. c ∷ word ∷ []) is; named = actor.0 })

stop_means : (zones : ℕ) (command : List ℕ) (words : List (List ℕ)) (line : Line) → command ≡ codes "stop" → stop_in words ≡ Some line → Says zones (command ∷ words) line
stop_means zones command [] line is read = absurd (none-some line read)
stop_means zones command (word ∷ more ∷ words) line is read = absurd (none-some line read)
stop_means zones command (word ∷ []) line is read =
    let first = map_some (λ a. Stop a) (actor_in word) line read in
    let actor = actor_means word first.0 first.1 in
    subst (Says zones (command ∷ word ∷ [])) (ap (λ a. Stop a) actor.1 ∙ first.2) (record { says = ap (λ c. c ∷ word ∷ []) is; named = actor.0 })

do_means : (zones : ℕ) (command : List ℕ) (words : List (List ℕ)) (line : Line) → command ≡ codes "do" → do_in zones words ≡ Some line → Says zones (command ∷ words) line
do_means zones command [] line is read = absurd (none-some line read)
do_means zones command (digit ∷ words) line is read =
    let first = then_some (λ z. option_map (λ v. Do z v) (verb_in words)) (zone_in zones digit) line read in
    let second = map_some (λ v. Do first.0 v) (verb_in words) line first.2 in
    subst (Says zones (command ∷ digit ∷ words)) second.2
    (digit, words, ap (λ c. c ∷ digit ∷ words) is, zone_means zones digit first.0 first.1, verb_means words second.0 second.1)

-- one of the commands, or the next
next_command : (zones : ℕ) (command text : List ℕ) (words : List (List ℕ)) (line : Line) (here rest : Option Line)
    → (command ≡ text → here ≡ Some line → Says zones (command ∷ words) line)
    → (rest ≡ Some line → Says zones (command ∷ words) line)
    → cond (bytes_eq command text) here rest ≡ Some line → Says zones (command ∷ words) line
next_command zones command text words line here rest means others read = ⊎_elim
    (λ (p : (bytes_eq command text ≡ true) × (here ≡ Some line)). means (same_word command text p.0) p.1)
    (λ (q : (bytes_eq command text ≡ false) × (rest ≡ Some line)). others q.1)
    (either_some (bytes_eq command text) here rest line read)

pub line_means : (zones : ℕ) (words : List (List ℕ)) (line : Line) → line_in zones words ≡ Some line → Says zones words line
line_means zones [] line read = absurd (none-some line read)
line_means zones (command ∷ words) line read =
    next_command zones command (codes "clock") words line _ _ (clock_means zones command words line)
    (next_command zones command (codes "start") words line _ _ (start_means zones command words line)
    (next_command zones command (codes "step") words line _ _ (step_means zones command words line)
    (next_command zones command (codes "run") words line _ _ (run_means zones command words line)
    (next_command zones command (codes "stop") words line _ _ (stop_means zones command words line)
    (next_command zones command (codes "do") words line _ _ (do_means zones command words line) (λ none. absurd (none-some line none))))))) read

-- ---- a text means one line at most

pub one_meaning : (zones : ℕ) (bytes : List ℕ) (a b : Line) → IsLine zones bytes a → IsLine zones bytes b → a ≡ b
one_meaning zones bytes a b first second =
    same_Some a b (sym (line_says zones (words_of bytes) a first) ∙ line_says zones (words_of bytes) b second)

-- words that are not read mean no line
pub no_meaning : (zones : ℕ) (bytes : List ℕ) → line_in zones (words_of bytes) ≡ None → (line : Line) → ¬ (IsLine zones bytes line)
no_meaning zones bytes none line is = none-some line (sym none ∙ line_says zones (words_of bytes) line is)
