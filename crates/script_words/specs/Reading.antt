-- The grammar of lines as a function, word by word: what the parts of a line read.
use Rattle.std.specs.Prelude.{◌≡◌, ℕ, ◌+◌, ◌-◌, ◌==◌, ◌&&◌, nat_le, List, [], ◌∷◌, take, drop, Option, Some, None, Result, Ok, Err, ⊤, if◌then◌else◌, bytes_eq, codes}
use Rattle.std.specs.Option.{option_map, option_and_then}
use Rattle.std.specs.List.{position}
use Rattle.std.specs.Str.Parse.{digits_value}
use Rattle.task_words.specs.declared.job.Job.TheVariants.{Check}
use Rattle.script_words.specs.Lines.{is_number, is_text, is_slash, is_container, most_letters}
use Rattle.script_words.specs.Names.{is_actor_name}
use Rattle.script_words.specs.declared.line.Line.{Line}
use Rattle.script_words.specs.declared.line.Line.TheVariants.{Clock, Start, Step, Run, Stop, Do}
use Rattle.script_words.specs.declared.line.ScriptBody.{ScriptBody}
use Rattle.script_words.specs.declared.line.ScriptBody.TheVariants.{Word, Times}
use Rattle.script_words.specs.declared.line.Verb.{Verb}
use Rattle.script_words.specs.declared.line.Verb.TheVariants.{Put, Get, Stat, Make, Remove, Account}
use Rattle.script_words.specs.declared.line.Verb.TheVariants as verbs
use Rattle.script_words.specs.declared.no_line.NoLine.{NoLine}
use Rattle.script_words.specs.declared.no_line.NoLine.TheVariants.{Bad, OutOfMemory}
use Rattle.script_words.specs.declared.verbs.Path.{Path}

-- what is read is what is said; want of memory may come at any place
abbrev pub Reads : {X : Type 0} → Result X NoLine → Option X → Type 0
Reads (Ok value) said = said ≡ Some value
Reads (Err Bad) said = said ≡ None
Reads (Err OutOfMemory) said = ⊤

-- ---- words

abbrev pub number_in : List ℕ → Option ℕ
number_in word = if is_number word then Some (digits_value 10 word) else None

-- the digits 1 to 9, up to the number of zones
abbrev pub zone_in : ℕ → List ℕ → Option ℕ
zone_in zones (digit ∷ []) =
    if nat_le 49 digit && (nat_le digit 57 && nat_le (digit - 48) zones) then Some (digit - 48) else None
zone_in zones word = None

abbrev pub actor_in : List ℕ → Option (List ℕ)
actor_in word = if is_actor_name word then Some word else None

abbrev pub name_in : ℕ → List ℕ → Option (List ℕ)
name_in most word = if is_text most word then Some word else None

abbrev pub container_in : List ℕ → Option (List ℕ)
container_in word = if is_container word then Some word else None

abbrev pub path_of : List ℕ → List ℕ → Option Path
path_of container name = option_and_then
    (λ c. option_map (λ n. record { container = c; name = n }) (name_in 1024 name)) (container_in container)

-- parted at the first slash
abbrev pub path_at : List ℕ → Option ℕ → Option Path
path_at word None = None
path_at word (Some at) = path_of (take at word) (drop (at + 1) word)

abbrev pub path_in : List ℕ → Option Path
path_in word = path_at word (position is_slash word)

abbrev pub times_in : List ℕ → Option ScriptBody
times_in digits = option_and_then (λ n. if nat_le n most_letters then Some (Times n) else None) (number_in digits)

abbrev pub body_in : List ℕ → Option ScriptBody
body_in [] = None
body_in (first ∷ rest) =
    if first == 42 then times_in rest else
    (if bytes_eq (first ∷ rest) (codes "-") then Some (Word []) else Some (Word (first ∷ rest)))

-- ---- verbs

abbrev pub put_in : List (List ℕ) → Option Verb
put_in (path ∷ word ∷ []) =
    option_and_then (λ p. option_map (λ body. Put p.container p.name body) (body_in word)) (path_in path)
put_in words = None

abbrev pub get_in : List (List ℕ) → Option Verb
get_in (path ∷ []) = option_map (λ p. Get p.container p.name) (path_in path)
get_in words = None

-- one word, which names a container
abbrev pub only_container : List (List ℕ) → Option (List ℕ)
only_container (word ∷ []) = container_in word
only_container words = None

-- no word
abbrev pub account_in : List (List ℕ) → Option Verb
account_in [] = Some Account
account_in words = None

-- what is done with a container
abbrev pub container_verb : List ℕ → List ℕ → Option Verb
container_verb verb container =
    if bytes_eq verb (codes "stat") then Some (Stat container) else
    (if bytes_eq verb (codes "list") then Some (verbs.List container) else
    (if bytes_eq verb (codes "mk") then Some (Make container) else
    (if bytes_eq verb (codes "rm") then Some (Remove container) else
    (if bytes_eq verb (codes "check") then Some (verbs.Job (Check container)) else None))))

abbrev pub verb_in : List (List ℕ) → Option Verb
verb_in [] = None
verb_in (verb ∷ words) =
    if bytes_eq verb (codes "put") then put_in words else
    (if bytes_eq verb (codes "get") then get_in words else
    (if bytes_eq verb (codes "account") then account_in words else
    option_and_then (container_verb verb) (only_container words)))

-- ---- lines

abbrev pub clock_in : List (List ℕ) → Option Line
clock_in (number ∷ []) = option_map (λ moment. Clock moment) (number_in number)
clock_in words = None

abbrev pub start_in : ℕ → List (List ℕ) → Option Line
start_in zones (word ∷ digit ∷ words) = option_and_then (λ actor. option_and_then (λ zone.
    option_map (λ verb. Start actor zone verb) (verb_in words)) (zone_in zones digit)) (actor_in word)
start_in zones words = None

abbrev pub step_in : List (List ℕ) → Option Line
step_in (word ∷ number ∷ []) =
    option_and_then (λ actor. option_map (λ events. Step actor events) (number_in number)) (actor_in word)
step_in words = None

abbrev pub run_in : List (List ℕ) → Option Line
run_in (word ∷ []) = option_map (λ actor. Run actor) (actor_in word)
run_in words = None

abbrev pub stop_in : List (List ℕ) → Option Line
stop_in (word ∷ []) = option_map (λ actor. Stop actor) (actor_in word)
stop_in words = None

abbrev pub do_in : ℕ → List (List ℕ) → Option Line
do_in zones (digit ∷ words) =
    option_and_then (λ zone. option_map (λ verb. Do zone verb) (verb_in words)) (zone_in zones digit)
do_in zones words = None

abbrev pub line_in : ℕ → List (List ℕ) → Option Line
line_in zones [] = None
line_in zones (command ∷ words) =
    if bytes_eq command (codes "clock") then clock_in words else
    (if bytes_eq command (codes "start") then start_in zones words else
    (if bytes_eq command (codes "step") then step_in words else
    (if bytes_eq command (codes "run") then run_in words else
    (if bytes_eq command (codes "stop") then stop_in words else
    (if bytes_eq command (codes "do") then do_in zones words else None)))))
