-- What the lines of a script say: which words mean which line. (The script's language is own; the limits of names are those of
-- the Swift API, OpenStack Object Storage API v1, with own numbers.)
use Rattle.std.specs.Prelude.{◌≡◌, ◌≢◌, ◌⊎◌, ℕ, ◌+◌, ◌^◌, ◌≤◌, ◌==◌, ◌&&◌, ◌||◌, not, true, nat_lt, nat_le, List, [], ◌∷◌, ◌++◌, length, slice_index, codes, Bool}
use Rattle.std.specs.List.{list_all, slice_split}
use Rattle.std.specs.Char.{is_ascii_digit}
use Rattle.std.specs.Str.{is_utf8}
use Rattle.std.specs.Str.Parse.{digits_value}
use Rattle.task_words.specs.declared.job.Job.{Job}
use Rattle.task_words.specs.declared.job.Job.TheVariants.{Check}
use Rattle.object_words.specs.Limits.{is_name}
use Rattle.script_words.specs.Names.{is_actor_name}
use Rattle.script_words.specs.declared.line.Line.{Line}
use Rattle.script_words.specs.declared.line.Line.TheVariants.{Clock, Start, Step, Run, Stop, Do}
use Rattle.script_words.specs.declared.line.ScriptBody.{ScriptBody}
use Rattle.script_words.specs.declared.line.ScriptBody.TheVariants.{Word, Times}
use Rattle.script_words.specs.declared.line.Verb.{Verb}
use Rattle.script_words.specs.declared.line.Verb.TheVariants.{Put, Get, Stat, Make, Remove, Account}
use Rattle.script_words.specs.declared.line.Verb.TheVariants as verbs

-- ---- words

-- a space or a tab
abbrev pub is_blank : ℕ → Bool
is_blank b = (b == 32) || (b == 9)

-- the words of a line, which one blank parts; two blanks in a row have an empty word between them
abbrev pub words_of : List ℕ → List (List ℕ)
words_of line = slice_split is_blank line

-- ---- numbers and zones

-- 1 to 20 decimal digits, zeros in front among them, of a number that 64 bits hold
abbrev pub is_number : List ℕ → Bool
is_number word =
    nat_lt 0 (length word) && (nat_le (length word) 20
    && (list_all is_ascii_digit word && nat_lt (digits_value 10 word) (2 ^ 64)))

pub record IsNumber (word : List ℕ) (n : ℕ) : Type 0 where
  pub digits : is_number word ≡ true
  pub value : n ≡ digits_value 10 word

-- one digit that is the number of a zone among so many, from 1
pub record IsZone (zones : ℕ) (word : List ℕ) (zone : ℕ) : Type 0 where
  pub digit : word ≡ (48 + zone) ∷ []
  pub least : 1 ≤ zone
  pub most : zone ≤ 9
  pub there : zone ≤ zones

-- ---- names

-- a text of at most so many bytes that may be a name
abbrev pub is_text : ℕ → List ℕ → Bool
is_text most word = is_name most word && is_utf8 word

abbrev pub is_slash : ℕ → Bool
is_slash b = b == 47

-- the name of a container in a script has no slash
abbrev pub is_container : List ℕ → Bool
is_container word = list_all (λ b. not (is_slash b)) word && is_text 256 word

-- a container and an object, with a slash between them; so the first slash parts them
pub record IsPath (word container name : List ℕ) : Type 0 where
  pub parted : word ≡ container ++ 47 ∷ name
  pub first : is_container container ≡ true
  pub second : is_text 1024 name ≡ true

-- ---- bodies

-- the most letters that `*N` may ask for
abbrev pub most_letters : ℕ
most_letters = 5368709120

-- a body that stands for itself: not empty, no `-` alone, and no `*` in front
pub record IsPlain (word : List ℕ) : Type 0 where
  pub some : word ≢ []
  pub no_dash : word ≢ codes "-"
  pub no_star : slice_index word 0 ≢ 42

abbrev pub IsBody : List ℕ → ScriptBody → Type 0
IsBody word (Word bytes) = ((word ≡ codes "-") × (bytes ≡ [])) ⊎ (IsPlain word × (bytes ≡ word))
IsBody word (Times n) = (digits : List ℕ) × (word ≡ 42 ∷ digits) × IsNumber digits n × (n ≤ most_letters)

-- ---- lines

-- a job of an administrator, by its words
abbrev pub IsJob : List (List ℕ) → Job → Type 0
IsJob words (Check container) = (words ≡ codes "check" ∷ container ∷ []) × (is_container container ≡ true)

-- what an actor does, by its words
abbrev pub IsVerb : List (List ℕ) → Verb → Type 0
IsVerb words (Put container name body) =
    (path : List ℕ) × (word : List ℕ) × (words ≡ codes "put" ∷ path ∷ word ∷ []) × IsPath path container name × IsBody word body
IsVerb words (Get container name) = (path : List ℕ) × (words ≡ codes "get" ∷ path ∷ []) × IsPath path container name
IsVerb words (Stat container) = (words ≡ codes "stat" ∷ container ∷ []) × (is_container container ≡ true)
IsVerb words (verbs.List container) = (words ≡ codes "list" ∷ container ∷ []) × (is_container container ≡ true)
IsVerb words (Make container) = (words ≡ codes "mk" ∷ container ∷ []) × (is_container container ≡ true)
IsVerb words (Remove container) = (words ≡ codes "rm" ∷ container ∷ []) × (is_container container ≡ true)
IsVerb words Account = words ≡ codes "account" ∷ []
IsVerb words (verbs.Job job) = IsJob words job

-- the words are an actor behind this command, and nothing more
pub record IsOfActor (command : List ℕ) (words : List (List ℕ)) (actor : List ℕ) : Type 0 where
  pub says : words ≡ command ∷ actor ∷ []
  pub named : is_actor_name actor ≡ true

-- what a line asks, by its words, in a realm of so many zones
abbrev pub Says : ℕ → List (List ℕ) → Line → Type 0
Says zones words (Clock moment) = (number : List ℕ) × (words ≡ codes "clock" ∷ number ∷ []) × IsNumber number moment
Says zones words (Start actor zone verb) =
    (digit : List ℕ) × (rest : List (List ℕ)) × (words ≡ codes "start" ∷ actor ∷ digit ∷ rest)
    × (is_actor_name actor ≡ true) × IsZone zones digit zone × IsVerb rest verb
Says zones words (Step actor events) =
    (number : List ℕ) × (words ≡ codes "step" ∷ actor ∷ number ∷ []) × (is_actor_name actor ≡ true) × IsNumber number events
Says zones words (Run actor) = IsOfActor (codes "run") words actor
Says zones words (Stop actor) = IsOfActor (codes "stop") words actor
Says zones words (Do zone verb) =
    (digit : List ℕ) × (rest : List (List ℕ)) × (words ≡ codes "do" ∷ digit ∷ rest) × IsZone zones digit zone × IsVerb rest verb

-- what a line asks
abbrev pub IsLine : ℕ → List ℕ → Line → Type 0
IsLine zones bytes line = Says zones (words_of bytes) line
