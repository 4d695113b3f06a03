-- Words ask for one command alone: to serve a connection, to run a script, or for a server. Without users they are judged
-- exactly.
use Rattle.std.proofs.Common.{◌≡◌, ℕ, Bool, true, false, cond, List, [], ◌∷◌, ◌&&◌, bytes_eq, codes, Option, Some, None, refl, sym, ap, ◌∙◌, subst}
use Rattle.std.proofs.lemmas.Slice.Eq.{bytes_eq-Decides}
use Rattle.std.specs.Prelude.{option_and_then, is_some}
use Rattle.std.specs.Option.{option_map}
use Rattle.rgw_words.specs.NamedUsers.{named_users}
use Rattle.rgw_words.specs.Options.{are_options}
use Rattle.rgw_words.specs.Words.{UsualWords, usual_in, usual_behind, users_text, words_with, words_behind, may_be_behind, once_of, may_ask_once, script_of, may_ask_script, serving_in, serve_of, may_ask_serve}
use Rattle.rgw_words.specs.declared.run_words.RunWords.{RunWords}
use Rattle.rgw_words.specs.declared.serve_words.ServeWords.{ServeWords}
use Rattle.rgw_words.specs.declared.serve_words.Serving.{Serving}

-- ---- words without users

just_there : (usual : Option UsualWords) → is_some (option_and_then (λ u. option_map (words_with u) (named_users None)) usual) ≡ is_some usual
just_there None = refl
just_there (Some u) = refl

pub exact_behind : (command : List ℕ) (serving : Bool) (words : List (List ℕ)) → users_text words ≡ None
    → is_some (words_behind command serving words) ≡ may_be_behind command serving words
exact_behind command serving words none =
    ap (λ text. is_some (option_and_then (λ u. option_map (words_with u) (named_users text)) (usual_behind command serving words))) none
    ∙ just_there (usual_behind command serving words)

-- what is asked of a server, by what is said of its connections and of its realm
abbrev served : Option Serving → Option RunWords → Option ServeWords
served s r = option_and_then (λ serving. option_map (λ run. record { run = run; serving = serving }) r) s

serve_there : (s : Option Serving) (r : Option RunWords) → is_some (served s r) ≡ (is_some s && is_some r)
serve_there None r = refl
serve_there (Some serving) None = refl
serve_there (Some serving) (Some run) = refl

pub exact_serve : (words : List (List ℕ)) → users_text words ≡ None → is_some (serve_of words) ≡ may_ask_serve words
exact_serve words none =
    serve_there (serving_in words) (words_behind (codes "serve") true words)
    ∙ ap (λ b. is_some (serving_in words) && b) (exact_behind (codes "serve") true words none)

-- ---- one command alone

there : (usual : Option UsualWords) (after : UsualWords → Option RunWords) (asked : RunWords) → option_and_then after usual ≡ Some asked → is_some usual ≡ true
there None after asked asks = let e : None ≡ Some asked = asks in absurd (cc)
there (Some said) after asked asks = refl

-- what is asked may be asked
pub asked_behind : (command : List ℕ) (serving : Bool) (words : List (List ℕ)) (asked : RunWords) → words_behind command serving words ≡ Some asked → may_be_behind command serving words ≡ true
asked_behind command serving words asked asks =
    there (usual_behind command serving words) (λ u. option_map (words_with u) (named_users (users_text words))) asked asks

tests_hold : (a b : Bool) (answer : Option UsualWords) → is_some (cond (a && b) answer None) ≡ true → a ≡ true
tests_hold true b answer some = refl
tests_hold false b answer some = let e : false ≡ true = some in cc

is_behind : (command word : List ℕ) (serving : Bool) (options : List (List ℕ)) → may_be_behind command serving (word ∷ options) ≡ true → word ≡ command
is_behind command word serving options may =
    (bytes_eq-Decides word command).0 (tests_hold (bytes_eq word command) (are_options serving options) (usual_in options) may)

pub once_no_script : (words : List (List ℕ)) → may_ask_once words ≡ true → script_of words ≡ None
once_no_script [] may = refl
once_no_script (word ∷ options) may =
    subst (λ w. script_of (w ∷ options) ≡ None) (sym (is_behind (codes "once") word false options may)) refl

pub script_not_once : (words : List (List ℕ)) → may_ask_script words ≡ true → once_of words ≡ None
script_not_once [] may = refl
script_not_once (word ∷ options) may =
    subst (λ w. once_of (w ∷ options) ≡ None) (sym (is_behind (codes "script") word false options may)) refl

no_run : (s : Option Serving) → served s None ≡ None
no_run None = refl
no_run (Some serving) = refl

pub once_not_serve : (words : List (List ℕ)) → may_ask_once words ≡ true → serve_of words ≡ None
once_not_serve [] may = refl
once_not_serve (word ∷ options) may =
    subst (λ w. serve_of (w ∷ options) ≡ None) (sym (is_behind (codes "once") word false options may)) (no_run (serving_in (codes "once" ∷ options)))

pub script_not_serve : (words : List (List ℕ)) → may_ask_script words ≡ true → serve_of words ≡ None
script_not_serve [] may = refl
script_not_serve (word ∷ options) may =
    subst (λ w. serve_of (w ∷ options) ≡ None) (sym (is_behind (codes "script") word false options may)) (no_run (serving_in (codes "script" ∷ options)))

pub no_script : (words : List (List ℕ)) (asked : RunWords) → once_of words ≡ Some asked → script_of words ≡ None
no_script words asked asks = once_no_script words (asked_behind (codes "once") false words asked asks)

-- ---- words that ask for a server

right : (a b : Bool) → (a && b) ≡ true → b ≡ true
right true b both = both
right false b both = absurd (cc)

pub serve_not_once : (words : List (List ℕ)) → may_ask_serve words ≡ true → once_of words ≡ None
serve_not_once [] may = refl
serve_not_once (word ∷ options) may =
    subst (λ w. once_of (w ∷ options) ≡ None) (sym (is_behind (codes "serve") word true options (right _ _ may))) refl

pub serve_no_script : (words : List (List ℕ)) → may_ask_serve words ≡ true → script_of words ≡ None
serve_no_script [] may = refl
serve_no_script (word ∷ options) may =
    subst (λ w. script_of (w ∷ options) ≡ None) (sym (is_behind (codes "serve") word true options (right _ _ may))) refl

both_there : (s : Option Serving) (r : Option RunWords) (asked : ServeWords)
    → served s r ≡ Some asked → (is_some s ≡ true) × ((run : RunWords) × (r ≡ Some run))
both_there None r asked asks = let e : None ≡ Some asked = asks in absurd (cc)
both_there (Some serving) None asked asks = let e : None ≡ Some asked = asks in absurd (cc)
both_there (Some serving) (Some run) asked asks = (refl, (run, refl))

pub asked_serve : (words : List (List ℕ)) (asked : ServeWords) → serve_of words ≡ Some asked → may_ask_serve words ≡ true
asked_serve words asked asks =
    let parts = both_there (serving_in words) (words_behind (codes "serve") true words) asked asks in
    both _ _ parts.0 (asked_behind (codes "serve") true words parts.1.0 parts.1.1)
  where
    both : (a b : Bool) → a ≡ true → b ≡ true → (a && b) ≡ true
    both true b first second = second
    both false b first second = absurd (cc)

pub not_once : (words : List (List ℕ)) (asked : ServeWords) → serve_of words ≡ Some asked → once_of words ≡ None
not_once words asked asks = serve_not_once words (asked_serve words asked asks)

pub not_script : (words : List (List ℕ)) (asked : ServeWords) → serve_of words ≡ Some asked → script_of words ≡ None
not_script words asked asks = serve_no_script words (asked_serve words asked asks)
