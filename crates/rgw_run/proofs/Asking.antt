-- What words ask of a run, and runs whose words were not read for want of memory.
use Rattle.std.proofs.Common.{◌≡◌, ℕ, Bool, true, false, List, Option, Some, None, refl}
use Rattle.std.specs.Prelude.{◌||◌, codes}
use Rattle.gw_io.specs.Ends.{EndsState}
use Rattle.realm_core.specs.Realms.{RealmView}
use Rattle.rgw_words.specs.declared.run_words.RunWords.{RunWords}
use Rattle.rgw_words.specs.declared.serve_words.ServeWords.{ServeWords}
use Rattle.rgw_words.specs.Words.{once_of, may_ask_once, script_of, may_ask_script, serve_of, may_ask_serve, may_ask}
use Rattle.rgw_words.proofs.Apart.{asked_behind, asked_serve, once_no_script, serve_not_once, serve_no_script}
use Rattle.rgw_run.proofs.Ending.{unread}
use Rattle.rgw_run.specs.Runs.{RunsAlone}

-- ---- one command alone

pub no_script : (words : List (List ℕ)) (asked : RunWords) → once_of words ≡ Some asked → script_of words ≡ None
no_script words asked is = once_no_script words (asked_behind (codes "once") false words asked is)

pub not_once : (words : List (List ℕ)) (asked : ServeWords) → serve_of words ≡ Some asked → once_of words ≡ None
not_once words asked is = serve_not_once words (asked_serve words asked is)

pub not_script : (words : List (List ℕ)) (asked : ServeWords) → serve_of words ≡ Some asked → script_of words ≡ None
not_script words asked is = serve_no_script words (asked_serve words asked is)

-- ---- what may be asked

either_first : (a b c : Bool) → a ≡ true → (a || (b || c)) ≡ true
either_first true b c is = refl
either_first false b c is = let e : false ≡ true = is in cc

either_second : (a b c : Bool) → b ≡ true → (a || (b || c)) ≡ true
either_second true b c is = refl
either_second false true c is = refl
either_second false false c is = let e : false ≡ true = is in cc

either_third : (a b c : Bool) → c ≡ true → (a || (b || c)) ≡ true
either_third true b c is = refl
either_third false true c is = refl
either_third false false true is = refl
either_third false false false is = let e : false ≡ true = is in cc

pub serve_may : (words : List (List ℕ)) → may_ask_serve words ≡ true → may_ask words ≡ true
serve_may words may = either_first (may_ask_serve words) (may_ask_once words) (may_ask_script words) may

pub once_may : (words : List (List ℕ)) → may_ask_once words ≡ true → may_ask words ≡ true
once_may words may = either_second (may_ask_serve words) (may_ask_once words) (may_ask_script words) may

pub script_may : (words : List (List ℕ)) → may_ask_script words ≡ true → may_ask words ≡ true
script_may words may = either_third (may_ask_serve words) (may_ask_once words) (may_ask_script words) may

-- ---- words that were not read

pub unread_once : (words : List (List ℕ)) (ends : EndsState) (realm : Option RealmView) → realm ≡ None → may_ask_once words ≡ true → RunsAlone (once_of words) (script_of words) (may_ask words) ends ends realm 4
unread_once words ends realm none may = unread (once_of words) (script_of words) (may_ask words) ends realm none (once_may words may)

pub unread_script : (words : List (List ℕ)) (ends : EndsState) (realm : Option RealmView) → realm ≡ None → may_ask_script words ≡ true → RunsAlone (once_of words) (script_of words) (may_ask words) ends ends realm 4
unread_script words ends realm none may = unread (once_of words) (script_of words) (may_ask words) ends realm none (script_may words may)
