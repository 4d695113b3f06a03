-- Runs whose words ask for a server, and others.
use Rattle.std.proofs.Common.{◌≡◌, inl, inr, ℕ, Bool, true, List, Option, None, Some, refl, sym, subst, arith}
use Rattle.gw_io.specs.Ends.{EndsState}
use Rattle.realm_core.specs.Realms.{RealmView}
use Rattle.rgw_server.specs.declared.accepting.ServeEnd.{ServeEnd}
use Rattle.rgw_server.specs.declared.accepting.ServeEnd.TheVariants.{Ended, OutOfMemory, Failed}
use Rattle.rgw_words.specs.declared.run_words.RunWords.{RunWords}
use Rattle.rgw_words.specs.declared.serve_words.ServeWords.{ServeWords}
use Rattle.rgw_words.specs.Words.{once_of, script_of, serve_of, may_ask_serve, may_ask}
use Rattle.rgw_words.proofs.Apart.{serve_not_once}
use Rattle.rgw_run.proofs.Asking.{serve_may}
use Rattle.rgw_run.proofs.Ending.{unread}
use Rattle.rgw_run.specs.Exact.{RunsExactlyIf}
use Rattle.rgw_run.specs.Runs.{RunsAlone}
use Rattle.rgw_run.specs.Served.{NetState, serve_status, HasServed, IsUnserved, RunsServer, Runs}

-- no server ends as refused words do
not_refused : (end : ServeEnd) → serve_status end ≡ 1 → ⊥
not_refused Ended is = absurd (omega (arith, is))
not_refused OutOfMemory is = absurd (omega (arith, is))
not_refused Failed is = absurd (omega (arith, is))

pub served_status : (asked : ServeWords) (net later : NetState) (realm : Option RealmView) (status : ℕ) → RunsServer asked net later realm status → status ≡ 1 → ⊥
served_status asked net later realm status runs is =
    elim runs.served [
      | inl unserved ↦ let four : status ≡ 4 = unserved.memory in omega (arith, four, is)
      | inr served ↦ not_refused served.end (subst (λ n. n ≡ 1) served.ended is)
    ]

module _ (once script : Option RunWords) (may_ask : Bool) (old new : EndsState) (net later : NetState) (realm : Option RealmView) (status : ℕ) where
  serves : (asked : ServeWords) → RunsServer asked net later realm status → Runs once script may_ask (Some asked) old new net later realm status
  serves asked runs = record {
    refused = λ is. absurd (served_status asked net later realm status runs is);
    nothing = λ _ _ none. let clash : Some asked ≡ None = none in absurd (cc);
    alone = λ none. let clash : Some asked ≡ None = none in absurd (cc);
    server = runs;
  }

  -- the words ask for a server
  pub serves_so : (serve : Option ServeWords) (asked : ServeWords) → serve ≡ Some asked → RunsServer asked net later realm status → Runs once script may_ask serve old new net later realm status
  serves_so serve asked is runs = subst (λ s. Runs once script may_ask s old new net later realm status) (sym is) (serves asked runs)

  runs_else : RunsAlone once script may_ask old new realm status → Runs once script may_ask None old new net later realm status
  runs_else runs = record {
    refused = λ is. let both = runs.refused is in (both.0, both.1, refl);
    nothing = λ no_once no_script _. runs.neither no_once no_script;
    alone = λ _. runs;
    server = tt;
  }

  -- they ask for none
  pub runs_alone_so : (serve : Option ServeWords) → serve ≡ None → RunsAlone once script may_ask old new realm status → Runs once script may_ask serve old new net later realm status
  runs_alone_so serve none runs = subst (λ s. Runs once script may_ask s old new net later realm status) (sym none) (runs_else runs)

-- the words were not read for want of memory
pub unread_server : (once script : Option RunWords) (may_ask : Bool) (serve : Option ServeWords) (ends : EndsState) (net : NetState) (realm : Option RealmView) → realm ≡ None → may_ask ≡ true
    → Runs once script may_ask serve ends ends net net realm 4
unread_server once script may_ask (Some asked) ends net realm none may =
    serves once script may_ask ends ends net net realm 4 asked (record { served = inl (record { same = refl; memory = refl }); none = none })
unread_server once script may_ask None ends net realm none may = runs_else once script may_ask ends ends net net realm 4 (unread once script may_ask ends realm none may)

pub unread_serve : (words : List (List ℕ)) (ends : EndsState) (net : NetState) (realm : Option RealmView) → realm ≡ None → may_ask_serve words ≡ true
    → Runs (once_of words) (script_of words) (may_ask words) (serve_of words) ends ends net net realm 4
unread_serve words ends net realm none may = unread_server (once_of words) (script_of words) (may_ask words) (serve_of words) ends net realm none (serve_may words may)

-- words that ask for a server say nothing of the replies of one connection
pub nothing_exact : (once : Option RunWords) (old new : EndsState) (realm : Option RealmView) (status : ℕ) → once ≡ None → RunsExactlyIf once old new realm status
nothing_exact once old new realm status none = subst (λ o. RunsExactlyIf o old new realm status) (sym none) tt

pub unread_exact : (words : List (List ℕ)) (old new : EndsState) (realm : Option RealmView) (status : ℕ) → may_ask_serve words ≡ true → RunsExactlyIf (once_of words) old new realm status
unread_exact words old new realm status may = nothing_exact (once_of words) old new realm status (serve_not_once words may)
