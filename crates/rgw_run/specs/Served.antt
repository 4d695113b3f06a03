-- What any run of the program comes to, a server's among them.
use Rattle.std.specs.Prelude.{◌≡◌, ◌⊎◌, ℕ, Bool, true, List, Option, None, IfSome}
use Rattle.gw_io.specs.Ends.{EndsState}
use Rattle.realm_core.specs.Realms.{RealmView}
use Rattle.rgw_server.specs.Ends.{EndsServing}
use Rattle.rgw_server.specs.declared.accepting.ServeEnd.{ServeEnd}
use Rattle.rgw_server.specs.declared.accepting.ServeEnd.TheVariants.{Ended, OutOfMemory, Failed}
use Rattle.rgw_words.specs.declared.run_words.RunWords.{RunWords}
use Rattle.rgw_words.specs.declared.serve_words.Serving.{Serving}
use Rattle.rgw_words.specs.declared.serve_words.ServeWords.{ServeWords}
use Rattle.rgw_run.specs.Runs.{RunsAlone}

-- how often a net has failed, and what it tells of the ports that were taken back
pub record NetState : Type 0 where
  pub faults : ℕ
  pub closed : Option (List ℕ)

abbrev pub net_of : ℕ → Option (List ℕ) → NetState
net_of faults closed = record { faults = faults; closed = closed }

abbrev pub serve_status : ServeEnd → ℕ
serve_status Ended = 0
serve_status OutOfMemory = 4
serve_status Failed = 6

-- A server ended so: 0 only where its port was taken back without a fault, and had given as many connections as were wanted or
-- was shut; 6 only where the net's count of faults rose.
pub record HasServed (serving : Serving) (old new : NetState) (status : ℕ) : Type 0 where
  pub end : ServeEnd
  pub ends : EndsServing serving.port serving.accepts old.faults new.faults old.closed new.closed end
  pub ended : status ≡ serve_status end

-- memory was wanting before the port was opened
pub record IsUnserved (old new : NetState) (status : ℕ) : Type 0 where
  pub same : new ≡ old
  pub memory : status ≡ 4

-- what a run comes to whose words ask for a server; it leaves no realm
pub record RunsServer (asked : ServeWords) (old new : NetState) (realm : Option RealmView) (status : ℕ) : Type 0 where
  pub served : IsUnserved old new status ⊎ HasServed asked.serving old new status
  pub none : realm ≡ None

-- What a run with such words comes to, which ask to serve one connection, to run a script, to serve those of a port, or nothing
-- of these, and are refused then; but memory may be wanting to read the text of their users.
pub record Runs (once : Option RunWords) (script : Option RunWords) (may_ask : Bool) (serve : Option ServeWords) (old new : EndsState) (net later : NetState) (realm : Option RealmView) (status : ℕ) : Type 0 where
  pub refused : status ≡ 1 → (once ≡ None) × (script ≡ None) × (serve ≡ None)
  pub nothing : once ≡ None → script ≡ None → serve ≡ None → (status ≡ 1) ⊎ ((status ≡ 4) × (may_ask ≡ true))
  pub alone : serve ≡ None → RunsAlone once script may_ask old new realm status
  pub server : IfSome serve (λ asked. RunsServer asked net later realm status)
