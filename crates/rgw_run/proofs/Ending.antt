-- Runs that come to nothing, and runs at one moment.
use Rattle.std.proofs.Common.{◌≡◌, inl, inr, ◌∙◌, ℕ, Bool, true, List, [], Option, None, Some, IsSome, IfSome, unwrap_or, Result, Ok, Err, refl, sym, ap, subst, arith}
use Rattle.gw_io.specs.Ends.{EndsState}
use Rattle.gw_io.specs.Memory.{StepState, TellsOnly, moments_of, plan_of}
use Rattle.realm_core.specs.Realms.{RealmView}
use Rattle.swift_auth.specs.Users.{UserView}
use Rattle.rgw_run.specs.declared.once_end.OnceEnd.TheVariants.{Unmade, Unbegun, Ended, Stopped}
use Rattle.rgw_words.specs.declared.run_words.RunWords.{RunWords}
use Rattle.turn_cell.specs.declared.machine.DoorFault.{DoorFault}
use Rattle.turn_cell.specs.declared.machine.DoorFault.TheVariants as Door
use Rattle.realm_model.specs.Histories.{Legal}
use Rattle.realm_model.specs.Settings.{SettingsView}
use Rattle.gateway.specs.declared.serve.ConnEnd.{ConnEnd}
use Rattle.gateway.specs.declared.serve.ConnEnd.TheVariants.{Clean, Closed, Cut, Refused}
use Rattle.call_service.specs.declared.fault.ServeFault.{ServeFault}
use Rattle.call_service.specs.declared.fault.ServeFault.TheVariants as Fault
use Rattle.rgw_script.specs.Runs.{RunsScript, HasScriptCause}
use Rattle.rgw_script.specs.declared.fault.ScriptFault.{ScriptFault}
use Rattle.rgw_script.specs.declared.fault.ScriptFault.TheVariants as Script
use Rattle.rgw_run.specs.declared.once_end.OnceEnd.{OnceEnd}
use Rattle.rgw_run.specs.Scripted.{RunsScripted, script_status}
use Rattle.rgw_run.specs.Runs.{RunsByClock, with_clock, RunsAt, RunsBy, RunsOnce, RunsAlone, end_status, fault_status, door_status, status_by}

-- ---- memory was wanting before anything was done

unmade : (settings : SettingsView) (users : List UserView) (bucket : Option (List ℕ)) (ends : EndsState) (realm : Option RealmView) → realm ≡ None → RunsByClock settings users bucket ends ends realm 4
unmade settings users bucket ends realm none = record {
  end = Unmade;
  in_time = tt;
  leaves = (none, refl);
  ended = refl;
  cause = record {
    plan = refl;
    read_rose = λ e. absurd (omega (arith, e));
    read_kept = λ _. refl;
    write_rose = λ e. absurd (omega (arith, e));
    write_kept = λ _. refl;
  };
}

unmade_by : (now : Option ℕ) (settings : SettingsView) (users : List UserView) (bucket : Option (List ℕ)) (ends : EndsState) (realm : Option RealmView) → realm ≡ None → RunsBy now settings users bucket ends ends realm 4
unmade_by None settings users bucket ends realm none = unmade settings users bucket ends realm none
unmade_by (Some moment) settings users bucket ends realm none =
    record { told = []; each = λ k d few. absurd (omega (arith, few)); runs = unmade settings users bucket (with_clock ends moment []) realm none; plan = refl }

scripted_unmade : (script : Option RunWords) (ends : EndsState) (realm : Option RealmView) → realm ≡ None → IfSome script (λ asked. RunsScripted asked ends ends realm 4)
scripted_unmade None ends realm none = tt
scripted_unmade (Some script) ends realm none = inl (record { none = none; same = refl; memory = refl })

once_unmade : (once : Option RunWords) (ends : EndsState) (realm : Option RealmView) → realm ≡ None → IfSome once (λ asked. RunsOnce asked ends ends realm 4)
once_unmade None ends realm none = tt
once_unmade (Some once) ends realm none = unmade_by once.now once.settings once.users once.bucket ends realm none

-- the words were not read for want of memory
pub unread : (once : Option RunWords) (script : Option RunWords) (may_ask : Bool) (ends : EndsState) (realm : Option RealmView) → realm ≡ None → may_ask ≡ true → RunsAlone once script may_ask ends ends realm 4
unread once script may_ask ends realm none may = record {
  refused = λ e. absurd (omega (arith, e));
  neither = λ _ _. inr (refl, may);
  nothing = λ _ _. (none, refl);
  once_runs = once_unmade once ends realm none;
  script_runs = scripted_unmade script ends realm none;
}

-- ---- no status of a run is that of refused words

not_of_end : (end : ConnEnd) → end_status end ≡ 1 → ⊥
not_of_end Clean e = absurd (omega (arith, e))
not_of_end Closed e = absurd (omega (arith, e))
not_of_end Cut e = absurd (omega (arith, e))
not_of_end Refused e = absurd (omega (arith, e))

not_of_fault : (fault : ServeFault) → fault_status fault ≡ 1 → ⊥
not_of_fault Fault.OutOfMemory e = absurd (omega (arith, e))
not_of_fault Fault.ReadFault e = absurd (omega (arith, e))
not_of_fault Fault.WriteFault e = absurd (omega (arith, e))
not_of_fault Fault.Worn e = absurd (omega (arith, e))
not_of_fault (Fault.Late read_at clock) e = absurd (omega (arith, e))

not_of_door : (fault : DoorFault) → door_status fault ≡ 1 → ⊥
not_of_door Door.OutOfMemory e = absurd (omega (arith, e))
not_of_door Door.Worn e = absurd (omega (arith, e))

not_refused : (end : OnceEnd) → status_by end ≡ 1 → ⊥
not_refused Unmade e = absurd (omega (arith, e))
not_refused (Unbegun fault) e = not_of_door fault e
not_refused (Ended served) e = not_of_end served.end e
not_refused (Stopped fault) e = not_of_fault fault e

once_not_refused : (now : Option ℕ) (settings : SettingsView) (users : List UserView) (bucket : Option (List ℕ)) (old new : EndsState) (realm : Option RealmView) (status : ℕ) → RunsBy now settings users bucket old new realm status → status ≡ 1 → ⊥
once_not_refused None settings users bucket old new realm status runs e = not_refused runs.end (sym runs.ended ∙ e)
once_not_refused (Some moment) settings users bucket old new realm status runs e = not_refused runs.runs.end (sym runs.runs.ended ∙ e)

script_not_refused : (result : Result (Unit {0}) ScriptFault) → script_status result ≡ 1 → ⊥
script_not_refused (Ok done) e = absurd (omega (arith, e))
script_not_refused (Err Script.ReadFault) e = absurd (omega (arith, e))
script_not_refused (Err Script.WriteFault) e = absurd (omega (arith, e))
script_not_refused (Err Script.OutOfMemory) e = absurd (omega (arith, e))
script_not_refused (Err (Script.BadLine line)) e = absurd (omega (arith, e))
script_not_refused (Err Script.Worn) e = absurd (omega (arith, e))

scripted_not_refused : (script : RunWords) (old new : EndsState) (realm : Option RealmView) (status : ℕ) → RunsScripted script old new realm status → status ≡ 1 → ⊥
scripted_not_refused script old new realm status (inl unmade) e = let four = unmade.memory in absurd (omega (arith, e, four))
scripted_not_refused script old new realm status (inr run) e = script_not_refused run.result (sym run.ended ∙ e)

-- ---- by the words

asked_once : (asked : RunWords) (may_ask : Bool) (old new : EndsState) (realm : Option RealmView) (status : ℕ) → RunsOnce asked old new realm status → RunsAlone (Some asked) None may_ask old new realm status
asked_once asked may_ask old new realm status runs = record {
  refused = λ e. absurd (once_not_refused asked.now asked.settings asked.users asked.bucket old new realm status runs e);
  neither = λ e _. let clash : Some asked ≡ None = e in absurd (cc);
  nothing = λ e _. let clash : Some asked ≡ None = e in absurd (cc);
  once_runs = runs;
  script_runs = tt;
}

-- the words ask to serve a connection
pub runs_once : (once : Option RunWords) (script : Option RunWords) (may_ask : Bool) (asked : RunWords) (old new : EndsState) (realm : Option RealmView) (status : ℕ)
    → once ≡ Some asked → script ≡ None → RunsOnce asked old new realm status → RunsAlone once script may_ask old new realm status
runs_once once script may_ask asked old new realm status is none runs =
    subst (λ o. RunsAlone o script may_ask old new realm status) (sym is)
    (subst (λ s. RunsAlone (Some asked) s may_ask old new realm status) (sym none) (asked_once asked may_ask old new realm status runs))

asked_script : (asked : RunWords) (may_ask : Bool) (old new : EndsState) (realm : Option RealmView) (status : ℕ) → RunsScripted asked old new realm status → RunsAlone None (Some asked) may_ask old new realm status
asked_script asked may_ask old new realm status runs = record {
  refused = λ e. absurd (scripted_not_refused asked old new realm status runs e);
  neither = λ _ e. let clash : Some asked ≡ None = e in absurd (cc);
  nothing = λ _ e. let clash : Some asked ≡ None = e in absurd (cc);
  once_runs = tt;
  script_runs = runs;
}

-- the words ask to run a script
pub runs_script : (once : Option RunWords) (script : Option RunWords) (may_ask : Bool) (asked : RunWords) (old new : EndsState) (realm : Option RealmView) (status : ℕ)
    → once ≡ None → script ≡ Some asked → RunsScripted asked old new realm status → RunsAlone once script may_ask old new realm status
runs_script once script may_ask asked old new realm status none is runs =
    subst (λ o. RunsAlone o script may_ask old new realm status) (sym none)
    (subst (λ s. RunsAlone None s may_ask old new realm status) (sym is) (asked_script asked may_ask old new realm status runs))

-- a script over the realm that is left
pub has_run : (script : RunWords) (old new : EndsState) (made : RealmView) (realm : Option RealmView) (moment : ℕ) (result : Result (Unit {0}) ScriptFault) (status : ℕ)
    → moment ≡ unwrap_or script.now 0 → realm ≡ Some made → made.settings ≡ script.settings → Legal script.settings made.history
    → RunsScript script.settings (record { bucket = script.bucket; moment = moment; users = script.users }) old.left new.left old.taken new.taken made.history result
    → HasScriptCause old.read_faults new.read_faults old.write_faults new.write_faults result
    → status ≡ script_status result → new.told ≡ old.told → new.plan ≡ old.plan → RunsScripted script old new realm status
has_run script old new made realm moment result status begins left settings legal runs cause ended told plan = inr (record {
  history = made.history;
  left = left ∙ ap (λ s. Some (record { settings = s; history = made.history })) settings;
  legal = legal;
  result = result;
  runs = subst (λ m. RunsScript script.settings (record { bucket = script.bucket; moment = m; users = script.users }) old.left new.left old.taken new.taken made.history result) begins runs;
  cause = cause;
  ended = ended;
  told = told;
  plan = plan;
})

-- ---- at one moment

-- the clock that tells it each time
abbrev still : ℕ → StepState
still moment = record { first = moment; step = 0; calls = 0 }

module _ (settings : SettingsView) (users : List UserView) (bucket : Option (List ℕ)) (moment : ℕ) (old new : EndsState) where
  abbrev before : EndsState
  before = record old { told = None; plan = None }

  abbrev after : EndsState
  after = record new { told = None; plan = None }

  by_still : (later : StepState) (realm : Option RealmView) (status : ℕ) → TellsOnly (still moment) moment
      → RunsByClock settings users bucket (with_clock old moment []) (record new { told = Some (moments_of later); plan = plan_of later }) realm status
      → RunsAt settings users bucket moment before after realm status
  by_still later realm status tells runs = record {
    told = moments_of later;
    each = tells later (moments_of later) runs.cause.plan refl;
    runs = subst (λ p. RunsByClock settings users bucket (with_clock old moment []) (record new { told = Some (moments_of later); plan = p }) realm status) runs.cause.plan runs;
    plan = refl;
  }

  pub at_moment : (first later : StepState) (realm : Option RealmView) (status : ℕ) → first ≡ still moment → TellsOnly first moment
      → RunsByClock settings users bucket (record old { told = Some (moments_of first); plan = plan_of first }) (record new { told = Some (moments_of later); plan = plan_of later }) realm status
      → RunsAt settings users bucket moment before after realm status
  at_moment first later realm status is tells runs =
      by_still later realm status (subst (λ f. TellsOnly f moment) is tells)
      (subst (λ (f : StepState). RunsByClock settings users bucket (record old { told = Some (moments_of f); plan = plan_of f }) (record new { told = Some (moments_of later); plan = plan_of later }) realm status) is runs)
