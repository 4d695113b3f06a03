-- What a run of a script comes to: a new realm, and the lines of the input played over it.
use Rattle.std.specs.Prelude.{◌≡◌, ◌⊎◌, ℕ, List, Option, Some, None, unwrap_or, Result, Ok, Err}
use Rattle.gw_io.specs.Ends.{EndsState}
use Rattle.realm_core.specs.Realms.{RealmView}
use Rattle.realm_model.specs.Histories.{Legal}
use Rattle.realm_model.specs.declared.event.Event.{Event}
use Rattle.rgw_script.specs.Runs.{RunsScript, HasScriptCause}
use Rattle.rgw_script.specs.declared.fault.ScriptFault.{ScriptFault}
use Rattle.rgw_script.specs.declared.fault.ScriptFault.TheVariants as Fault
use Rattle.rgw_script.specs.declared.running.ScriptPlan.{ScriptPlan}
use Rattle.rgw_words.specs.declared.run_words.RunWords.{RunWords}

-- what the script is run on: its clock begins at 0 where the words say no moment, and the first of their users asks
abbrev pub plan_of : RunWords → ScriptPlan
plan_of script = record { bucket = script.bucket; moment = unwrap_or script.now 0; users = script.users }

abbrev pub script_status : Result (Unit {0}) ScriptFault → ℕ
script_status (Ok done) = 0
script_status (Err Fault.ReadFault) = 2
script_status (Err Fault.WriteFault) = 3
script_status (Err Fault.OutOfMemory) = 4
script_status (Err (Fault.BadLine line)) = 5
script_status (Err Fault.Worn) = 7

-- memory was wanting before there was a realm, and nothing was read or written
pub record IsUnmade (old new : EndsState) (realm : Option RealmView) (status : ℕ) : Type 0 where
  pub none : realm ≡ None
  pub same : new ≡ old
  pub memory : status ≡ 4

-- the script was run over a new realm, which is left with a legal history that bears it out; the clock has no part in it
pub record HasRun (script : RunWords) (old new : EndsState) (realm : Option RealmView) (status : ℕ) : Type 0 where
  pub history : List Event
  pub left : realm ≡ Some (record { settings = script.settings; history = history })
  pub legal : Legal script.settings history
  pub result : Result (Unit {0}) ScriptFault
  pub runs : RunsScript script.settings (plan_of script) old.left new.left old.taken new.taken history result
  pub cause : HasScriptCause old.read_faults new.read_faults old.write_faults new.write_faults result
  pub ended : status ≡ script_status result
  pub told : new.told ≡ old.told
  pub plan : new.plan ≡ old.plan

abbrev pub RunsScripted : RunWords → EndsState → EndsState → Option RealmView → ℕ → Type 0
RunsScripted script old new realm status = IsUnmade old new realm status ⊎ HasRun script old new realm status
