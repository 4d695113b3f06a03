-- A PUT as it is run, unless a step stopped with a fault.
use Rattle.std.proofs.Common.{◌≡◌, Option, Some, None, subst}
use Rattle.turn_cell.specs.declared.machine.DoorFault.{DoorFault}
use Rattle.realm_model.specs.Doors.{DoorView}
use Rattle.realm_model.specs.Settings.{SettingsView}
use Rattle.realm_door.specs.Waiting.{UnlessFaulted}
use Rattle.realm_door.specs.declared.stepping.Stepping.{Stepping}
use Rattle.task_words.specs.declared.outcome.Outcome.{Outcome}
use Rattle.task_put.specs.declared.stage.Stage.TheVariants.{Ended}
use Rattle.task_put.specs.declared.task.PutTask.{PutTask}
use Rattle.task_put.specs.Runs.{request_of, stage_of, fault_of, fits, decided}
use Rattle.task_put.specs.Tasks.{IsPutEnd, fits as stages_fit}
use Rattle.task_put.proofs.Stepping.{settled_task, means_it}

pub lifted : (fault : Option DoorFault) (A B : Type 0) → (A → B) → UnlessFaulted fault A → UnlessFaulted fault B
lifted None A B f a = f a
lifted (Some fault) A B f a = tt

pub settled_run : (settings : SettingsView) (d : DoorView) (t : Stepping PutTask) → fits t settings d → fits (decided t) settings d
settled_run settings d t = lifted t.fault (stages_fit t.stages settings d) (stages_fit (decided t).stages settings d) (settled_task settings d t.stages)

pub stands_of : (t : Stepping PutTask) (settings : SettingsView) (d : DoorView) → fault_of t ≡ None → fits t settings d → stages_fit t.stages settings d
stands_of t settings d sound f = subst (λ o. UnlessFaulted o (stages_fit t.stages settings d)) sound f

-- what the outcome means
pub run_means : (t : Stepping PutTask) (settings : SettingsView) (d : DoorView) (outcome : Outcome) → stage_of t ≡ Ended outcome → fault_of t ≡ None → fits t settings d → IsPutEnd (request_of t) outcome settings d
run_means t settings d outcome ended sound f = means_it t.stages settings d outcome ended (stands_of t settings d sound f)
