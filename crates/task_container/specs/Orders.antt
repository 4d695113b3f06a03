-- The order of the own events of a request for a container.
use Rattle.std.specs.Prelude.{◌≡◌, ℕ, List, [], ◌∷◌}
use Rattle.realm_model.specs.Owns.{OwnEvent}
use Rattle.realm_model.specs.Settings.{SettingsView}
use Rattle.task_container.specs.declared.outcome.ContainerOutcome.{ContainerOutcome}
use Rattle.task_container.specs.declared.progress.Progress.{Progress}
use Rattle.task_container.specs.declared.progress.Stage.TheVariants.{Ended}
use Rattle.task_container.specs.declared.request.ContainerRequest.{ContainerRequest}
use Rattle.task_container.specs.Stages.{IsOpen, begun, op_of, step_of}

-- where answers bring a request, one after another
abbrev pub led : ContainerRequest → ℕ → Progress → List OwnEvent → Progress
led r shards s [] = s
led r shards s (e ∷ es) = led r shards (step_of r shards s e.number e.reply) es

-- each event is of the operation that came next
abbrev pub IsInOrder : ContainerRequest → ℕ → Progress → List OwnEvent → Type 0
IsInOrder r shards s [] = Unit {0}
IsInOrder r shards s (e ∷ es) =
    IsOpen s.stage × (e.op ≡ op_of r shards s) × IsInOrder r shards (step_of r shards s e.number e.reply) es

-- the own events are those of this request so far, in order, and no other
abbrev pub IsContainerSoFar : ContainerRequest → SettingsView → List OwnEvent → Type 0
IsContainerSoFar r settings events = IsInOrder r settings.shards begun events

-- they end it so
abbrev pub IsEndedBy : ContainerRequest → SettingsView → ContainerOutcome → List OwnEvent → Type 0
IsEndedBy r settings outcome events = (led r settings.shards begun events).stage ≡ Ended outcome
