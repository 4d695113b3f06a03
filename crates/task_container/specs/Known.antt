-- Words for the known requests for containers.
use Rattle.std.specs.Prelude.{codes, ℕ, List, [], None}
use Rattle.realm_model.specs.KnownWords.{usual}
use Rattle.realm_model.specs.Owns.{OwnEvent}
use Rattle.realm_model.specs.Settings.{SettingsView}
use Rattle.task_container.specs.declared.outcome.ContainerOutcome.{ContainerOutcome}
use Rattle.task_container.specs.declared.request.ContainerCommand.{ContainerCommand}
use Rattle.task_container.specs.declared.request.ContainerCommand.TheVariants.{Put, Delete}
use Rattle.task_container.specs.declared.request.ContainerRequest.{ContainerRequest}
use Rattle.task_container.specs.Orders.{IsContainerSoFar, IsEndedBy}

-- a new container has so many shards
abbrev pub with_shards : ℕ → SettingsView
with_shards n = record usual { shards = n }

-- a request of the account acme in zone 1
abbrev pub asked : ContainerCommand → ContainerRequest
asked command = record { zone = 1; asker = record { account = codes "acme"; user = None }; command = command }

-- to make it, with nothing sent
abbrev pub to_make : List ℕ → ContainerRequest
to_make name = asked (Put name (record { meta = []; readers = None; writers = None }))

abbrev pub to_remove : List ℕ → ContainerRequest
to_remove name = asked (Delete name)

-- the own events are the request's, in order, and end it so
abbrev pub Plays : ContainerRequest → ℕ → ContainerOutcome → List OwnEvent → Type 0
Plays r shards outcome events = IsContainerSoFar r (with_shards shards) events × IsEndedBy r (with_shards shards) outcome events
