-- What an end says of the actor's own events.
use Rattle.std.specs.Prelude.{◌≡◌, ℕ, List, [], Option, Some}
use Rattle.task_words.specs.declared.asker.Asker.{Asker}
use Rattle.task_words.specs.declared.job.Job.TheVariants.{Check}
use Rattle.task_words.specs.declared.job.JobOutcome.{JobOutcome}
use Rattle.realm_model.specs.Settings.{SettingsView}
use Rattle.realm_model.specs.Accounts.{Decided, Account}
use Rattle.realm_model.specs.Doors.{DoorView, actor_at}
use Rattle.realm_model.specs.Histories.{account_of}
use Rattle.realm_model.specs.Owns.{own_events}
use Rattle.task_words.specs.declared.command.BodyEnd.TheVariants.{Whole}
use Rattle.task_words.specs.declared.outcome.Outcome.{Outcome}
use Rattle.task_words.specs.declared.outcome.Outcome.TheVariants.{LateRead}
use Rattle.call_words.specs.Calls.{AreShownBy}
use Rattle.task_put.specs.Tasks.{IsPutEnd}
use Rattle.task_get.specs.declared.request.GetRequest.{GetRequest}
use Rattle.task_get.specs.Gets.{IsFront, shown_at}
use Rattle.task_get.specs.Tasks.{account_at, means}
use Rattle.task_account.specs.Tasks.{IsAccountEnd}
use Rattle.task_account.specs.declared.reply.AccountOutcome.{AccountOutcome}
use Rattle.task_container.specs.Ends.{IsContainerEnd}
use Rattle.task_container.specs.declared.outcome.ContainerOutcome.{ContainerOutcome}
use Rattle.task_container.specs.declared.request.ContainerCommand.{ContainerCommand}
use Rattle.task_list.specs.Listed.{IsListOutcome}
use Rattle.task_repair.specs.Repairs.{IsRepairOutcome}
use Rattle.script_words.specs.Bodies.{body_bytes}
use Rattle.script_words.specs.declared.line.Verb.{Verb}
use Rattle.script_words.specs.declared.line.Verb.TheVariants.{Put, Get}
use Rattle.script_words.specs.declared.line.Verb.TheVariants as verbs
use Rattle.script_words.specs.declared.outcome.ActorOutcome.{ActorOutcome}
use Rattle.script_words.specs.declared.outcome.ActorOutcome.TheVariants as actors
use Rattle.script_player.specs.Requests.{put_request, get_request, container_command, container_request, list_request, account_request, check_request}

-- a front of the bytes that the bucket map shows at the event that decides
pub record AreFront (r : GetRequest) (shown : List ℕ) (last : Option Decided) : Type 0 where
  pub event : Decided
  pub is_last : last ≡ Some event
  pub front : IsFront shown (shown_at r event)

-- the bytes are those that the bucket map shows at the event that decides; a front of them where a stripe was gone, and none
-- where no object is shown
abbrev pub AreBytesOf : GetRequest → Outcome → List ℕ → Account → Type 0
AreBytesOf r (LateRead read_at clock) shown y = AreFront r shown y.decided
AreBytesOf r outcome shown y = AreShownBy r.zone r.get outcome shown y.decided

-- the outcome of a request in a zone, which this one asked for, with the bytes that it shows
abbrev pub MeansRequest : ℕ → Asker → Verb → Outcome → List ℕ → SettingsView → DoorView → Type 0
MeansRequest zone asker (Put container name body) outcome shown settings d =
    IsPutEnd (put_request zone asker container name (body_bytes body) (Some Whole)) outcome settings d × (shown ≡ [])
MeansRequest zone asker (Get container name) outcome shown settings d =
    means (get_request zone asker container name) outcome settings d
    × AreBytesOf (get_request zone asker container name) outcome shown (account_at settings d)
MeansRequest zone asker (verbs.List container) outcome shown settings d =
    IsListOutcome (list_request zone asker container) outcome (account_of settings d.seen (actor_at d)) (own_events d.seen (actor_at d))
    × (shown ≡ [])
MeansRequest zone asker verb outcome shown settings d = ⊥

-- the outcome of a request for a container in a zone, which this one asked for, and which shows no bytes
pub record MeansContainer (zone : ℕ) (asker : Asker) (verb : Verb) (outcome : ContainerOutcome) (shown : List ℕ) (settings : SettingsView) (d : DoorView) : Type 0 where
  pub command : ContainerCommand
  pub asks : container_command verb ≡ Some command
  pub ends : IsContainerEnd (container_request zone asker command) outcome settings
      (account_of settings d.seen (actor_at d)) (own_events d.seen (actor_at d))
  pub silent : shown ≡ []

-- the outcome of a request for an account in a zone, which shows no bytes
abbrev pub MeansAccount : ℕ → Asker → Verb → AccountOutcome → List ℕ → SettingsView → DoorView → Type 0
MeansAccount zone asker verbs.Account outcome shown settings d =
    IsAccountEnd (account_request zone asker.account) outcome (account_of settings d.seen (actor_at d)) (own_events d.seen (actor_at d))
    × (shown ≡ [])
MeansAccount zone asker verb outcome shown settings d = ⊥

-- the outcome of a job in a zone, which shows no bytes
abbrev pub MeansJob : ℕ → Asker → Verb → JobOutcome → List ℕ → SettingsView → DoorView → Type 0
MeansJob zone asker (verbs.Job (Check container)) outcome shown settings d =
    IsRepairOutcome (check_request zone container) outcome (account_of settings d.seen (actor_at d)) (own_events d.seen (actor_at d))
    × (shown ≡ [])
MeansJob zone asker verb outcome shown settings d = ⊥

-- the outcome of a verb in a zone, which this one asked for, with the bytes that it shows
abbrev pub Means : ℕ → Asker → Verb → ActorOutcome → List ℕ → SettingsView → DoorView → Type 0
Means zone asker verb (actors.Request outcome) shown settings d = MeansRequest zone asker verb outcome.now shown settings d
Means zone asker verb (actors.Container outcome) shown settings d = MeansContainer zone asker verb outcome.now shown settings d
Means zone asker verb (actors.Account outcome) shown settings d = MeansAccount zone asker verb outcome.now shown settings d
Means zone asker verb (actors.Job outcome) shown settings d = MeansJob zone asker verb outcome.now shown settings d
