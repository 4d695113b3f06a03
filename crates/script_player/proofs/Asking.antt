-- What a script asks of tasks that neither want bytes nor bring any.
use Rattle.std.proofs.Common.{[], refl, subst}
use Rattle.realm_model.specs.Settings.{SettingsView}
use Rattle.realm_model.specs.Doors.{DoorView, actor_at}
use Rattle.realm_model.specs.Histories.{account_of}
use Rattle.realm_model.specs.Owns.{own_events}
use Rattle.task_account.specs.Tasks.{IsAccountEnd}
use Rattle.task_account.specs.declared.reply.AccountOutcome.{AccountOutcome}
use Rattle.task_account.specs.declared.request.AccountRequest.{AccountRequest}
use Rattle.task_container.specs.Ends.{IsContainerEnd}
use Rattle.task_container.specs.Stages as container
use Rattle.task_container.specs.declared.outcome.ContainerOutcome.{ContainerOutcome}
use Rattle.task_container.specs.declared.request.ContainerRequest.{ContainerRequest}
use Rattle.task_container.specs.declared.progress.Stage.{Stage as ContainerStage}
use Rattle.task_container.specs.declared.progress.Stage.TheVariants as containers
use Rattle.task_list.specs.Listed.{IsListOutcome}
use Rattle.task_list.specs.declared.request.ListRequest.{ListRequest}
use Rattle.task_repair.specs.Stages as check
use Rattle.task_repair.specs.declared.stage.Stage.{Stage as CheckStage}
use Rattle.task_repair.specs.declared.stage.Stage.TheVariants as checks
use Rattle.task_words.specs.declared.outcome.Outcome.{Outcome}
use Rattle.script_player.specs.Meanings.{MeansRequest, MeansContainer, MeansAccount}
use Rattle.script_player.specs.Plays.{container_of, account_asked, list_of, IsContainer, IsAccount, IsList}

-- ---- an event comes next

pub container_open : (stage : ContainerStage) → (container.IsOver stage → ⊥) → container.IsOpen stage
container_open (containers.Ended outcome) going = absurd (going tt)
container_open stage going = tt

pub check_open : (stage : CheckStage) → (check.IsOver stage → ⊥) → check.IsOpen stage
check_open (checks.Ended outcome) going = absurd (going tt)
check_open stage going = tt

-- ---- what an end says

pub container_means : (r : ContainerRequest) (outcome : ContainerOutcome) (settings : SettingsView) (d : DoorView) → IsContainer r
    → IsContainerEnd r outcome settings (account_of settings d.seen (actor_at d)) (own_events d.seen (actor_at d))
    → MeansContainer (container_of r).zone (container_of r).asker (container_of r).verb outcome [] settings d
container_means r outcome settings d is m = record { command = r.command; asks = is; ends = m; silent = refl }

pub account_means : (r : AccountRequest) (outcome : AccountOutcome) (settings : SettingsView) (d : DoorView) → IsAccount r
    → IsAccountEnd r outcome (account_of settings d.seen (actor_at d)) (own_events d.seen (actor_at d))
    → MeansAccount (account_asked r).zone (account_asked r).asker (account_asked r).verb outcome [] settings d
account_means r outcome settings d is m =
    (subst (λ (q : AccountRequest). IsAccountEnd q outcome (account_of settings d.seen (actor_at d)) (own_events d.seen (actor_at d))) is m, refl)

pub list_means : (r : ListRequest) (outcome : Outcome) (settings : SettingsView) (d : DoorView) → IsList r
    → IsListOutcome r outcome (account_of settings d.seen (actor_at d)) (own_events d.seen (actor_at d)) → MeansRequest (list_of r).zone (list_of r).asker (list_of r).verb outcome [] settings d
list_means r outcome settings d is m =
    (subst (λ (q : ListRequest). IsListOutcome q outcome (account_of settings d.seen (actor_at d)) (own_events d.seen (actor_at d))) is m, refl)
