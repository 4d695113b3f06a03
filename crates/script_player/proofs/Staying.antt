-- A player while others make events.
use Rattle.std.proofs.Common.{◌≡◌, ℕ, List, Some, refl, sym, ap, ◌∙◌, subst}
use Rattle.realm_model.specs.Settings.{SettingsView}
use Rattle.realm_model.specs.Accounts.{Account}
use Rattle.realm_model.specs.Doors.{DoorView, IsSeen, actor_at}
use Rattle.realm_model.specs.Histories.{Doings, Legal, account_of}
use Rattle.realm_model.specs.Owns.{OwnEvent, own_events}
use Rattle.realm_door.specs.Steps.{IsSame}
use Rattle.realm_door.specs.Waiting.{Waited}
use Rattle.task_words.specs.declared.command.BodyEnd.TheVariants.{Whole}
use Rattle.task_words.specs.declared.asker.Asker.{Asker}
use Rattle.task_words.specs.declared.job.Job.TheVariants.{Check}
use Rattle.task_words.specs.declared.job.JobOutcome.{JobOutcome}
use Rattle.task_words.specs.declared.outcome.Outcome.{Outcome}
use Rattle.task_words.specs.Outcomes.{IsPutOutcome}
use Rattle.task_put.specs.Cuts.{CutBody}
use Rattle.task_put.specs.Orders.{path_of, IsFinished}
use Rattle.task_put.specs.Fits.{body_of}
use Rattle.task_put.specs.Tasks.{fits as put_fits}
use Rattle.task_put.proofs.Running.{lifted}
use Rattle.task_put.proofs.Staging.{waits as put_waits}
use Rattle.task_get.specs.Gets.{Means as GetMeans}
use Rattle.task_get.specs.Pieces.{brought}
use Rattle.task_get.specs.Tasks as get
use Rattle.task_get.specs.declared.task.GetTask.{GetTask}
use Rattle.task_get.proofs.Giving.{stays_while_waiting as get_waits}
use Rattle.task_account.specs.Tasks as account
use Rattle.task_account.specs.Tasks.{IsAccountEnd}
use Rattle.task_account.specs.declared.reply.AccountOutcome.{AccountOutcome}
use Rattle.task_account.proofs.Waiting.{waits as account_waits}
use Rattle.task_container.specs.Ends.{IsContainerEnd}
use Rattle.task_container.specs.Fits as container
use Rattle.task_container.specs.declared.outcome.ContainerOutcome.{ContainerOutcome}
use Rattle.task_container.proofs.Waiting.{waits as container_waits}
use Rattle.task_list.specs.Listed.{IsListOutcome}
use Rattle.task_list.specs.Tasks as list
use Rattle.task_list.proofs.Waiting.{waits as list_waits}
use Rattle.task_repair.specs.Repairs.{IsRepairOutcome}
use Rattle.task_repair.specs.Tasks as repair
use Rattle.task_repair.proofs.Waiting.{waits as check_waits}
use Rattle.script_words.specs.Bodies.{body_bytes}
use Rattle.script_words.specs.declared.line.Verb.{Verb}
use Rattle.script_words.specs.declared.line.Verb.TheVariants.{Put, Get}
use Rattle.script_words.specs.declared.line.Verb.TheVariants as verbs
use Rattle.script_words.specs.declared.outcome.ActorOutcome.{ActorOutcome}
use Rattle.script_words.specs.declared.outcome.ActorOutcome.TheVariants as actors
use Rattle.script_player.specs.Meanings.{AreBytesOf, MeansRequest, MeansContainer, MeansAccount, MeansJob, Means}
use Rattle.script_player.specs.Requests.{put_request, get_request, container_request, list_request, account_request, check_request}
use Rattle.script_player.specs.Plays.{FitsBy, fits}
use Rattle.script_player.specs.declared.player.Acting.{Acting}
use Rattle.script_player.specs.declared.player.Acting.TheVariants as actings
use Rattle.script_player.specs.declared.player.Player.{Player}

module _ (settings : SettingsView) (d e : DoorView) (pass : e.pass ≡ d.pass) (count : e.count ≡ d.count) (same : IsSame settings d.seen e.seen (actor_at d)) where
  actor_same : actor_at e ≡ actor_at d
  actor_same i = record { pass = pass i; count = count i }

  account_same : account_of settings e.seen (actor_at e) ≡ account_of settings d.seen (actor_at d)
  account_same = ap (account_of settings e.seen) actor_same ∙ ap (λ (o : Doings). o.account) same.doings

  events_same : own_events e.seen (actor_at e) ≡ own_events d.seen (actor_at d)
  events_same = ap (own_events e.seen) actor_same ∙ same.events

  at_both : (says : Account → List OwnEvent → Type 0) → says (account_of settings d.seen (actor_at d)) (own_events d.seen (actor_at d)) → says (account_of settings e.seen (actor_at e)) (own_events e.seen (actor_at e))
  at_both says m =
      subst (λ y. says y (own_events e.seen (actor_at e))) (sym account_same)
      (subst (says (account_of settings d.seen (actor_at d))) (sym events_same) m)

  -- what an end says, by the account and the events
  request_stays : (zone : ℕ) (asker : Asker) (verb : Verb) (outcome : Outcome) (shown : List ℕ) → MeansRequest zone asker verb outcome shown settings d → MeansRequest zone asker verb outcome shown settings e
  request_stays zone asker (Put container name body) outcome shown m =
      let r = put_request zone asker container name (body_bytes body) (Some Whole) in
      (at_both (λ y es. IsPutOutcome r.zone r.asker r.command (body_of r) outcome y es × IsFinished (path_of es) × CutBody r.zone settings.stripe r.bytes r.end es) m.0, m.1)
  request_stays zone asker (Get container name) outcome shown m =
      let r = get_request zone asker container name in
      (at_both (GetMeans r outcome) m.0, subst (AreBytesOf r outcome shown) (sym account_same) m.1)
  request_stays zone asker (verbs.List container) outcome shown m =
      (at_both (IsListOutcome (list_request zone asker container) outcome) m.0, m.1)
  request_stays zone asker verb outcome shown m = m

  container_stays : (zone : ℕ) (asker : Asker) (verb : Verb) (outcome : ContainerOutcome) (shown : List ℕ) → MeansContainer zone asker verb outcome shown settings d → MeansContainer zone asker verb outcome shown settings e
  container_stays zone asker verb outcome shown m = record {
    command = m.command;
    asks = m.asks;
    ends = at_both (IsContainerEnd (container_request zone asker m.command) outcome settings) m.ends;
    silent = m.silent;
  }

  account_stays : (zone : ℕ) (asker : Asker) (verb : Verb) (outcome : AccountOutcome) (shown : List ℕ) → MeansAccount zone asker verb outcome shown settings d → MeansAccount zone asker verb outcome shown settings e
  account_stays zone asker verbs.Account outcome shown m = (at_both (IsAccountEnd (account_request zone asker.account) outcome) m.0, m.1)
  account_stays zone asker verb outcome shown m = m

  job_stays : (zone : ℕ) (asker : Asker) (verb : Verb) (outcome : JobOutcome) (shown : List ℕ) → MeansJob zone asker verb outcome shown settings d → MeansJob zone asker verb outcome shown settings e
  job_stays zone asker (verbs.Job (Check container)) outcome shown m =
      (at_both (IsRepairOutcome (check_request zone container) outcome) m.0, m.1)
  job_stays zone asker verb outcome shown m = m

  pub means_stay : (zone : ℕ) (asker : Asker) (verb : Verb) (outcome : ActorOutcome) (shown : List ℕ) → Means zone asker verb outcome shown settings d → Means zone asker verb outcome shown settings e
  means_stay zone asker verb (actors.Request outcome) shown m = request_stays zone asker verb outcome.now shown m
  means_stay zone asker verb (actors.Container outcome) shown m = container_stays zone asker verb outcome.now shown m
  means_stay zone asker verb (actors.Account outcome) shown m = account_stays zone asker verb outcome.now shown m
  means_stay zone asker verb (actors.Job outcome) shown m = job_stays zone asker verb outcome.now shown m

  module _ (front : IsSeen d.seen e.seen) (legal : Legal settings e.seen) where
    -- whether the actor made an event does not count
    abbrev later : DoorView
    later = record { pass = e.pass; count = e.count; used = d.used; seen = e.seen }

    waited : Waited settings d later
    waited = record { pass = pass; count = count; used = refl; front = front; same = same }

    get_stays : (t : GetTask) → get.Fits t settings d → get.Fits t settings e
    get_stays t f =
        let now : get.Fits t settings later = get_waits t settings d later waited f in
        record { first_zone = now.first_zone; last_zone = now.last_zone; stage = now.stage; given = now.given; piece = now.piece }

    stays_by : (acting : Acting) → FitsBy acting settings d → FitsBy acting settings e
    stays_by (actings.Put x) f = record {
      is_put = f.is_put;
      task = lifted x.task.fault (put_fits x.task.stages settings d) (put_fits x.task.stages settings e) (put_waits x.task.stages settings d later waited legal) f.task;
    }
    stays_by (actings.Get x) f = record {
      is_get = f.is_get;
      task = lifted x.task.fault (get.Fits x.task.stages settings d) (get.Fits x.task.stages settings e) (get_stays x.task.stages) f.task;
      shown = subst (λ es. x.shown ≡ brought (get.request_of x.task.stages).get es) (sym events_same) f.shown;
    }
    stays_by (actings.Container t) f = (f.0, lifted t.fault (container.fits t.stages settings d) (container.fits t.stages settings e) (container_waits t.stages settings d later waited) f.1)
    stays_by (actings.List t) f = (f.0, lifted t.fault (list.fits t.stages settings d) (list.fits t.stages settings e) (list_waits t.stages settings d later waited) f.1)
    stays_by (actings.Account t) f = (f.0, lifted t.fault (account.fits t.stages settings d) (account.fits t.stages settings e) (account_waits t.stages settings d later waited) f.1)
    stays_by (actings.Check t) f = (f.0, lifted t.fault (repair.fits t.stages settings d) (repair.fits t.stages settings e) (check_waits t.stages settings d later waited) f.1)

    pub player_stays : (p : Player) → fits p settings d → fits p settings e
    player_stays p f = stays_by p.acting f
