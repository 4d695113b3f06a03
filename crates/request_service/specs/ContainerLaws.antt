-- The laws of a request on a container.
use Rattle.std.proofs.Common.{◌≡◌, ℕ, Bool, true, false, cond, List, [], ◌∷◌, Option, Some, None, refl, sym, ap, ◌∙◌, subst}
use Rattle.std.specs.Prelude.{option_map}
use Rattle.http_chunks.specs.declared.body.BodyEnd.{BodyEnd}
use Rattle.realm_model.specs.Accounts.{Account}
use Rattle.realm_model.specs.Doors.{DoorView, actor_at}
use Rattle.realm_model.specs.Histories.{account_of}
use Rattle.realm_model.specs.Owns.{OwnEvent, own_events}
use Rattle.realm_model.specs.Settings.{SettingsView}
use Rattle.realm_door.specs.Steps.{own_event}
use Rattle.realm_door.specs.Turns.{MakesEvent}
use Rattle.swift_requests.specs.declared.asked.Asked.{Asked}
use Rattle.swift_requests.specs.declared.asked.Asked.TheVariants.{Unfed}
use Rattle.swift_requests.specs.declared.asked.UnfedCommand.TheVariants.{Container}
use Rattle.task_words.specs.declared.asker.Asker.{Asker}
use Rattle.task_words.specs.Outcomes.{Body}
use Rattle.task_container.specs.declared.outcome.ContainerOutcome.{ContainerOutcome}
use Rattle.task_container.specs.declared.progress.Stage.{Stage}
use Rattle.task_container.specs.declared.progress.Stage.TheVariants.{Ended}
use Rattle.task_container.specs.declared.progress.Progress.{Progress}
use Rattle.task_container.specs.declared.request.ContainerRequest.{ContainerRequest}
use Rattle.task_container.specs.declared.task.ContainerTask.{ContainerTask}
use Rattle.task_container.specs.Ends.{IsContainerEnd}
use Rattle.task_container.specs.Fits.{stage_of, request_of, fits}
use Rattle.task_container.specs.Orders.{led, IsContainerSoFar}
use Rattle.task_container.specs.Stages.{IsOpen, IsOver, begun as first_progress}
use Rattle.call_words.specs.Bodies.{broken_off, IsWrong}
use Rattle.call_words.specs.Calls.{is_refused_at, IsBorneOut}
use Rattle.call_words.specs.Ends.{TaskEnd, on_container, body_failed, is_by_row}
use Rattle.call_words.proofs.Fates.{broken_has_reply}
use Rattle.call_service.specs.Serving.{BearsOut, BearsOutSoFar, IsNew}
use Rattle.request_service.specs.declared.beside.Beside.{Beside}
use Rattle.request_service.specs.Early.{early_end}
use Rattle.request_service.specs.FirstEvents.{alone_after}
use Rattle.request_service.specs.NoBytes.{no_bytes, none_comes}
use Rattle.request_service.specs.Requests.{Question, site_of, MayEnd, IsThere, GoesOn, EndsSo}

-- a request on a container, and who asks
abbrev Containers : Type 0
Containers = Beside ContainerTask Asker

abbrev pub asked_by : ContainerRequest → Asked
asked_by r = Unfed r.asker (Container r.command)

abbrev pub asks : ContainerRequest → Question
asks r = record { zone = r.zone; asked = asked_by r }

abbrev asked_in : Containers → Asked
asked_in t = asked_by (request_of t.task)

-- the asker beside the task is that of its request
abbrev HasAsker : Containers → Type 0
HasAsker t = t.beside ≡ (request_of t.task).asker

-- the task may have ended so: wherever it stands among its own events, they come to that
abbrev pub EndsWith : ContainerTask → ContainerOutcome → Type 0
EndsWith t outcome = (settings : SettingsView) (d : DoorView) → fits t settings d
    → IsContainerEnd (request_of t) outcome settings (account_of settings d.seen (actor_at d)) (own_events d.seen (actor_at d))

-- ---- also where nothing is told

still_open : (stage : Stage) → (IsOver stage → ⊥) → IsOpen stage
still_open (Ended outcome) going = absurd (going tt)
still_open stage going = tt

pub onward : (t : Containers) → (IsOver (stage_of t.task) → ⊥) → IsOpen (stage_of t.task)
onward t = still_open (stage_of t.task)

pub begun : (t : Containers) → IsOpen (stage_of t.task) × HasAsker t → IsOpen (stage_of t.task) × HasAsker t
begun t begins = begins

pub goes_on : (t u : Containers) → Unit {0} × (request_of u.task ≡ request_of t.task) × (u.beside ≡ t.beside) → HasAsker t → HasAsker u × GoesOn None None no_bytes
goes_on t u steps sound = (steps.2 ∙ sound ∙ ap (λ (r : ContainerRequest). r.asker) (sym steps.1), none_comes)

pub may_end : (t : Containers) (outcome : ContainerOutcome) → HasAsker t → EndsWith t.task outcome → MayEnd (asked_in t) None (on_container outcome)
may_end t outcome sound ends = record { has_reply = tt; by_event = refl; is_shown = λ reply shown. cc }

-- ---- what is borne out

pub right : (t : Containers) (settings : SettingsView) (d : DoorView) (outcome : ContainerOutcome) → HasAsker t → fits t.task settings d → EndsWith t.task outcome
    → EndsSo (site_of settings (asks (request_of t.task))) (asked_in t) [] d (on_container outcome)
right t settings d outcome sound f ends = λ body. (((ends settings d f, tt), refl), tt)

pub so_far : (t : Containers) (settings : SettingsView) (d : DoorView) (body : Body) → fits t.task settings d → BearsOutSoFar (site_of settings (asks (request_of t.task))) (asked_in t) body d
so_far t settings d body f = f.ordered

-- ---- behind a body that broke off

not_refused : (stage : Stage) → (IsOver stage → ⊥) → is_refused_at stage ≡ false
not_refused (Ended outcome) going = absurd (going tt)
not_refused stage going = refl

module _ (settings : SettingsView) (r : ContainerRequest) (why : BodyEnd) (wrong : IsWrong why) (came : List ℕ) (y : Account) (events : List OwnEvent) where
  abbrev Right : TaskEnd → Type 0
  Right end = IsBorneOut settings r.zone (asked_by r) (broken_off why) came end [] y events

  module _ (own : OwnEvent) (alone : events ≡ own ∷ []) (ordered : IsContainerSoFar r settings events) where
    -- the row does not refuse it, and the body decides
    looks_alone : is_refused_at (led r settings.shards first_progress events).stage ≡ false → Right body_failed
    looks_alone lets =
        let first = subst (IsContainerSoFar r settings) alone ordered in (
          (
            record {
              reads = record { look = own; alone = alone; op = first.1 };
              ordered = ordered;
              lets = lets;
            },
            refl,
          ),
          broken_has_reply None why wrong,
        )

    ended_right : (outcome : ContainerOutcome) → IsContainerEnd r outcome settings y events → Right (early_end (Some (on_container outcome)))
    ended_right outcome end = by_test (is_by_row (on_container outcome)) refl
      where
        by_test : (test : Bool) → is_by_row (on_container outcome) ≡ test → Right (early_end (Some (on_container outcome)))
        by_test true is = subst Right (sym (ap (λ b. cond b (on_container outcome) body_failed) is)) (((end, is), refl), tt)
        by_test false is =
            subst Right (sym (ap (λ b. cond b (on_container outcome) body_failed) is))
            (looks_alone (ap is_refused_at end.ended ∙ is))

    right_at_first : (stage : Stage) (outcome : Option ContainerOutcome) → stage ≡ (led r settings.shards first_progress events).stage
        → IsThere (IsOver stage) (λ o. IsContainerEnd r o settings y events) outcome → Right (early_end (option_map on_container outcome))
    right_at_first stage None led_here there = looks_alone (ap is_refused_at (sym led_here) ∙ not_refused stage there)
    right_at_first stage (Some outcome) led_here there = ended_right outcome there

there_so : (t : ContainerTask) (outcome : Option ContainerOutcome) (settings : SettingsView) (d : DoorView) → fits t settings d → IsThere (IsOver (stage_of t)) (EndsWith t) outcome
    → IsThere (IsOver (stage_of t)) (λ o. IsContainerEnd (request_of t) o settings (account_of settings d.seen (actor_at d)) (own_events d.seen (actor_at d))) outcome
there_so t None settings d f there = there
there_so t (Some outcome) settings d f there = there settings d f

pub early : (t u : Containers) (outcome : Option ContainerOutcome) (settings : SettingsView) (d e : DoorView) (moment : ℕ) (why : BodyEnd) (came : List ℕ) → IsOpen (stage_of t.task) × HasAsker t → Unit {0} × (request_of u.task ≡ request_of t.task) × (u.beside ≡ t.beside) → false ≡ false → fits u.task settings e
    → IsThere (IsOver (stage_of u.task)) (EndsWith u.task) outcome → IsNew settings d → MakesEvent settings moment d e → IsWrong why
    → BearsOut (site_of settings (asks (request_of u.task))) (asked_in u) (broken_off why) came (early_end (option_map on_container outcome)) [] e
early t u outcome settings d e moment why came begins steps whole f there new made wrong =
    right_at_first settings (request_of u.task) why wrong came (account_of settings e.seen (actor_at e)) (own_events e.seen (actor_at e)) (own_event made.op made.answered) (alone_after settings d e moment new made) f.ordered
    (stage_of u.task) outcome (ap (λ (p : Progress). p.stage) f.led_here) (there_so u.task outcome settings e f there)
