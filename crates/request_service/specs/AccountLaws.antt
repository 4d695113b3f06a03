-- The laws of a request on an account.
use Rattle.std.proofs.Common.{◌≡◌, ℕ, false, List, [], Option, Some, None, refl, sym, subst}
use Rattle.std.specs.Prelude.{option_map}
use Rattle.http_chunks.specs.declared.body.BodyEnd.{BodyEnd}
use Rattle.realm_model.specs.Doors.{DoorView, actor_at}
use Rattle.realm_model.specs.Histories.{account_of}
use Rattle.realm_model.specs.Owns.{own_events}
use Rattle.realm_model.specs.Settings.{SettingsView}
use Rattle.realm_door.specs.Steps.{own_event}
use Rattle.realm_door.specs.Turns.{MakesEvent}
use Rattle.swift_auth.specs.Users.{UserView}
use Rattle.swift_reply.specs.declared.reply.ListingForm.{ListingForm}
use Rattle.swift_requests.specs.declared.asked.Asked.{Asked}
use Rattle.swift_requests.specs.declared.asked.Asked.TheVariants.{Unfed}
use Rattle.swift_requests.specs.declared.asked.UnfedCommand.TheVariants.{Account as OfAccount}
use Rattle.task_words.specs.Outcomes.{Body}
use Rattle.task_account.specs.declared.reply.AccountOutcome.{AccountOutcome}
use Rattle.task_account.specs.declared.request.AccountRequest.{AccountRequest}
use Rattle.task_account.specs.declared.stage.Stage.{Stage}
use Rattle.task_account.specs.declared.stage.Stage.TheVariants.{Ended}
use Rattle.task_account.specs.declared.task.AccountTask.{AccountTask}
use Rattle.task_account.specs.Stages.{IsOpen, IsOver}
use Rattle.task_account.specs.Tasks.{IsAccountEnd, request_of, stage_of, fits, Steps}
use Rattle.call_words.specs.Bodies.{broken_off, IsWrong}
use Rattle.call_words.specs.Calls.{IsOne}
use Rattle.call_words.specs.Ends.{on_account, body_failed}
use Rattle.call_words.proofs.Fates.{broken_has_reply}
use Rattle.call_service.specs.Serving.{BearsOut, BearsOutSoFar, IsNew}
use Rattle.request_service.specs.declared.beside.Beside.{Beside}
use Rattle.request_service.specs.Early.{early_end}
use Rattle.request_service.specs.FirstEvents.{alone_after}
use Rattle.request_service.specs.Requests.{Question, site_of, MayEnd, IsThere, EndsSo}

-- who asks, and how the rows are written
abbrev pub BesideIt : Type 0
BesideIt = Option UserView × ListingForm

abbrev Accounts : Type 0
Accounts = Beside AccountTask BesideIt

abbrev pub asked_by : AccountRequest × BesideIt → Asked
asked_by c = Unfed (record { account = c.0.account; user = (c.1).0 }) (OfAccount c.0.command (c.1).1)

abbrev pub asks : AccountRequest × BesideIt → Question
asks c = record { zone = c.0.zone; asked = asked_by c }

abbrev command_of : Accounts → AccountRequest × BesideIt
command_of t = (request_of t.task, t.beside)

-- the task may have ended so: wherever it stands among its own events, they come to that
abbrev pub EndsWith : AccountTask → AccountOutcome → Type 0
EndsWith t outcome = (settings : SettingsView) (d : DoorView) → fits t settings d
    → IsAccountEnd (request_of t) outcome (account_of settings d.seen (actor_at d)) (own_events d.seen (actor_at d))

-- ---- also where nothing is told

pub onward : (t : Accounts) → (IsOver (stage_of t.task) → ⊥) → IsOver (stage_of t.task) → ⊥
onward t going = going

open_stage : (stage : Stage) → IsOpen stage → IsOver stage → ⊥
open_stage (Ended outcome) opens over = opens
open_stage stage opens over = over

pub begun : (t : Accounts) → IsOpen (stage_of t.task) → (IsOver (stage_of t.task) → ⊥) × Unit {0}
begun t opens = (open_stage (stage_of t.task) opens, tt)

pub may_end : (t : Accounts) (outcome : AccountOutcome) → Unit {0} → EndsWith t.task outcome → MayEnd (asked_by (command_of t)) None (on_account outcome)
may_end t outcome sound ends = record { has_reply = tt; by_event = refl; is_shown = λ reply shown. cc }

-- ---- what is borne out

pub right : (t : Accounts) (settings : SettingsView) (d : DoorView) (outcome : AccountOutcome) → Unit {0} → fits t.task settings d → EndsWith t.task outcome
    → EndsSo (site_of settings (asks (command_of t))) (asked_by (command_of t)) [] d (on_account outcome)
right t settings d outcome sound f ends = λ body. (((ends settings d f, tt), refl), tt)

pub so_far : (t : Accounts) (settings : SettingsView) (d : DoorView) (body : Body) → fits t.task settings d → BearsOutSoFar (site_of settings (asks (command_of t))) (asked_by (command_of t)) body d
so_far t settings d body f = (f.3).so_far

-- ---- behind a body that broke off

-- no row decides, so the body does
by_body : (outcome : Option AccountOutcome) → early_end (option_map on_account outcome) ≡ body_failed
by_body None = refl
by_body (Some outcome) = refl

pub early : (t u : Accounts) (outcome : Option AccountOutcome) (settings : SettingsView) (d e : DoorView) (moment : ℕ) (why : BodyEnd) (came : List ℕ) → IsOpen (stage_of t.task) → Steps t.task u.task × (request_of u.task ≡ request_of t.task) × (u.beside ≡ t.beside) → false ≡ false → fits u.task settings e
    → IsThere (IsOver (stage_of u.task)) (EndsWith u.task) outcome → IsNew settings d → MakesEvent settings moment d e → IsWrong why
    → BearsOut (site_of settings (asks (command_of u))) (asked_by (command_of u)) (broken_off why) came (early_end (option_map on_account outcome)) [] e
early t u outcome settings d e moment why came begins steps whole f there new made wrong =
    let one : IsOne (own_events e.seen (actor_at e)) = record { event = own_event made.op made.answered; alone = alone_after settings d e moment new made } in
    subst (λ end. BearsOut (site_of settings (asks (command_of u))) (asked_by (command_of u)) (broken_off why) came end [] e) (sym (by_body outcome))
    ((((f.3).so_far, one), refl), broken_has_reply None why wrong)
