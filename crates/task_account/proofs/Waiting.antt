-- A task of an account waits.
use Rattle.std.proofs.Common.{◌≡◌, sym, ap, ◌∙◌, subst}
use Rattle.realm_model.specs.Doors.{DoorView, actor_at}
use Rattle.realm_model.specs.Histories.{Doings, account_of}
use Rattle.realm_model.specs.Owns.{own_events}
use Rattle.realm_model.specs.Settings.{SettingsView}
use Rattle.realm_door.specs.Waiting.{Waited}
use Rattle.task_account.specs.Tasks.{request_of, Fits, fits}
use Rattle.task_account.specs.declared.task.AccountTask.{AccountTask}

pub waits : (t : AccountTask) (settings : SettingsView) (d e : DoorView) → Waited settings d e → fits t settings d → fits t settings e
waits t settings d e w f =
    let pass = w.pass in
    let count = w.count in
    let actor : actor_at e ≡ actor_at d = λ i. record { pass = pass i; count = count i } in
    let account : account_of settings e.seen (actor_at e) ≡ account_of settings d.seen (actor_at d) = ap (account_of settings e.seen) actor ∙ ap (λ (o : Doings). o.account) w.same.doings in
    let events : own_events e.seen (actor_at e) ≡ own_events d.seen (actor_at d) = ap (own_events e.seen) actor ∙ w.same.events in (
      f.0,
      f.1,
      f.2,
      subst (λ es. Fits (request_of t) t.stage t.moved (account_of settings e.seen (actor_at e)) es) (sym events)
          (subst (λ y. Fits (request_of t) t.stage t.moved y (own_events d.seen (actor_at d))) (sym account) f.3),
    )
