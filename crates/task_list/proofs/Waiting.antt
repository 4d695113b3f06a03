-- A task of a listing waits.
use Rattle.std.specs.Prelude.{◌≡◌, ℕ, ◌≤◌, List, length}
use Rattle.std.proofs.Common.{sym, ap, ◌∙◌, subst, arith, length-append}
use Rattle.realm_model.specs.Accounts.{Account}
use Rattle.realm_model.specs.Doors.{DoorView, actor_at}
use Rattle.realm_model.specs.Histories.{Doings, account_of}
use Rattle.realm_model.specs.Owns.{OwnEvent, own_events}
use Rattle.realm_model.specs.Settings.{SettingsView}
use Rattle.realm_door.specs.Waiting.{Waited}
use Rattle.object_words.specs.declared.bucket.Bucket.{Bucket}
use Rattle.task_list.specs.Tasks.{Going, Looking, FitsAt, fits}
use Rattle.task_list.specs.declared.request.ListRequest.{ListRequest}
use Rattle.task_list.specs.declared.stage.Stage.{Stage}
use Rattle.task_list.specs.declared.stage.Stage.TheVariants.{Look, Page, Head, Suggest, Broken, Ended}
use Rattle.task_list.specs.declared.task.ListTask.{ListTask}

module _ (r : ListRequest) (y : Account) (events : List OwnEvent) (last later : ℕ) (longer : last ≤ later) where
  going_longer : (moved : ℕ) → Going r moved y events last → Going r moved y events later
  going_longer moved g = record {
    untried = g.untried;
    unchanged = g.unchanged;
    heads = g.heads;
    moved_is = g.moved_is;
    few = g.few;
    moved_before = (let low = g.moved_before in omega (arith, low, longer));
    numbered = λ k d h. let low = g.numbered k d h in omega (arith, low, longer);
    reads = g.reads;
    inside = g.inside;
  }

  looking_longer : (row : Bucket) → Looking r row y last → Looking r row y later
  looking_longer row k = record {
    look = k.look;
    is_last = k.is_last;
    in_zone = k.in_zone;
    under_name = k.under_name;
    showed = k.showed;
    later = k.later;
    before = (let low = k.before in omega (arith, low, longer));
    granted = k.granted;
  }

  fits_longer : (stage : Stage) (moved : ℕ) → FitsAt r stage moved y events last → FitsAt r stage moved y events later
  fits_longer (Look known) moved f = (going_longer moved f.0, f.1, f.2)
  fits_longer (Page m next) moved f = (going_longer moved f.0, looking_longer m.row f.1, f.2, f.3, f.4)
  fits_longer (Head m wanted) moved f = (going_longer moved f.0, looking_longer m.row f.1, f.2, f.3)
  fits_longer (Suggest m s) moved f = (going_longer moved f.0, looking_longer m.row f.1, f.2, f.3)
  fits_longer Broken moved f = f
  fits_longer (Ended outcome) moved f = f

pub waits : (t : ListTask) (settings : SettingsView) (d e : DoorView) → Waited settings d e → fits t settings d → fits t settings e
waits t settings d e w f =
    let pass = w.pass in
    let count = w.count in
    let actor : actor_at e ≡ actor_at d = λ i. record { pass = pass i; count = count i } in
    let account : account_of settings e.seen (actor_at e) ≡ account_of settings d.seen (actor_at d) = ap (account_of settings e.seen) actor ∙ ap (λ (o : Doings). o.account) w.same.doings in
    let events : own_events e.seen (actor_at e) ≡ own_events d.seen (actor_at d) = ap (own_events e.seen) actor ∙ w.same.events in
    let long = ap length w.front.is_front ∙ length-append d.seen w.front.later in
    let longer : length d.seen ≤ length e.seen = omega (arith, long) in (
      f.0,
      f.1,
      subst (λ es. FitsAt t.request t.stage t.moved (account_of settings e.seen (actor_at e)) es (length e.seen)) (sym events)
          (subst (λ y. FitsAt t.request t.stage t.moved y (own_events d.seen (actor_at d)) (length e.seen)) (sym account)
          (fits_longer t.request (account_of settings d.seen (actor_at d)) (own_events d.seen (actor_at d)) (length d.seen) (length e.seen) longer t.stage t.moved f.2)),
    )
