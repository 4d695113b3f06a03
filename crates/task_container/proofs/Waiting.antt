-- A task of a container waits.
use Rattle.std.proofs.Common.{◌≡◌, ℕ, ◌≤◌, List, length, sym, ap, ◌∙◌, subst, arith}
use Rattle.std.proofs.lemmas.List.{length-append}
use Rattle.realm_model.specs.Accounts.{Account}
use Rattle.realm_model.specs.Doors.{DoorView, actor_at}
use Rattle.realm_model.specs.Histories.{Doings, account_of, phase_of, doings_of}
use Rattle.realm_model.specs.Owns.{OwnEvent, own_events}
use Rattle.realm_model.specs.Phases.{Phase}
use Rattle.realm_model.specs.Settings.{SettingsView}
use Rattle.realm_door.specs.Waiting.{Waited}
use Rattle.task_container.specs.declared.progress.Stage.{Stage}
use Rattle.task_container.specs.declared.progress.Stage.TheVariants.{Look, Count, MakeShard, Make, Change, Begin, Close, Remove, LookToRemove, Shut, Clear, LookToClear, Release, Ended}
use Rattle.task_container.specs.declared.progress.Tally.{Tally}
use Rattle.task_container.specs.declared.request.ContainerRequest.{ContainerRequest}
use Rattle.task_container.specs.declared.task.ContainerTask.{ContainerTask}
use Rattle.task_container.specs.Fits.{Going, FitsAt, FitsSo, fits}

module _ (r : ContainerRequest) (shards : ℕ) (t : Tally) (p : Phase) (y : Account) (events : List OwnEvent) (last later : ℕ) (longer : last ≤ later) where
  still_going : Going r.command t p y events last → Going r.command t p y events later
  still_going g = record {
    starts = g.starts;
    moved_is = g.moved_is;
    few = g.few;
    moved_before = (let low = g.moved_before in omega (arith, low, longer));
    raced_is = g.raced_is;
    few_raced = g.few_raced;
    kept = g.kept;
    begun_is = g.begun_is;
    set = g.set;
  }

  stays : (stage : Stage) → FitsAt r shards stage t p y events last → FitsAt r shards stage t p y events later
  stays Look f = (still_going f.0, f.1)
  stays (Count c) f =
      let k = f.2 in (
        still_going f.0,
        f.1,
        record { look = k.look; is_last = k.is_last; in_zone = k.in_zone; under_name = k.under_name; showed = k.showed; later = k.later; before = (let low = k.before in omega (arith, low, longer)) },
        f.3,
        f.4,
        f.5,
      )
  stays MakeShard f = (still_going f.0, f.1, f.2, f.3, f.4)
  stays Make f = (still_going f.0, f.1, f.2, f.3, f.4)
  stays (Change row) f = (still_going f.0, f.1, f.2, f.3, f.4)
  stays (Begin row) f = (still_going f.0, f.1, f.2, f.3, f.4, f.5, f.6)
  stays (Close c) f = (still_going f.0, f.1, f.2, f.3, f.4, f.5, f.6, f.7)
  stays (Remove c) f = (still_going f.0, f.1, f.2, f.3, f.4, f.5, f.6, f.7)
  stays (LookToRemove c) f = (still_going f.0, f.1, f.2, f.3, f.4)
  stays (Shut row shard) f = f
  stays (Clear c due) f = (still_going f.0, f.1, f.2, f.3, f.4, f.5, f.6)
  stays (LookToClear c due) f = (still_going f.0, f.1, f.2, f.3, f.4)
  stays (Release c shard due) f = (still_going f.0, f.1, f.2, f.3, f.4, f.5)
  stays (Ended outcome) f = f

pub waits : (t : ContainerTask) (settings : SettingsView) (d e : DoorView) → Waited settings d e → fits t settings d → fits t settings e
waits t settings d e w f =
    let pass = w.pass in
    let count = w.count in
    let actor : actor_at e ≡ actor_at d = λ i. record { pass = pass i; count = count i } in
    let doings : doings_of settings e.seen (actor_at e) ≡ doings_of settings d.seen (actor_at d) = ap (doings_of settings e.seen) actor ∙ w.same.doings in
    let events : own_events e.seen (actor_at e) ≡ own_events d.seen (actor_at d) = ap (own_events e.seen) actor ∙ w.same.events in
    let long = ap length w.front.is_front ∙ length-append d.seen w.front.later in
    let longer : length d.seen ≤ length e.seen = omega (arith, long) in
    let own = own_events d.seen (actor_at d) in
    let then : FitsSo t settings (phase_of settings d.seen (actor_at d)) (account_of settings d.seen (actor_at d)) own (length e.seen) = record {
      low = f.low;
      high = f.high;
      named = f.named;
      shards_are = f.shards_are;
      within = f.within;
      ordered = f.ordered;
      led_here = f.led_here;
      headless = f.headless;
      learnt_all = f.learnt_all;
      stands = stays t.request settings.shards t.progress.tally (phase_of settings d.seen (actor_at d)) (account_of settings d.seen (actor_at d)) own (length d.seen) (length e.seen) longer t.progress.stage f.stands;
    } in
    subst (λ es. FitsSo t settings (phase_of settings e.seen (actor_at e)) (account_of settings e.seen (actor_at e)) es (length e.seen)) (sym events)
    (subst (λ (x : Doings). FitsSo t settings x.phase x.account own (length e.seen)) (sym doings) then)
