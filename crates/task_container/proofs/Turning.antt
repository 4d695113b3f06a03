-- A step through a door brings the task on.
use Rattle.std.proofs.Common.{◌≡◌, ℕ, ◌+◌, ◌<◌, ◌≤◌, true, List, [], ◌∷◌, ◌++◌, length, refl, sym, ◌∙◌, ap, subst, arith}
use Rattle.std.proofs.lemmas.List.{length-append}
use Rattle.object_words.specs.Limits.{is_name}
use Rattle.task_container.specs.Requests.{name_of}
use Rattle.realm_model.specs.Settings.{SettingsView, IsSettings}
use Rattle.realm_model.specs.Accounts.{Account, accounted, blank}
use Rattle.realm_model.specs.Allowed.{allowed}
use Rattle.realm_model.specs.Doors.{DoorView, actor_at}
use Rattle.realm_model.specs.Histories.{Doings, account_of, phase_of, world_of}
use Rattle.realm_model.specs.Learnt.{learnt}
use Rattle.realm_model.specs.Maps.{Maps, Made, heads}
use Rattle.realm_model.specs.Owns.{OwnEvent, own_events, learnt_from}
use Rattle.realm_model.specs.Phases.{ActorId, Phase, fresh}
use Rattle.realm_model.specs.Suits.{Suits}
use Rattle.realm_model.specs.declared.op.Op.{Op}
use Rattle.realm_model.specs.declared.event.Event.{Event}
use Rattle.realm_model.specs.declared.event.Reply.{Reply}
use Rattle.realm_model.proofs.Others.{phase-own}
use Rattle.realm_door.specs.declared.door.Answered.{Answered}
use Rattle.realm_door.specs.Steps.{Extends, event_at, own_event}
use Rattle.task_container.specs.declared.progress.Progress.{Progress}
use Rattle.task_container.specs.declared.progress.Stage.{Stage}
use Rattle.task_container.specs.declared.progress.Stage.TheVariants.{Look, Count, MakeShard, Make, Change, Begin, Close, Remove, LookToRemove, Shut, Clear, LookToClear, Release, Ended}
use Rattle.task_container.specs.declared.progress.Tally.{Tally}
use Rattle.task_container.specs.declared.request.ContainerRequest.{ContainerRequest}
use Rattle.task_container.specs.declared.task.ContainerTask.{ContainerTask}
use Rattle.task_container.specs.Ends.{KeepsRows, TouchesNoHead}
use Rattle.task_container.specs.declared.request.ContainerCommand.{ContainerCommand}
use Rattle.task_container.specs.declared.request.ContainerCommand.TheVariants.{Head, Put, Post, Delete}
use Rattle.task_container.proofs.Going.{for_put}
use Rattle.task_container.specs.Fits.{MovedIs, FitsSo, fits, next_op, stage_of}
use Rattle.task_container.specs.Stages.{IsOpen, begun, op_of, op_at, step_of}
use Rattle.task_container.proofs.Needs.{may_step}
use Rattle.task_container.proofs.Orders.{led_more, in_order_more, learnt_more}
use Rattle.task_container.proofs.Answering.{one_step}

-- no operation of such a request is on a head
headless : (y : Account) (maps : Maps) (made : Made) (r : ContainerRequest) (shards : ℕ) (stage : Stage) (t : Tally) (reply : Reply) (number clock : ℕ) → TouchesNoHead y → TouchesNoHead (accounted y maps made (op_at r shards stage t) reply number clock)
headless y maps made r shards Look t reply number clock none = none
headless y maps made r shards (Count c) t reply number clock none = none
headless y maps made r shards MakeShard t reply number clock none = none
headless y maps made r shards Make t reply number clock none = none
headless y maps made r shards (Change row) t reply number clock none = none
headless y maps made r shards (Begin row) t reply number clock none = none
headless y maps made r shards (Close c) t reply number clock none = none
headless y maps made r shards (Remove c) t reply number clock none = none
headless y maps made r shards (LookToRemove c) t reply number clock none = none
headless y maps made r shards (Shut row shard) t reply number clock none = none
headless y maps made r shards (Clear c due) t reply number clock none = none
headless y maps made r shards (LookToClear c due) t reply number clock none = none
headless y maps made r shards (Release c shard due) t reply number clock none = none
headless y maps made r shards (Ended outcome) t reply number clock none = none

module _ (task : ContainerTask) (settings : SettingsView) (p : Phase) (y : Account) (events : List OwnEvent) (last : ℕ) (f : FitsSo task settings p y events last) where
  abbrev r : ContainerRequest
  r = task.request

  abbrev s : Progress
  s = task.progress

  module _ (u : ContainerTask) (reply : Reply) (number clock : ℕ) (maps : Maps) (made : Made) (later : last < number) (is_open : IsOpen s.stage) (suits : Suits (op_of r task.shards s) reply)
      (request : u.request ≡ r) (shards : u.shards ≡ task.shards) (progress : u.progress ≡ step_of r task.shards s number reply) where
    abbrev op : Op
    op = op_of r settings.shards s

    abbrev own : OwnEvent
    own = record { op = op; reply = reply; number = number; clock = clock }

    abbrev next : Progress
    next = step_of r settings.shards s number reply

    -- a task that stands there
    abbrev At : ContainerTask → Type 0
    At v = FitsSo v settings (learnt p op reply number clock) (accounted y maps made op reply number clock) (events ++ own ∷ []) number

    here : At (record { request = r; shards = settings.shards; progress = next })
    here = record {
      low = f.low;
      high = f.high;
      named = f.named;
      shards_are = refl;
      within = f.within;
      ordered =
          in_order_more r settings.shards begun events own f.ordered (subst (λ (x : Progress). IsOpen x.stage) f.led_here is_open)
          (ap (op_of r settings.shards) f.led_here);
      led_here = ap (λ (x : Progress). step_of r settings.shards x number reply) f.led_here ∙ sym (led_more r settings.shards begun events own);
      headless = headless y maps made r settings.shards s.stage s.tally reply number clock f.headless;
      learnt_all = ap (λ (q : Phase). learnt q op reply number clock) f.learnt_all ∙ sym (learnt_more fresh events own);
      stands =
          one_step settings.shards p y events last number clock maps made later r s.stage s.tally reply (f.within).most f.headless.0 f.headless.1 f.learnt_all is_open
          (subst (λ n. Suits (op_of r n s) reply) f.shards_are suits) f.stands;
    }

    pub stepped : At u
    stepped =
        let same : ◌≡◌ {A = ContainerTask} (record { request = r; shards = settings.shards; progress = next }) u =
        λ i. record { request = sym request i; shards = sym (shards ∙ f.shards_are) i; progress = sym (progress ∙ ap (λ n. step_of r n s number reply) f.shards_are) i } in
        subst At same here

pub fits_next : (settings : SettingsView) (d e : DoorView) (t u : ContainerTask) (moment : ℕ) (a : Answered) → IsOpen (stage_of t) → Suits (next_op t) a.reply
    → u.request ≡ t.request → u.shards ≡ t.shards → u.progress ≡ step_of t.request t.shards t.progress a.number a.reply
    → fits t settings d → Extends settings d (next_op t) moment a e → fits u settings e
fits_next settings d e t u moment a is_open suits request shards progress f x =
    let before : List Event = d.seen ++ x.between in
    let actor : ActorId = actor_at d in
    let long : length e.seen ≡ length before + 1 = ap length x.ends ∙ length-append before (event_at d (next_op t) moment a.reply ∷ []) in
    let front : length before ≡ length d.seen + length x.between = length-append d.seen x.between in
    let number = x.number in
    let later : length d.seen < a.number = omega (arith, long, front, number) in
    let pass = (x.grows).pass in
    let count = (x.grows).count in
    let same : actor_at e ≡ actor = λ i. record { pass = pass i; count = count i } in
    let made = (world_of settings before).stripes.made in
    let op : Op = op_of t.request settings.shards t.progress in
    let op_is : next_op t ≡ op = ap (λ n. op_of t.request n t.progress) f.shards_are in
    let account : account_of settings e.seen (actor_at e) ≡ accounted (account_of settings d.seen actor) (heads before) made op a.reply a.number a.clock =
    ap (λ (z : Doings). z.account) x.own ∙ ap (λ o. accounted (account_of settings d.seen actor) (heads before) made o a.reply a.number a.clock) op_is in
    let phase : phase_of settings e.seen (actor_at e) ≡ learnt (phase_of settings d.seen actor) op a.reply a.number a.clock =
    ap (λ (z : Doings). z.phase) x.own ∙ ap (λ o. learnt (phase_of settings d.seen actor) o a.reply a.number a.clock) op_is in
    let events : own_events e.seen (actor_at e) ≡ own_events d.seen actor ++ own_event op a ∷ [] =
    ap (own_events e.seen) same ∙ x.events ∙ ap (λ o. own_events d.seen actor ++ own_event o a ∷ []) op_is in
    let step =
    stepped t settings (phase_of settings d.seen actor) (account_of settings d.seen actor) (own_events d.seen actor) (length d.seen) f u a.reply a.number a.clock (heads before) made later is_open suits request shards progress in
    let by_phase = subst (λ q. FitsSo u settings q (accounted (account_of settings d.seen actor) (heads before) made op a.reply a.number a.clock) (own_events d.seen actor ++ own_event op a ∷ []) a.number) (sym phase) step in
    let by_account = subst (λ y. FitsSo u settings (phase_of settings e.seen (actor_at e)) y (own_events d.seen actor ++ own_event op a ∷ []) a.number) (sym account) by_phase in
    let by_events = subst (λ es. FitsSo u settings (phase_of settings e.seen (actor_at e)) (account_of settings e.seen (actor_at e)) es a.number) (sym events) by_account in
    subst (λ n. FitsSo u settings (phase_of settings e.seen (actor_at e)) (account_of settings e.seen (actor_at e)) (own_events e.seen (actor_at e)) n) number by_events

pub may_go : (settings : SettingsView) (d : DoorView) (t : ContainerTask) → IsOpen (stage_of t) → fits t settings d → allowed settings (phase_of settings d.seen (actor_at d)) (next_op t) ≡ true
may_go settings d t is_open f =
    let p : Phase = phase_of settings d.seen (actor_at d) in
    let some : 1 ≤ settings.zones = (let low = f.low in let high = f.high in omega (arith, low, high)) in
    ap (λ n. allowed settings p (op_of t.request n t.progress)) f.shards_are
    ∙ may_step settings p some t.request settings.shards t.progress.stage t.progress.tally (account_of settings d.seen (actor_at d)) (own_events d.seen (actor_at d)) (length d.seen) f.low f.high f.within f.named is_open f.stands

none_moved : (command : ContainerCommand) → MovedIs command 0 blank []
none_moved (Head name) = refl
none_moved (Put name changes) = tt
none_moved (Post name changes) = tt
none_moved (Delete name) = refl

none_swapped : (command : ContainerCommand) → KeepsRows command []
none_swapped (Head name) = refl
none_swapped (Put name changes) = refl
none_swapped (Post name changes) = refl
none_swapped (Delete name) = tt

pub begins : (task : ContainerTask) (settings : SettingsView) (d : DoorView) → task.progress ≡ begun → task.shards ≡ settings.shards → IsSettings settings → is_name 256 (name_of task.request.command) ≡ true
    → 1 ≤ task.request.zone → task.request.zone ≤ settings.zones → account_of settings d.seen (actor_at d) ≡ blank → own_events d.seen (actor_at d) ≡ [] → fits task settings d
begins task settings d is shards good named low high no_account no_events =
    let unknowing : phase_of settings d.seen (actor_at d) ≡ fresh = phase-own settings d.seen (actor_at d) ∙ ap (learnt_from fresh) no_events in
    let at_first : FitsSo (record { request = task.request; shards = task.shards; progress = begun }) settings (phase_of settings d.seen (actor_at d)) blank [] (length d.seen) = record {
      low = low;
      high = high;
      named = named;
      shards_are = shards;
      within = record { least = (good.shards).least; most = (good.shards).most };
      ordered = tt;
      led_here = refl;
      headless = (refl, refl);
      learnt_all = unknowing;
      stands = (
        record {
          starts = for_put task.request.command (record { unknowing = unknowing; no_events = refl; none_made = refl });
          moved_is = none_moved task.request.command;
          few = omega arith;
          moved_before = omega arith;
          raced_is = refl;
          few_raced = omega arith;
          kept = none_swapped task.request.command;
          begun_is = refl;
          set = tt;
        },
        omega arith,
      );
    } in
    subst (λ (x : Progress). FitsSo (record { request = task.request; shards = task.shards; progress = x }) settings (phase_of settings d.seen (actor_at d)) (account_of settings d.seen (actor_at d)) (own_events d.seen (actor_at d)) (length d.seen)) (sym is)
    (subst (λ es. FitsSo (record { request = task.request; shards = task.shards; progress = begun }) settings (phase_of settings d.seen (actor_at d)) (account_of settings d.seen (actor_at d)) es (length d.seen)) (sym no_events)
    (subst (λ y. FitsSo (record { request = task.request; shards = task.shards; progress = begun }) settings (phase_of settings d.seen (actor_at d)) y [] (length d.seen)) (sym no_account) at_first))
