-- A step through a door brings the task on.
use Rattle.std.proofs.Common.{◌≡◌, ℕ, ◌+◌, ◌<◌, ◌≤◌, ◌⊎◌, ◌&&◌, Bool, true, nat_le, List, [], ◌∷◌, ◌++◌, length, Some, None, inl, inr, refl, sym, ◌∙◌, ap, subst, arith}
use Rattle.std.proofs.lemmas.Bool.Decides.{nat_tests}
use Rattle.std.proofs.lemmas.List.{length-append}
use Rattle.std.proofs.lemmas.List.Elements.{All-nil}
use Rattle.rgw_types.specs.declared.pool_key.Key.{Key}
use Rattle.object_words.specs.declared.entry.EntryPage.{EntryPage}
use Rattle.object_words.specs.Keys.{shard_key}
use Rattle.realm_model.specs.Settings.{SettingsView}
use Rattle.realm_model.specs.States.{at_moment}
use Rattle.realm_model.specs.Accounts.{Account, blank, accounted}
use Rattle.realm_model.specs.Needs.{is_between}
use Rattle.realm_model.specs.Allowed.{allowed, meets_need, page_limit}
use Rattle.realm_model.specs.Doors.{DoorView, actor_at}
use Rattle.realm_model.specs.Histories.{Doings, phase_of, account_of, world_of, state_of, answer_after}
use Rattle.realm_model.specs.Maps.{heads}
use Rattle.realm_model.specs.Owns.{OwnEvent, own_events, learnt_from}
use Rattle.realm_model.specs.Phases.{ActorId, Phase, fresh}
use Rattle.realm_model.specs.Suits.{Suits}
use Rattle.realm_model.specs.declared.op.Op.{Op}
use Rattle.realm_model.specs.declared.op.Op.TheVariants.{Page as page_op}
use Rattle.realm_model.specs.declared.event.Event.{Event}
use Rattle.realm_model.specs.declared.event.Reply.{Reply}
use Rattle.realm_model.specs.declared.event.Reply.TheVariants.{Entries}
use Rattle.realm_model.proofs.Others.{phase-own}
use Rattle.realm_door.specs.declared.door.Answered.{Answered as AnsweredOf}
use Rattle.realm_door.specs.Steps.{Extends, event_at, own_event}
use Rattle.task_words.specs.declared.outcome.Outcome.{Outcome}
use Rattle.task_list.specs.declared.request.ListRequest.{ListRequest}
use Rattle.task_list.specs.declared.task.ListTask.{ListTask}
use Rattle.task_list.specs.declared.stage.Stage.{Stage}
use Rattle.task_list.specs.declared.stage.Stage.TheVariants.{Look, Page, Head, Suggest, Broken, Ended}
use Rattle.task_list.specs.Repairs.{untold}
use Rattle.task_list.specs.Sightings.{asks_suggestion}
use Rattle.task_list.specs.Stages.{IsPageAbove}
use Rattle.task_list.specs.Tasks.{IsOver, IsGoing, op_of, Takes, TakesTold, Going, Heard, FitsAt, fits}
use Rattle.task_list.proofs.Hearing.{IsAnswerInOrder, hear}
use Rattle.task_list.proofs.Knowing.{knows_first, knows_all}
use Rattle.task_list.proofs.Steps.{page_answered, one_step}

-- a task that made no event
pub fits_first : (r : ListRequest) (y : Account) (events : List OwnEvent) (last : ℕ) → y ≡ blank → events ≡ [] → Going r 0 y events last
fits_first r y events last no_account no_events =
    subst (λ x. Going r 0 x events last) (sym no_account)
    (subst (λ es. Going r 0 blank es last) (sym no_events)
    (record {
      untried = refl;
      unchanged = refl;
      heads = λ head other container name there asks. (let no = there.1 in absurd (omega (arith, no)));
      moved_is = refl;
      few = omega arith;
      moved_before = omega arith;
      numbered = All-nil (λ (e : OwnEvent). e.number ≤ last);
      reads = tt;
      inside = tt;
    }))

-- pages are by rising name
abbrev Answered : ListRequest → Op → Reply → Type 0
Answered r op reply = (zone : ℕ) (key : Key) (name : List ℕ) (page : EntryPage) → op ≡ page_op zone key name page_limit → reply ≡ Entries page → IsPageAbove name page

in_order : (r : ListRequest) (stage : Stage) (reply : Reply) → Answered r (op_of r stage) reply → IsAnswerInOrder stage reply
in_order r (Page m next) (Entries page) answered = (answered r.zone (shard_key (m.row).id (m.row).instance next.shard) next.after page refl refl).rise
in_order r (Page m next) reply answered = tt
in_order r stage reply answered = tt

-- what the next stage keeps and owes
hear_next : (r : ListRequest) (stage : Stage) (reply : Reply) (next : Stage) (moved : ℕ) (y : Account) (events : List OwnEvent) (last number clock : ℕ) → IsGoing stage → Suits (op_of r stage) reply → IsAnswerInOrder stage reply → TakesTold stage reply next → FitsAt r stage moved y events last
    → Heard r next (events ++ (record { op = op_of r stage; reply = reply; number = number; clock = clock }) ∷ [])
hear_next r (Look known) reply next moved y events last number clock going suits order told f = hear r (Look known) reply next events number clock going suits order tt told f.2
hear_next r (Page m page) reply next moved y events last number clock going suits order told f = hear r (Page m page) reply next events number clock going suits order f.3 told f.4
hear_next r (Head m wanted) reply next moved y events last number clock going suits order told f = hear r (Head m wanted) reply next events number clock going suits order tt told f.3
hear_next r (Suggest m s) reply next moved y events last number clock going suits order told f = hear r (Suggest m s) reply next events number clock going suits order tt told f.3
hear_next r Broken reply next moved y events last number clock going suits order told f = absurd going
hear_next r (Ended outcome) reply next moved y events last number clock going suits order told f = absurd going

pub fits_next : (settings : SettingsView) (d e : DoorView) (t u : ListTask) (op : Op) (moment : ℕ) (a : AnsweredOf) → IsGoing t.stage → op ≡ op_of t.request t.stage → Suits (op_of t.request t.stage) a.reply
    → u.request ≡ t.request → (u.stage ≡ Broken) ⊎ Takes t.request t.stage t.moved a.reply u.stage u.moved → (u.stage ≡ Broken) ⊎ TakesTold t.stage a.reply u.stage
    → fits t settings d → Extends settings d op moment a e → fits u settings e
fits_next settings d e t u op moment a going op_is suits request taken told f x =
    let before : List Event = d.seen ++ x.between in
    let actor : ActorId = actor_at d in
    let long : length e.seen ≡ length before + 1 = ap length x.ends ∙ length-append before (event_at d op moment a.reply ∷ []) in
    let front : length before ≡ length d.seen + length x.between = length-append d.seen x.between in
    let number = x.number in
    let later : length d.seen < a.number = omega (arith, long, front, number) in
    let made = (world_of settings before).stripes.made in
    let made_op = op_of t.request t.stage in
    let step : FitsAt t.request u.stage u.moved (accounted (account_of settings d.seen actor) (heads before) made made_op a.reply a.number a.clock) (own_events d.seen actor ++ own_event made_op a ∷ []) a.number =
    elim taken [
      | inl broken ↦ subst (λ s. FitsAt t.request s u.moved (accounted (account_of settings d.seen actor) (heads before) made made_op a.reply a.number a.clock) (own_events d.seen actor ++ own_event made_op a ∷ []) a.number) (sym broken) tt
      | inr takes ↦
          elim told [
            | inl broken ↦ subst (λ s. FitsAt t.request s u.moved (accounted (account_of settings d.seen actor) (heads before) made made_op a.reply a.number a.clock) (own_events d.seen actor ++ own_event made_op a ∷ []) a.number) (sym broken) tt
            | inr told' ↦
                let answered : Answered t.request made_op a.reply = λ zone key name page is told. page_answered settings (at_moment (state_of settings before) moment) zone key name page (sym told ∙ x.answer ∙ ap (λ o. answer_after settings before o moment) (op_is ∙ is)) in
                one_step t.request t.moved (account_of settings d.seen actor) (own_events d.seen actor) (length d.seen) a.number a.clock (heads before) made later t.stage a.reply u.stage u.moved going suits answered f.2 takes
                (hear_next t.request t.stage a.reply u.stage t.moved (account_of settings d.seen actor) (own_events d.seen actor) (length d.seen) a.number a.clock going suits (in_order t.request t.stage a.reply answered) told' f.2)
          ]
    ] in
    let pass = (x.grows).pass in
    let count = (x.grows).count in
    let same : actor_at e ≡ actor = λ i. record { pass = pass i; count = count i } in
    let account : account_of settings e.seen (actor_at e) ≡ accounted (account_of settings d.seen actor) (heads before) made made_op a.reply a.number a.clock =
    ap (λ (z : Doings). z.account) x.own ∙ ap (λ o. accounted (account_of settings d.seen actor) (heads before) made o a.reply a.number a.clock) op_is in
    let events : own_events e.seen (actor_at e) ≡ own_events d.seen actor ++ own_event made_op a ∷ [] =
    ap (own_events e.seen) same ∙ x.events ∙ ap (λ o. own_events d.seen actor ++ own_event o a ∷ []) op_is in
    let by_account = subst (λ y. FitsAt t.request u.stage u.moved y (own_events d.seen actor ++ own_event made_op a ∷ []) a.number) (sym account) step in
    let by_events = subst (λ es. FitsAt t.request u.stage u.moved (account_of settings e.seen (actor_at e)) es a.number) (sym events) by_account in
    let by_number = subst (λ n. FitsAt t.request u.stage u.moved (account_of settings e.seen (actor_at e)) (own_events e.seen (actor_at e)) n) number by_events in (
      subst (λ (r : ListRequest). 1 ≤ r.zone) (sym request) f.0,
      subst (λ (r : ListRequest). r.zone ≤ settings.zones) (sym request) f.1,
      subst (λ r. FitsAt r u.stage u.moved (account_of settings e.seen (actor_at e)) (own_events e.seen (actor_at e)) (length e.seen)) (sym request) by_number,
    )

between : (low high n : ℕ) → low ≤ n → n ≤ high → is_between low high n ≡ true
between low high n above below =
    let a : nat_le low n ≡ true = grind (arith, nat_tests, above) in
    let b : nat_le n high ≡ true = grind (arith, nat_tests, below) in
    rw (a, b) refl

within : (settings : SettingsView) (zone : ℕ) (other : Bool) → 1 ≤ zone → zone ≤ settings.zones → other ≡ true → (is_between 1 settings.zones zone && other) ≡ true
within settings zone other low high is = rw (between 1 settings.zones zone low high) is

-- each operation of the task but a suggestion needs its zone alone, and a suggestion what the own events told
may_do : (settings : SettingsView) (p : Phase) (r : ListRequest) (stage : Stage) (moved : ℕ) (y : Account) (events : List OwnEvent) (last : ℕ) → p ≡ learnt_from fresh events → 1 ≤ r.zone → r.zone ≤ settings.zones → FitsAt r stage moved y events last → allowed settings p (op_of r stage) ≡ true
may_do settings p r (Look known) moved y events last is low high f = within settings r.zone true low high refl
may_do settings p r (Page m next) moved y events last is low high f = within settings r.zone true low high refl
may_do settings p r (Head m wanted) moved y events last is low high f = within settings r.zone true low high refl
may_do settings p r (Suggest m s) moved y events last is low high f =
    let going = f.0 in
    let heard = f.3 in
    let told = heard.told in
    let op = asks_suggestion r.zone m.row s in
    let k = knows_all settings r.zone untold None (Some op) fresh events going.reads going.inside heard.repairs (knows_first settings r.zone) in
    within settings r.zone (meets_need settings p op) low high (subst (λ q. meets_need settings q op ≡ true) (sym is) (k.may m.row op told.row_is told.some refl))
may_do settings p r Broken moved y events last is low high f = within settings r.zone true low high refl
may_do settings p r (Ended outcome) moved y events last is low high f = within settings r.zone true low high refl

pub may_step : (settings : SettingsView) (d : DoorView) (t : ListTask) (op : Op) → op ≡ op_of t.request t.stage → fits t settings d → allowed settings (phase_of settings d.seen (actor_at d)) op ≡ true
may_step settings d t op is f =
    subst (λ o. allowed settings (phase_of settings d.seen (actor_at d)) o ≡ true) (sym is)
    (may_do settings (phase_of settings d.seen (actor_at d)) t.request t.stage t.moved (account_of settings d.seen (actor_at d)) (own_events d.seen (actor_at d)) (length d.seen) (phase-own settings d.seen (actor_at d)) f.0 f.1 f.2)

-- the outcome is not there
pub is_open : (stage : Stage) → ((outcome : Outcome) → stage ≡ Ended outcome → ⊥) → IsOver stage → ⊥
is_open (Ended outcome) other over = other outcome refl
is_open stage other over = over
