-- A step through a door brings the task on.
use Rattle.std.proofs.Common.{◌≡◌, ◌⊎◌, ℕ, ◌≤◌, true, nat_le, List, [], ◌∷◌, ◌++◌, inl, inr, refl, sym, ◌∙◌, ap, subst, arith}
use Rattle.std.proofs.lemmas.Bool.Decides.{nat_tests}
use Rattle.realm_model.specs.Settings.{SettingsView}
use Rattle.realm_model.specs.States.{at_moment}
use Rattle.realm_model.specs.Accounts.{Account, blank, accounted}
use Rattle.realm_model.specs.Needs.{is_between}
use Rattle.realm_model.specs.Allowed.{allowed}
use Rattle.realm_model.specs.Doors.{DoorView, actor_at}
use Rattle.realm_model.specs.Histories.{Doings, account_of, state_of, world_of, answer_after}
use Rattle.realm_model.specs.Maps.{heads}
use Rattle.realm_model.specs.Owns.{OwnEvent, own_events}
use Rattle.realm_model.specs.Phases.{ActorId, Phase}
use Rattle.realm_model.specs.Suits.{Suits}
use Rattle.realm_model.specs.declared.op.Op.{Op}
use Rattle.realm_model.specs.declared.event.Event.{Event}
use Rattle.realm_model.specs.declared.event.Reply.{Reply}
use Rattle.realm_door.specs.declared.door.Answered.{Answered}
use Rattle.realm_door.specs.Steps.{Extends, own_event}
use Rattle.task_account.specs.declared.asked.Asked.{Asked}
use Rattle.task_account.specs.declared.asked.Asked.TheVariants.{Counts, Rows}
use Rattle.task_account.specs.declared.reply.AccountOutcome.{AccountOutcome}
use Rattle.task_account.specs.declared.reply.AccountReply.{AccountReply}
use Rattle.task_account.specs.declared.request.AccountCommand.{AccountCommand}
use Rattle.task_account.specs.declared.request.AccountCommand.TheVariants.{Head, List as list}
use Rattle.task_account.specs.declared.request.AccountRequest.{AccountRequest}
use Rattle.task_account.specs.declared.stage.Stage.{Stage}
use Rattle.task_account.specs.declared.stage.Stage.TheVariants.{Page, Look, Count, Broken, Ended}
use Rattle.task_account.specs.declared.task.AccountTask.{AccountTask}
use Rattle.task_account.specs.Asking.{asked_of, command_of, empty_reply, IsStart}
use Rattle.task_account.specs.Stages.{IsOver, IsOpen, op_of, step_of}
use Rattle.task_account.specs.Counts.{Tally}
use Rattle.task_account.specs.Tasks.{stage_after, IsWalk, first_stage, stands_at, IsAccountSoFar, request_of, StandsAt, FitsAt, Fits, IsAccountEnd, fits}
use Rattle.task_account.proofs.Orders.{page_answered}
use Rattle.task_account.proofs.Steps.{IsAbove, one_step}

between : (low high n : ℕ) → low ≤ n → n ≤ high → is_between low high n ≡ true
between low high n above below =
    let a : nat_le low n ≡ true = grind (arith, nat_tests, above) in
    let b : nat_le n high ≡ true = grind (arith, nat_tests, below) in
    rw (a, b) refl

-- each operation of the task needs its zone alone
pub may_step : (settings : SettingsView) (p : Phase) (zone : ℕ) (account : List ℕ) (stage : Stage) (op : Op) → op ≡ op_of zone account stage → 1 ≤ zone → zone ≤ settings.zones → allowed settings p op ≡ true
may_step settings p zone account (Page reply last) op is low high = subst (λ o. allowed settings p o ≡ true) (sym is) (rw (between 1 settings.zones zone low high) refl)
may_step settings p zone account (Look v) op is low high = subst (λ o. allowed settings p o ≡ true) (sym is) (rw (between 1 settings.zones zone low high) refl)
may_step settings p zone account (Count v c) op is low high = subst (λ o. allowed settings p o ≡ true) (sym is) (rw (between 1 settings.zones zone low high) refl)
may_step settings p zone account Broken op is low high = subst (λ o. allowed settings p o ≡ true) (sym is) (rw (between 1 settings.zones zone low high) refl)
may_step settings p zone account (Ended outcome) op is low high = subst (λ o. allowed settings p o ≡ true) (sym is) (rw (between 1 settings.zones zone low high) refl)

-- the outcome is not there
pub is_open : (stage : Stage) → ((outcome : AccountOutcome) → stage ≡ Ended outcome → ⊥) → IsOver stage → ⊥
is_open (Ended outcome) other over = other outcome refl
is_open stage other over = over

-- ---- the order of events

module _ (zone : ℕ) (account : List ℕ) (asked : Asked) where
  stage_more : (at : Stage × ℕ) (events : List OwnEvent) (e : OwnEvent) → stage_after account asked at (events ++ e ∷ []) ≡ step_of account asked (stage_after account asked at events).0 (stage_after account asked at events).1 e.reply
  stage_more at [] e = refl
  stage_more at (d ∷ events) e = stage_more (step_of account asked at.0 at.1 d.reply) events e

  walk_more : (at : Stage × ℕ) (events : List OwnEvent) (e : OwnEvent) → IsWalk zone account asked at events → IsOpen (stage_after account asked at events).0 → e.op ≡ op_of zone account (stage_after account asked at events).0
      → IsWalk zone account asked at (events ++ e ∷ [])
  walk_more at [] e walk going is = ((going, is), tt)
  walk_more at (d ∷ events) e walk going is = (walk.0, walk_more (step_of account asked at.0 at.1 d.reply) events e walk.1 going is)

-- ---- first and last

empty_tally : (r : AccountRequest) → Tally r.zone r.account (asked_of r.command) (empty_reply (asked_of r.command)) [] []
empty_tally r = by (asked_of r.command)
  where
    by : (asked : Asked) → Tally r.zone r.account asked (empty_reply asked) [] []
    by Counts = record { found = []; names_are = refl; each = tt; is_reply = (omega arith, omega arith, omega arith) }
    by (Rows c) = record { found = []; names_are = refl; each = tt; is_reply = (refl, refl, omega arith) }

-- a task that made no event
pub fits_first : (r : AccountRequest) (start : List ℕ) (y : Account) (events : List OwnEvent) → IsStart (asked_of r.command) start → y ≡ blank → events ≡ [] → Fits r (Page (empty_reply (asked_of r.command)) start) 0 y events
fits_first r start y events begins no_account no_events =
    subst (λ x. Fits r (Page (empty_reply (asked_of r.command)) start) 0 x events) (sym no_account)
    (subst (λ es. Fits r (Page (empty_reply (asked_of r.command)) start) 0 blank es) (sym no_events)
    (record {
      so_far = record { start = start; begins = begins; in_order = tt };
      stands = inr refl;
      told = (
        record { rise = tt; moved_is = refl; few = omega arith; untouched = record { undecided = refl; unchanged = refl } },
        record { tally = empty_tally r; is_last = refl; unread = λ name above. refl },
      );
    }))

again : (command : AccountCommand) → asked_of (command_of (asked_of command)) ≡ asked_of command
again Head = refl
again (list l) = refl

asked_again : (command : AccountCommand) (asked : Asked) → asked ≡ asked_of command → asked ≡ asked_of (command_of asked)
asked_again command asked is = is ∙ sym (again command) ∙ ap (λ k. asked_of (command_of k)) (sym is)

-- what is asked is what the command asks, and the task that begins so made no event
pub fits_new : (zone : ℕ) (account : List ℕ) (command : AccountCommand) (asked : Asked) (reply : AccountReply) (start : List ℕ) (y : Account) (events : List OwnEvent) → asked ≡ asked_of command → IsStart asked start → reply ≡ empty_reply asked → y ≡ blank → events ≡ []
    → (asked ≡ asked_of (command_of asked)) × Fits (record { zone = zone; account = account; command = command_of asked }) (Page reply start) 0 y events
fits_new zone account command asked reply start y events is begins nothing no_account no_events =
    let r : AccountRequest = record { zone = zone; account = account; command = command_of asked } in
    let same = asked_again command asked is in (
      same,
      subst (λ x. Fits r (Page x start) 0 y events) (sym (nothing ∙ ap empty_reply same))
          (fits_first r start y events (subst (λ k. IsStart k start) same begins) no_account no_events),
    )

ended_is : (r : AccountRequest) (start : List ℕ) (outcome : AccountOutcome) (moved : ℕ) (events : List OwnEvent) → StandsAt r start (Ended outcome) moved events → (stands_at r start events).0 ≡ Ended outcome
ended_is r start outcome moved events (inl broken) = cc
ended_is r start outcome moved events (inr stands) = sym (ap (λ (s : Stage × ℕ). s.0) stands)

-- the end
pub fits_end : (r : AccountRequest) (outcome : AccountOutcome) (moved : ℕ) (y : Account) (events : List OwnEvent) → Fits r (Ended outcome) moved y events → IsAccountEnd r outcome y events
fits_end r outcome moved y events f = record {
  so_far = f.so_far;
  ends = ended_is r (f.so_far).start outcome moved events f.stands;
  is_outcome = f.told;
}

-- ---- one event

broken_open : {A : Type 0} (stage : Stage) → stage ≡ Broken → IsOpen stage → A
broken_open stage is going = absurd (subst IsOpen is going)

module _ (r : AccountRequest) (y : Account) (events : List OwnEvent) (e : OwnEvent) (after : Account) where
  fits_stage : (stage next : Stage) (moved now : ℕ) (f : Fits r stage moved y events) → (stage, moved) ≡ stands_at r (f.so_far).start events → IsOpen stage → e.op ≡ op_of r.zone r.account stage
      → FitsAt r (f.so_far).start (step_of r.account (asked_of r.command) stage moved e.reply).0 (step_of r.account (asked_of r.command) stage moved e.reply).1 after (events ++ e ∷ [])
      → (next ≡ Broken) ⊎ ((next, now) ≡ step_of r.account (asked_of r.command) stage moved e.reply) → Fits r next now after (events ++ e ∷ [])
  fits_stage stage next moved now f stands going is told went =
      let asked = asked_of r.command in
      let at = first_stage asked (f.so_far).start in
      let stage_is : stage ≡ (stands_at r (f.so_far).start events).0 = ap (λ (s : Stage × ℕ). s.0) stands in
      let walk = walk_more r.zone r.account asked at events e (f.so_far).in_order (subst IsOpen stage_is going) (is ∙ ap (op_of r.zone r.account) stage_is) in
      let stepped : step_of r.account asked stage moved e.reply ≡ stands_at r (f.so_far).start (events ++ e ∷ []) =
      ap (λ (s : Stage × ℕ). step_of r.account asked s.0 s.1 e.reply) stands ∙ sym (stage_more r.zone r.account asked at events e) in
      let so_far : IsAccountSoFar r (events ++ e ∷ []) = record { start = (f.so_far).start; begins = (f.so_far).begins; in_order = walk } in
      elim went [
        | inl broken ↦ record { so_far = so_far; stands = inl broken; told = subst (λ s. FitsAt r (f.so_far).start s now after (events ++ e ∷ [])) (sym broken) tt }
        | inr took ↦ record {
          so_far = so_far;
          stands = inr (took ∙ stepped);
          told = subst (λ (s : Stage × ℕ). FitsAt r (f.so_far).start s.0 s.1 after (events ++ e ∷ [])) (sym took) told;
        }
      ]

above_last : (settings : SettingsView) (r : AccountRequest) (stage : Stage) (before : List Event) (moment : ℕ) (reply : Reply) (start : List ℕ) (moved : ℕ) (y : Account) (events : List OwnEvent) (number clock : ℕ)
    → reply ≡ answer_after settings before (op_of r.zone r.account stage) moment → IsAbove r start moved y events number clock (heads before) (world_of settings before).stripes.made stage reply
above_last settings r (Page so_far last) before moment reply start moved y events number clock answer = page_answered settings (at_moment (state_of settings before) moment) r.zone r.account last reply answer
above_last settings r stage before moment reply start moved y events number clock answer = tt

pub fits_next : (settings : SettingsView) (d e : DoorView) (t u : AccountTask) (op : Op) (moment : ℕ) (a : Answered) → IsOpen t.stage → op ≡ op_of t.zone t.account t.stage → Suits (op_of t.zone t.account t.stage) a.reply
    → u.zone ≡ t.zone → u.account ≡ t.account → u.asked ≡ t.asked → (u.stage ≡ Broken) ⊎ ((u.stage, u.moved) ≡ step_of t.account t.asked t.stage t.moved a.reply)
    → fits t settings d → Extends settings d op moment a e → fits u settings e
fits_next settings d e t u op moment a is_open op_is suits zone account asked went f x =
    let before : List Event = d.seen ++ x.between in
    let actor : ActorId = actor_at d in
    let r : AccountRequest = request_of t in
    let own = own_events d.seen actor in
    let y = account_of settings d.seen actor in
    let made = (world_of settings before).stripes.made in
    let made_op = op_of t.zone t.account t.stage in
    let pass = (x.grows).pass in
    let count = (x.grows).count in
    let same : actor_at e ≡ actor = λ i. record { pass = pass i; count = count i } in
    let after = accounted y (heads before) made made_op a.reply a.number a.clock in
    let account_is : account_of settings e.seen (actor_at e) ≡ after =
    ap (λ (z : Doings). z.account) x.own ∙ ap (λ o. accounted y (heads before) made o a.reply a.number a.clock) op_is in
    let events : own_events e.seen (actor_at e) ≡ own ++ own_event made_op a ∷ [] =
    ap (own_events e.seen) same ∙ x.events ∙ ap (λ o. own ++ own_event o a ∷ []) op_is in
    let by_asked : (u.stage ≡ Broken) ⊎ ((u.stage, u.moved) ≡ step_of r.account (asked_of r.command) t.stage t.moved a.reply) =
    subst (λ k. (u.stage ≡ Broken) ⊎ ((u.stage, u.moved) ≡ step_of t.account k t.stage t.moved a.reply)) f.2 went in
    let old : Fits r t.stage t.moved y own = f.3 in
    let answer : a.reply ≡ answer_after settings before made_op moment = x.answer ∙ ap (λ o. answer_after settings before o moment) op_is in
    let next : Fits r u.stage u.moved after (own ++ own_event made_op a ∷ []) =
    elim old.stands [
      | inl broken ↦ broken_open t.stage broken is_open
      | inr stands ↦
          fits_stage r y own (own_event made_op a) after t.stage u.stage t.moved u.moved old stands is_open refl
          (one_step r (old.so_far).start t.moved y own a.number a.clock (heads before) made t.stage a.reply is_open suits
          (above_last settings r t.stage before moment a.reply (old.so_far).start t.moved y own a.number a.clock answer) old.told)
          by_asked
    ] in
    let same_request : request_of u ≡ r = λ i. record { zone = zone i; account = account i; command = command_of (asked i) } in (
      subst (λ z. 1 ≤ z) (sym zone) f.0,
      subst (λ z. z ≤ settings.zones) (sym zone) f.1,
      subst (λ k. k ≡ asked_of (command_of k)) (sym asked) f.2,
      subst (λ q. Fits q u.stage u.moved (account_of settings e.seen (actor_at e)) (own_events e.seen (actor_at e))) (sym same_request)
          (subst (λ z. Fits r u.stage u.moved z (own_events e.seen (actor_at e))) (sym account_is)
          (subst (λ es. Fits r u.stage u.moved after es) (sym events) next)),
    )
