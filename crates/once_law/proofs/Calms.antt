-- An actor that makes its events at one moment, on objects alone, meets no hold, no shard that does not serve, and no tag that
-- came to its end.
use Rattle.std.proofs.Common.{◌≡◌, ℕ, ◌≤◌, ◌<◌, Bool, true, false, cond, List, [], ◌∷◌, ◌++◌, Some, None, Option, refl, sym, ◌∙◌, ap, subst, arith, nat_le, nat_lt, ◌^◌, ◌-◌, min, append_assoc}
use Rattle.std.specs.List.{AllByRecursion}
use Rattle.std.proofs.lemmas.List.{append-nil}
use Rattle.std.proofs.lemmas.Bool.Decides.{nat_tests}
use Rattle.rgw_types.specs.declared.pool_key.Key.{Key}
use Rattle.rgw_model.specs.Stamps.{counted_moment}
use Rattle.object_words.specs.declared.entry.Guard.{Guard}
use Rattle.object_words.specs.declared.head.Changed.{Changed}
use Rattle.object_words.specs.declared.head.Conditions.{Conditions}
use Rattle.object_words.specs.declared.head.NewHead.{NewHead}
use Rattle.object_words.specs.declared.why.Why.TheVariants.{Held, Moved, Closed, Expired, NotMet, NoSpace}
use Rattle.object_words.specs.Conditions.{fails}
use Rattle.object_words.specs.Heads.{Head, etag_of, seen_stamp, frames_for}
use Rattle.object_words.specs.HeadCalls.{guard_refusal, condition_refusal, space_refusal, write_refusal}
use Rattle.object_words.specs.Keys.{head_key, shard_key}
use Rattle.object_words.specs.Refusals.{first_refusal}
use Rattle.object_words.specs.ShardCalls.{prepare_refusal}
use Rattle.object_words.specs.Shards.{Shard}
use Rattle.object_words.specs.Tags.{guard_of}
use Rattle.realm_model.specs.Settings.{SettingsView, IsSettings}
use Rattle.realm_model.specs.Ops.{zone_of}
use Rattle.realm_model.specs.States.{State, number_next, clock_at, at_moment}
use Rattle.realm_model.specs.Steps.{reply_or, on_shard, new_tag, reply_of}
use Rattle.realm_model.specs.Phases.{ActorId, Stage, over, OwnTag, OwnChange, Phase, fresh}
use Rattle.realm_model.specs.Needs.{is_between, may_change_head}
use Rattle.realm_model.specs.Allowed.{meets_need}
use Rattle.realm_model.specs.Learnt.{at_stage, with_try, announced, changed, tag_after}
use Rattle.realm_model.specs.Accounts.{HoldMet, ExpiredCount, Account, blank, looked_since, is_left, moved_after, lateness_after, held_after}
use Rattle.realm_model.specs.Worlds.{start, actor_of}
use Rattle.realm_model.specs.Histories.{Doings, world_of, state_of, phase_of, account_of, Legal}
use Rattle.realm_model.specs.declared.op.Op.{Op}
use Rattle.realm_model.specs.declared.op.Op.TheVariants.{Prepare, Complete, Cancel, Page, Stats, HeadWrite, Announce}
use Rattle.realm_model.specs.declared.event.Reply.{Reply}
use Rattle.realm_model.specs.declared.event.Reply.TheVariants.{No, Prepared, Changed as changed_reply, Position}
use Rattle.realm_model.specs.declared.event.Event.{Event}
use Rattle.realm_model.proofs.Computing.{left_of, right_of}
use Rattle.realm_model.proofs.Doing.{doings-next}
use Rattle.realm_model.proofs.Runs.{legal_front, last_is_next}
use Rattle.index_law.specs.Invariants.{IndexHolds}
use Rattle.index_law.specs.Serving.{IsServing, IsMade}
use Rattle.index_law.proofs.Consequences.{holds_at, shards_at}
use Rattle.index_law.proofs.Served.{open_shards_serve}
use Rattle.index_law.proofs.Tests.{writes}
use Rattle.once_law.proofs.Standing.{Standing, stands_one_more}
use Rattle.once_law.proofs.Calm.{is_of_task, IsShardKey, own_key, prepare_key, complete_key, cancel_key, prepare_stays, ends_stay, page_stays, shard_shape, holds_none, left_count, made_by_look, task_keeps}
use Rattle.once_law.proofs.Moments.{same_clock, clock_behind}
use Rattle.once_law.specs.Runs.{AreAt}

-- ---- a tag's deadline

pub guard_in : Option OwnTag → Option Guard
guard_in None = None
guard_in (Some t) = Some t.guard

-- the own tag ends later
pub DueAfter : ℕ → Option OwnTag → Type 0
DueAfter clock tag = (g : Guard) → guard_in tag ≡ Some g → clock < g.deadline

is_prepared : Op → Reply → Bool
is_prepared (Prepare zone key name) (Prepared guard) = true
is_prepared op reply = false

staged : (tag : Option OwnTag) (stage : Stage) → guard_in (at_stage tag stage) ≡ guard_in tag
unfolding guard_in
staged None stage = refl
staged (Some t) stage = refl

tried_again : (tag : Option OwnTag) (moved : Option ℕ) → guard_in (with_try tag moved) ≡ guard_in tag
unfolding guard_in
tried_again None moved = refl
tried_again (Some t) moved = refl

told : (tag : Option OwnTag) (zone : ℕ) (key : Key) → guard_in (announced tag zone key) ≡ guard_in tag
unfolding guard_in
told None zone key = refl
told (Some t) zone key = refl

made : (tag : Option OwnTag) (change : OwnChange) → guard_in (changed tag change) ≡ guard_in tag
unfolding guard_in
made None change = refl
made (Some t) change = refl

-- only a preparation gives another guard
guard_kept : (tag : Option OwnTag) (op : Op) (reply : Reply) (number : ℕ) → is_prepared op reply ≡ false → guard_in (tag_after tag op reply number) ≡ guard_in tag
unfolding is_prepared
guard_kept tag (Prepare zone key name) (Prepared guard) number is = let e : true ≡ false = is in absurd (cc)
guard_kept tag (Prepare zone key name) reply number is = staged tag over
guard_kept tag (Announce zone container instance shard bucket) (Position position) number is = told tag zone (shard_key container instance shard)
guard_kept tag (HeadWrite zone container name guard new when) (changed_reply change) number is = made tag (record { version = change.version; row = change.row })
guard_kept tag (Complete zone key name t version row) (No (Moved instance)) number is = tried_again tag (Some number)
guard_kept tag (Complete zone key name t version row) (No Closed) number is = tried_again tag None
guard_kept tag (Complete zone key name t version row) reply number is = staged tag over
guard_kept tag (Cancel zone key name t) reply number is = staged tag over
guard_kept tag op reply number is = refl

-- ---- an event more

module _ (settings : SettingsView) (st : State) where
  -- a tag that is given lives on
  new_deadline : (zone : ℕ) (key : Key) (name : List ℕ) (g : Guard) → st.clock ≤ 2 ^ 58 → 1 ≤ settings.tag_life → Prepared g ≡ reply_of settings st (Prepare zone key name) → st.clock < g.deadline
  new_deadline zone key name g early life =
      elim (st.shards zone key) as (λ o. Prepared g ≡ on_shard o (λ s. reply_or (Prepared (guard_of (new_tag settings st))) (prepare_refusal s)) → st.clock < g.deadline) [
        | None ↦ λ said. absurd (cc)
        | Some s ↦ elim (prepare_refusal s) as (λ r. Prepared g ≡ reply_or (Prepared (guard_of (new_tag settings st))) r → st.clock < g.deadline) [
          | None ↦ λ said.
              let same : g ≡ guard_of (new_tag settings st) = cc in
              let deadline = ap (λ (x : Guard). x.deadline) same in
              omega (arith, deadline, early, life)
          | Some why ↦ λ said. absurd (cc)
        ]
      ]

  due_next : (tag : Option OwnTag) (op : Op) (reply : Reply) (number : ℕ) → st.clock ≤ 2 ^ 58 → 1 ≤ settings.tag_life → reply ≡ reply_of settings st op → DueAfter st.clock tag → DueAfter st.clock (tag_after tag op reply number)
  unfolding DueAfter guard_in is_prepared
  due_next tag (Prepare zone key name) (Prepared guard) number early life answer due g is =
      let same : guard ≡ g = cc in
      subst (λ (x : Guard). st.clock < x.deadline) same (new_deadline zone key name guard early life answer)
  due_next tag op reply number early life answer due g is = due g (sym (guard_kept tag op reply number refl) ∙ is)

-- a tag that is not due lets a head be changed
in_time : (guard : Guard) (clock : ℕ) → clock < guard.deadline → guard_refusal guard clock ≡ None
in_time guard clock late =
    let test : nat_le guard.deadline clock ≡ false = grind (arith, nat_tests) in
    ap (λ b. cond b (Some (Expired guard.deadline clock)) None) test

no_expiry : (head : Head) (guard : Guard) (new : NewHead) (when : Conditions) (clock free frame : ℕ) (change : Changed) (deadline late : ℕ) → clock < guard.deadline
    → No (Expired deadline late) ≡ reply_or (changed_reply change) (write_refusal head guard new when clock free frame) → ⊥
no_expiry head guard new when clock free frame change deadline late early said =
    let rest = first_refusal (condition_refusal when head.slot) (space_refusal free (frames_for frame new.first)) in
    let e : No (Expired deadline late) ≡ reply_or (changed_reply change) rest =
    said ∙ ap (λ r. reply_or (changed_reply change) (first_refusal r rest)) (in_time guard clock early) in
    elim (fails when (etag_of head.slot)) as (λ b. No (Expired deadline late) ≡ reply_or (changed_reply change) (first_refusal (cond b (Some (NotMet (seen_stamp head.slot))) None) (space_refusal free (frames_for frame new.first))) → ⊥) [
      | true ↦ λ is. absurd (cc)
      | false ↦ λ is. by_space (frames_for frame new.first) is
    ] e
  where
    by_space : (needed : ℕ) → No (Expired deadline late) ≡ reply_or (changed_reply change) (space_refusal free needed) → ⊥
    by_space needed =
        elim (nat_lt free needed) as (λ b. No (Expired deadline late) ≡ reply_or (changed_reply change) (cond b (Some (NoSpace free (min needed (2 ^ 32 - 1)))) None) → ⊥) [
          | true ↦ λ is. absurd (cc)
          | false ↦ λ is. absurd (cc)
        ]

late_next : (x : ExpiredCount) (op : Op) (reply : Reply) (number : ℕ) → x.count ≡ 0
    → ((zone container : ℕ) (name : List ℕ) (guard : Guard) (new : NewHead) (when_asked : Conditions) (deadline late : ℕ) → op ≡ HeadWrite zone container name guard new when_asked → reply ≡ No (Expired deadline late) → ⊥)
    → (lateness_after x op reply number).count ≡ 0
late_next x (HeadWrite zone container name guard new when) (No (Expired deadline late)) number none apart = absurd (apart zone container name guard new when deadline late refl refl)
late_next x op reply number none apart = none

held_next : (settings : SettingsView) (st : State) (held : Option HoldMet) (op : Op) (reply : Reply) (number : ℕ) → ((zone : ℕ) (key : Key) (s : Shard) → st.shards zone key ≡ Some s → IsServing s) → reply ≡ reply_of settings st op → held ≡ None → held_after held op reply number ≡ None
held_next settings st held (Prepare zone key name) (No (Held id)) number serving answer none = absurd (holds_none settings st zone key name id (serving zone key) answer)
held_next settings st held op reply number serving answer none = none

-- ---- from a history on

module _ (settings : SettingsView) (good : IsSettings settings) (base : List Event) (moment : ℕ) where
  pub record Calm (history : List Event) (y : Account) (p : Phase) : Type 0 where
    pub clock : (state_of settings history).clock ≤ counted_moment moment
    pub due : DueAfter (counted_moment moment) p.tag
    pub expired : (y.expired).count ≡ 0
    pub moved : (y.moved).count ≡ 0
    pub held : y.held ≡ None

  module _ (history : List Event) (e : Event) (legal : Legal settings (history ++ e ∷ [])) (at : e.moment ≡ moment) (of_task : is_of_task e.op ≡ true)
      (standing : Standing settings base history (account_of settings history (actor_of e))) (calm : Calm history (account_of settings history (actor_of e)) (phase_of settings history (actor_of e))) where
    abbrev actor : ActorId
    actor = actor_of e

    abbrev y : Account
    y = account_of settings history actor

    abbrev p : Phase
    p = phase_of settings history actor

    abbrev st : State
    st = at_moment (state_of settings history) e.moment

    now : st.clock ≡ counted_moment moment
    now = ap (clock_at (state_of settings history).clock) at ∙ same_clock (state_of settings history).clock moment calm.clock

    early : counted_moment moment ≤ 2 ^ 58
    early = omega arith

    may : meets_need settings p e.op ≡ true
    may = right_of (is_between 1 settings.zones (zone_of e.op)) (meets_need settings p e.op) (last_is_next settings history e legal).may

    answer : e.reply ≡ reply_of settings st e.op
    answer = (last_is_next settings history e legal).answer

    j : IndexHolds (world_of settings history)
    j = holds_at settings history (e ∷ []) good legal

    serving : (zone : ℕ) (key : Key) (s : Shard) → st.shards zone key ≡ Some s → IsServing s
    serving = open_shards_serve settings history standing.opened.closes

    own : (t : OwnTag) → p.tag ≡ Some t → IsShardKey t.key
    own = own_key settings history actor j

    found : (zone : ℕ) (key : Key) (shape : IsShardKey key) (last : ℕ) → looked_since y.looked last zone key ≡ true → IsMade st.shards zone key
    found zone key shape last named =
        made_by_look settings base st standing.roots (shards_at settings history (e ∷ []) legal).of_rows y.looked standing.looked zone key shape last named

    moved_next : (op : Op) (reply : Reply) (number : ℕ) → is_of_task op ≡ true → meets_need settings p op ≡ true → reply ≡ reply_of settings st op → (moved_after y.moved y.looked op reply number).count ≡ 0
    moved_next op reply number task need said = by_op op task need said
      where
        by_op : (op : Op) → is_of_task op ≡ true → meets_need settings p op ≡ true → reply ≡ reply_of settings st op → (moved_after y.moved y.looked op reply number).count ≡ 0
        by_op (Prepare zone key name) task need said =
            left_count y.moved y.looked zone key reply number calm.moved (λ left named.
            let m = found zone key (prepare_key settings p own zone key name need) (y.moved).last named in
            let stays = prepare_stays settings st zone key name m.shard m.there (serving zone key m.shard m.there) in
            let clash : false ≡ true = sym stays ∙ ap is_left (sym said) ∙ left in
            cc)
        by_op (Complete zone key name tag version row) task need said =
            left_count y.moved y.looked zone key reply number calm.moved (λ left named.
            let m = found zone key (complete_key settings p own zone key name tag version row need) (y.moved).last named in
            let stays = ends_stay settings st zone key name m.shard m.there (serving zone key m.shard m.there) tag in
            let clash : false ≡ true = sym stays ∙ ap is_left (sym said) ∙ left in
            cc)
        by_op (Cancel zone key name tag) task need said =
            left_count y.moved y.looked zone key reply number calm.moved (λ left named.
            let m = found zone key (cancel_key settings p own zone key name tag need) (y.moved).last named in
            let stays = ends_stay settings st zone key name m.shard m.there (serving zone key m.shard m.there) tag in
            let clash : false ≡ true = sym stays ∙ ap is_left (sym said) ∙ left in
            cc)
        by_op (Page zone key from limit) task need said =
            left_count y.moved y.looked zone key reply number calm.moved (λ left named.
            let m = found zone key (shard_shape key task) (y.moved).last named in
            let stays = page_stays settings st zone key [] m.shard m.there (serving zone key m.shard m.there) from limit in
            let clash : false ≡ true = sym stays ∙ ap is_left (sym said) ∙ left in
            cc)
        by_op (Stats zone key) task need said = let clash : false ≡ true = task in absurd (cc)
        by_op op task need said = calm.moved

    in_its_time : (zone container : ℕ) (name : List ℕ) (guard : Guard) (new : NewHead) (when_asked : Conditions) (deadline late : ℕ) → e.op ≡ HeadWrite zone container name guard new when_asked → e.reply ≡ No (Expired deadline late) → ⊥
    unfolding DueAfter guard_in
    in_its_time zone container name guard new when deadline late op reply =
        let need : meets_need settings p (HeadWrite zone container name guard new when) ≡ true = subst (λ o. meets_need settings p o ≡ true) op may in
        let w = writes p zone container name guard (left_of (may_change_head p zone container name guard) _ need) in
        let t = (w.owns).t in
        let due : counted_moment moment < (t.guard).deadline = calm.due t.guard (ap guard_in (w.owns).is) in
        let deadline_is = w.deadline_is in
        let said : No (Expired deadline late) ≡ reply_of settings st (HeadWrite zone container name guard new when) = sym reply ∙ answer ∙ ap (reply_of settings st) op in
        no_expiry (st.heads zone (head_key container name)) guard new when st.clock (st.free zone) settings.frame _ deadline late (omega (arith, due, deadline_is, now)) said

    calm_next : Calm (history ++ e ∷ []) (account_of settings (history ++ e ∷ []) actor) (phase_of settings (history ++ e ∷ []) actor)
    calm_next =
        let number = number_next (state_of settings history) in
        let doings = doings-next settings history e in
        let life = (good.tag_life).least in
        let early' : st.clock ≤ 2 ^ 58 = omega (arith, now, early) in
        let due = due_next settings st p.tag e.op e.reply number early' (omega (arith, life)) answer (subst (λ c. DueAfter c p.tag) (sym now) calm.due) in
        subst (λ (d : Doings). Calm (history ++ e ∷ []) d.account d.phase) (sym doings) (record {
          clock = clock_behind settings history (e ∷ []) moment calm.clock (at, tt);
          due = subst (λ c. DueAfter c (tag_after p.tag e.op e.reply number)) now due;
          expired = late_next y.expired e.op e.reply number calm.expired in_its_time;
          moved = moved_next e.op e.reply number of_task may answer;
          held = held_next settings st y.held e.op e.reply number serving answer calm.held;
        })

  module _ (who : ActorId) where
    pub calm_behind : (history es : List Event) → Legal settings (history ++ es) → AllByRecursion (λ e. actor_of e ≡ who) es → AllByRecursion (λ e. is_of_task e.op ≡ true) es → AreAt moment es
        → Standing settings base history (account_of settings history who) → Calm history (account_of settings history who) (phase_of settings history who)
        → Calm (history ++ es) (account_of settings (history ++ es) who) (phase_of settings (history ++ es) who)
    calm_behind history [] legal by tasks at standing calm =
        subst (λ l. Calm l (account_of settings l who) (phase_of settings l who)) (sym (append-nil history)) calm
    calm_behind history (e ∷ es) legal by tasks at standing calm =
        let whole = append_assoc history (e ∷ []) es in
        let legal' = subst (Legal settings) (sym whole) legal in
        let front = legal_front settings (start settings) (history ++ e ∷ []) es legal' in
        let next = stands_one_more settings base who history e front by.0 (task_keeps e.op tasks.0) standing in
        let here = subst (λ a. Standing settings base history (account_of settings history a)) (sym by.0) standing in
        let calm' = subst (λ a. Calm history (account_of settings history a) (phase_of settings history a)) (sym by.0) calm in
        let more = subst (λ a. Calm (history ++ e ∷ []) (account_of settings (history ++ e ∷ []) a) (phase_of settings (history ++ e ∷ []) a)) by.0 (calm_next history e front at.0 tasks.0 here calm') in
        subst (λ l. Calm l (account_of settings l who) (phase_of settings l who)) whole (calm_behind (history ++ e ∷ []) es legal' by.1 tasks.1 at.1 next more)

  pub calm_first : (state_of settings base).clock ≤ counted_moment moment → Calm base blank fresh
  unfolding DueAfter guard_in
  calm_first low = record { clock = low; due = λ g is. absurd (cc); expired = refl; moved = refl; held = refl }
