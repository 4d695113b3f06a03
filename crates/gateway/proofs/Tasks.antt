-- A task of the next actor of a pass, as one request of a connection.
use Rattle.std.proofs.Common.{◌≡◌, ◌≢◌, inl, inr, ℕ, ◌+◌, Bool, true, false, List, [], ◌++◌, length, Option, None, Result, Ok, Err, refl, sym, ap, ◌∙◌, subst, subst₂, append-nil}
use Rattle.std.specs.Prelude.{IfOk, IfErr}
use Rattle.std.proofs.KnownBytes.{Appends-trans}
use Rattle.std.specs.Io.KnownBytes.{Consumes, Appends}
use Rattle.http_intake.specs.Intake.{IntakeState}
use Rattle.http_model.specs.declared.head.Head.{Head}
use Rattle.http_model.specs.declared.reply.ReplyForm.{ReplyForm}
use Rattle.realm_model.specs.Accounts.{Account}
use Rattle.realm_model.specs.Histories.{account_of}
use Rattle.realm_model.specs.Owns.{OwnEvent, own_from, own_events, clock_after}
use Rattle.realm_model.specs.Phases.{ActorId}
use Rattle.realm_model.specs.Doors.{DoorView, actor_at}
use Rattle.realm_model.specs.declared.event.Event.{Event}
use Rattle.realm_door.specs.Steps.{Grows, actor_of_pass, next_count, begun}
use Rattle.realm_door.proofs.Others.{own-append}
use Rattle.swift_requests.specs.declared.asked.Asked.{Asked}
use Rattle.swift_requests.specs.Bodies.{is_unread, is_awaited}
use Rattle.swift_requests.specs.declared.asked.Asked.TheVariants.{Put}
use Rattle.swift_requests.specs.declared.body.BodyUse.{BodyUse}
use Rattle.swift_requests.specs.declared.body.BodyUse.TheVariants.{Fed, Awaited, Dropped, Unread}
use Rattle.task_words.specs.declared.command.PutCommand.{PutCommand}
use Rattle.task_words.specs.Outcomes.{Body}
use Rattle.swift_auth.specs.declared.policy.Deed.TheVariants.{ChangeThing}
use Rattle.call_words.specs.Bodies.{Fate, read_whole, broken_off, unread, is_left, stays_unread, Suits}
use Rattle.call_words.specs.Ends.{TaskEnd, body_failed}
use Rattle.call_words.specs.Calls.{task, text_by, is_waiting, IsBorneOut, IsSoFar, IsLeftByRow, ReadsRowAlone, ReadsRowFirst, first_refuses}
use Rattle.call_words.specs.Texts.{continue_text, continue_if}
use Rattle.call_service.specs.Bodies.{HasFate, FallsBehind}
use Rattle.call_service.specs.Waiting.{Continues, IsServedWaiting, IsStoppedWaiting, IsPutServed, IsPutStopped}
use Rattle.door_moments.proofs.Asking.{both_ask}
use Rattle.call_service.proofs.Passing.{left_given, give_all, break_behind, fall_behind}
use Rattle.call_service.proofs.Replying.{any_actor}
use Rattle.call_service.specs.Serving.{Site, Side, side, is_by_end, form_at, body_of, BearsOut, BearsOutSoFar, IsReplied, LeavesUnwritten, StopsShort, IsServed, IsStopped}
use Rattle.door_moments.specs.Acts.{own_moments, Acts, Asks, Tells}
use Rattle.call_service.specs.declared.fault.ServeFault.{ServeFault}
use Rattle.call_service.specs.declared.fault.ServeFault.TheVariants as faults
use Rattle.call_service.specs.declared.served.Served.{Served}
use Rattle.call_service.specs.declared.served.Served.TheVariants as services
use Rattle.realm_model.specs.Settings.{SettingsView}
use Rattle.task_words.specs.declared.asker.Asker.{Asker}
use Rattle.gateway.specs.Calls.{site_of, DoesSoFar, MayBegin, IsSettled}
use Rattle.gateway.specs.Requests.{IsLeftBy, IsUnanswered, IsLetIn, FallsShort, Replies, LeavesAsked, Serves, Stops, text_before}
use Rattle.gateway.proofs.Growing.{new_actor, new_moments, grown_count, grown_most, advances_one}
use Rattle.gateway.specs.Texts.{is_failing, is_refusing}
use Rattle.gateway.proofs.Deciding.{not_blank}
use Rattle.gateway.proofs.Fates.{IsReadIn, fed_suits, fed_read, fed_open, left_shut, unread_quiet, not_failing}
use Rattle.gateway.proofs.Heads.{IsOfPut}

module _ (alone : Type 0) (site : Site) (d e : DoorView) (moments : List ℕ) (may : MayBegin site.settings d) (acts : Acts alone site.settings (begun d) e moments) where
  actor : ActorId
  actor = actor_of_pass d.pass (next_count d)

  same_actor_at : actor_at e ≡ actor_of_pass d.pass (next_count d)
  same_actor_at = λ i. record { pass = acts.grows.pass i; count = acts.grows.count i }

  pub all_own : moments ≡ own_moments e.seen (actor_of_pass d.pass (next_count d))
  all_own = sym (acts.each ∙ ap (λ l. l ++ moments) (new_moments site.settings d may))

  pub left_by : IsLeftBy alone site d e
  left_by = record {
    begun = grown_most site.settings d e acts.grows;
    advances = advances_one site.settings d e may acts.legal acts.grows;
    only = λ is. let o = acts.only is in (o.more, o.grows, o.own);
  }

  pub so_far_by : (asked : Asked) (body : Body) → BearsOutSoFar site asked body e → DoesSoFar site asked body d.pass (next_count d) e.seen
  so_far_by asked body done =
      subst (λ (a : ActorId). IsSoFar site.settings site.zone asked body (account_of site.settings e.seen a) (own_events e.seen a)) same_actor_at done

  pub let_in_by : (asked : Asked) (plan : BodyUse) → IsLeftByRow site.zone asked (is_awaited plan) read_whole (own_events e.seen (actor_at e)) → IsLetIn site asked plan d.pass (next_count d) e.seen
  let_in_by asked plan row = subst (λ (a : ActorId). IsLeftByRow site.zone asked (is_awaited plan) read_whole (own_events e.seen a)) same_actor_at row

  pub settled_by : (asked : Asked) (head : Head) (fate : Fate) (body shown : List ℕ) (outcome : TaskEnd) → BearsOut site asked fate body outcome shown e
      → IsLeftByRow site.zone asked (is_waiting asked head) fate (own_events e.seen (actor_at e))
      → IsSettled alone site d e (record { request = record { head = head; body = body }; asked = asked; fate = fate; ground = task (next_count d) outcome; shown = shown })
  settled_by asked head fate body shown outcome right row =
      let own = actor_of_pass d.pass (next_count d) in
      let there : IsBorneOut site.settings site.zone asked fate body outcome shown (account_of site.settings e.seen own) (own_events e.seen own) =
      subst (λ (a : ActorId). IsBorneOut site.settings site.zone asked fate body outcome shown (account_of site.settings e.seen a) (own_events e.seen a)) same_actor_at right in
      record {
        of_next = refl;
        right = (there, subst (λ (a : ActorId). IsLeftByRow site.zone asked (is_waiting asked head) fate (own_events e.seen a)) same_actor_at row);
        last = elim (grown_count site.settings d e acts.grows) [
          | inl next ↦ next
          | inr same ↦
              let new = new_actor site.settings d may in
              absurd (not_blank site.settings site.zone asked fate body shown outcome
              (subst₂ (λ (y : Account) (l : List OwnEvent). IsBorneOut site.settings site.zone asked fate body outcome shown y l)
              (ap (λ (v : DoorView). account_of site.settings v.seen own) same ∙ new.account) (ap (λ (v : DoorView). own_events v.seen own) same ∙ new.events) there))
        ];
        advances = advances_one site.settings d e may acts.legal acts.grows;
        only = λ is. let o = acts.only is in record { more = o.more; grows = o.grows; made = o.own };
      }

-- ---- bodies that are waited for

-- nobody waits
pub left_by_none : (zone : ℕ) (asked : Asked) (waits : Bool) (fate : Fate) (events : List OwnEvent) → waits ≡ false → IsLeftByRow zone asked waits fate events
left_by_none zone asked waits fate events is = subst (λ w. IsLeftByRow zone asked w fate events) (sym is) (calm asked)
  where
    calm : (a : Asked) → IsLeftByRow zone a false fate events
    calm (Put asker c) = tt
    calm other = tt

read_in : (fate : Fate) → IsReadIn fate → stays_unread fate ≡ false
read_in read_whole some = refl
read_in (broken_off why) some = refl
read_in unread some = absurd some

-- a PUT of that actor: its first event read the row, which says so of it
abbrev SaysFirst : Site → Asker → PutCommand → Bool → DoorView → Type 0
SaysFirst site asker c refuses d =
    ReadsRowFirst site.zone c.container (own_events d.seen (actor_at d))
    × (first_refuses asker ChangeThing (own_events d.seen (actor_at d)) ≡ refuses)

-- what the row that was read first says stays so
grants_more : (site : Site) (asker : Asker) (c : PutCommand) (d e : DoorView) → Grows site.settings d e → ReadsRowAlone site.zone c.container (own_events d.seen (actor_at d))
    → first_refuses asker ChangeThing (own_events d.seen (actor_at d)) ≡ false → SaysFirst site asker c false e
grants_more site asker c d e grows looks grants =
    let same : actor_at e ≡ actor_at d = λ i. record { pass = grows.pass i; count = grows.count i } in
    let later = own_from (0 + length d.seen) (clock_after 0 d.seen) grows.more (actor_at d) in
    let events : own_events e.seen (actor_at e) ≡ own_events d.seen (actor_at d) ++ later =
    ap (own_events e.seen) same ∙ ap (λ l. own_events l (actor_at d)) grows.grows ∙ own-append 0 0 d.seen grows.more (actor_at d) in
    let begins = events ∙ ap (λ l. l ++ later) looks.alone in (
      record { look = looks.look; others = later; begins = begins; op = looks.op },
      ap (first_refuses asker ChangeThing) begins ∙ sym (ap (first_refuses asker ChangeThing) looks.alone) ∙ grants,
    )

-- ---- behind a 100

-- what is so behind a 100 is so behind the head: nothing of the body was read before it
moved_fate : (fate : Fate) (old mid new : IntakeState) (a m b : Option (List ℕ)) (body : List ℕ) → IsReadIn fate → old.failed ≡ None → mid ≡ old → Consumes a m []
    → HasFate fate mid new m b body → HasFate fate old new a b body
moved_fate read_whole old mid new a m b body some sound same quiet x =
    give_all old mid a m b [] body new (left_given old mid a m sound same quiet) x
moved_fate (broken_off why) old mid new a m b body some sound same quiet breaks =
    break_behind old mid a m b [] why body (left_given old mid a m sound same quiet) breaks
moved_fate unread old mid new a m b body some sound same quiet x = absurd some

-- a task ended so over a body of that fate, and its whole reply was written behind this text
pub record IsRepliedBehind (tells alone : Type 0) (site : Site) (form : ReplyForm) (asked : Asked) (text : List ℕ) (fate : Fate) (x y : Side) : Type 0 where
  pub body : List ℕ
  pub has_fate : HasFate fate x.intake y.intake x.ends.left y.ends.left body
  pub outcome : TaskEnd
  pub shown : List ℕ
  pub written : Appends x.ends.taken y.ends.taken (text ++ text_by (form_at form fate) asked fate (task x.door.count outcome) shown)
  pub right : tells → BearsOut site asked fate body outcome shown y.door
  pub asks : Asks tells alone site.settings (is_by_end outcome) x.door y.door x.ends.told y.ends.told

module _ (tells alone : Type 0) (site : Site) (form : ReplyForm) (asked : Asked) where
  at_once : (fate : Fate) (x y : Side) → IsReplied tells alone site form asked fate x y → IsRepliedBehind tells alone site form asked [] fate x y
  at_once fate x y r = record {
    body = r.body;
    has_fate = r.has_fate;
    outcome = r.outcome;
    shown = r.shown;
    written = r.written;
    right = r.right;
    asks = r.asks;
  }

  module _ (asker : Asker) (c : PutCommand) (x m y : Side) (sound : x.intake.failed ≡ None) (went : Continues tells alone site asker c x m) where
    behind_continue : (fate : Fate) → IsReadIn fate → IsReplied tells alone site form asked fate m y → IsRepliedBehind tells alone site form asked continue_text fate x y
    behind_continue fate some r = record {
      body = r.body;
      has_fate = moved_fate fate x.intake m.intake y.intake x.ends.left m.ends.left y.ends.left r.body some sound went.intake went.unread r.has_fate;
      outcome = r.outcome;
      shown = r.shown;
      written =
          let text = text_by (form_at form fate) asked fate (task x.door.count r.outcome) r.shown in
          Appends-trans x.ends.taken m.ends.taken y.ends.taken continue_text text went.written
          (subst (Appends m.ends.taken y.ends.taken) (any_actor (form_at form fate) asked fate r.outcome r.shown m.door.count x.door.count) r.written);
      right = r.right;
      asks = both_ask tells alone site.settings site.settings (is_by_end r.outcome) x.door m.door y.door x.ends.told m.ends.told y.ends.told refl went.asks r.asks;
    }

    quiet_behind : (body : Body) → LeavesUnwritten tells alone site asked body false m y
        → Appends x.ends.taken y.ends.taken continue_text × Asks tells alone site.settings false x.door y.door x.ends.told y.ends.told
    quiet_behind body u = (
      subst (Appends x.ends.taken y.ends.taken) (append-nil continue_text)
          (Appends-trans x.ends.taken m.ends.taken y.ends.taken continue_text [] went.written u.unwritten),
      both_ask tells alone site.settings site.settings false x.door m.door y.door x.ends.told m.ends.told y.ends.told refl went.asks u.asks,
    )

    falls_behind : (given : List ℕ) → FallsBehind m.intake m.ends.left y.ends.left given → FallsBehind x.intake x.ends.left y.ends.left given
    falls_behind given falls =
        fall_behind x.intake m.intake x.ends.left m.ends.left y.ends.left [] given
        (left_given x.intake m.intake x.ends.left m.ends.left sound went.intake went.unread) falls

    -- the row that was read first granted it
    granted_first : (tells → Grows site.settings m.door y.door) → tells → SaysFirst site asker c false y.door
    granted_first grows is = grants_more site asker c m.door y.door (grows is) (went.looks is) (went.granted is)

-- ---- the next actor's task

module _ (tells alone : Type 0) (site : Site) (form : ReplyForm) (asked : Asked) (z : Side) (b : DoorView) (y : Side)
    (may : tells → MayBegin site.settings z.door) (begins : tells → b ≡ begun z.door) where
  acts_from : (is : tells) (moments : List ℕ) → Acts alone site.settings b y.door moments → Acts alone site.settings (begun z.door) y.door moments
  acts_from is moments acts = subst (λ (d : DoorView). Acts alone site.settings d y.door moments) (begins is) acts

  replied : (head : Head) (plan : BodyUse) (fate : Fate) (text : List ℕ) → Suits plan fate → text ≡ continue_if (is_waiting asked head) fate
      → (tells → IsLeftByRow site.zone asked (is_waiting asked head) fate (own_events y.door.seen (actor_at y.door)))
      → IsRepliedBehind tells alone site form asked text fate (side b z.intake z.ends) y → Replies tells alone site head asked plan form fate z y
  replied head plan fate text suits is row r = record {
    body = r.body;
    taken = (suits, r.has_fate);
    ground = task (next_count z.door) r.outcome;
    shown = r.shown;
    answered = record {
      written =
          let reply = text_by (form_at form fate) asked fate (task (next_count z.door) r.outcome) r.shown in
          subst (λ l. Appends z.ends.taken y.ends.taken (l ++ reply)) is
          (subst (λ l. Appends z.ends.taken y.ends.taken (text ++ l)) (any_actor (form_at form fate) asked fate r.outcome r.shown b.count (next_count z.door)) r.written);
      moments = r.asks.clock;
      asked_clock = r.asks.asked_clock;
      each = λ is. subst (Tells (is_by_end r.outcome) r.asks.clock)
          (all_own alone site z.door y.door r.asks.moments (may is) (acts_from is r.asks.moments (r.asks.acts is))) r.asks.each;
      settled = λ is. settled_by alone site z.door y.door r.asks.moments (may is) (acts_from is r.asks.moments (r.asks.acts is))
          asked head fate r.body r.shown r.outcome (r.right is) (row is);
    };
  }

  unanswered : (text : List ℕ) (body : Body) → Appends z.ends.taken y.ends.taken text → (tells → BearsOutSoFar site asked body y.door) → Asks tells alone site.settings false b y.door z.ends.told y.ends.told
      → IsUnanswered tells alone site asked body text z.door y.door z.ends.taken y.ends.taken z.ends.told y.ends.told
  unanswered text body written so_far asks = record {
    written = written;
    so_far = λ is. so_far_by alone site z.door y.door asks.moments (may is) (acts_from is asks.moments (asks.acts is)) asked body (so_far is);
    moments = asks.clock;
    asked_clock = asks.asked_clock;
    each = λ is.
        let told : asks.clock ≡ asks.moments = asks.each in
        told ∙ all_own alone site z.door y.door asks.moments (may is) (acts_from is asks.moments (asks.acts is));
    left_by = λ is. left_by alone site z.door y.door asks.moments (may is) (acts_from is asks.moments (asks.acts is));
  }

  -- no 100 is waited for
  module _ (head : Head) (plan : BodyUse) (no_wait : is_waiting asked head ≡ false) (quiet : is_awaited plan ≡ false) where
    no_text : (fate : Fate) → [] ≡ continue_if (is_waiting asked head) fate
    no_text fate = ap (λ w. continue_if w fate) (sym no_wait)

    plain : (fate : Fate) → Suits plan fate → IsReplied tells alone site form asked fate (side b z.intake z.ends) y → Replies tells alone site head asked plan form fate z y
    plain fate suits r =
        replied head plan fate [] suits (no_text fate) (λ is. left_by_none site.zone asked (is_waiting asked head) fate (own_events y.door.seen (actor_at y.door)) no_wait)
        (at_once tells alone site form asked fate (side b z.intake z.ends) y r)

    plainly : StopsShort tells alone site asked plan (side b z.intake z.ends) y → FallsShort tells alone site asked plan z y
    plainly u = record {
      is_read = u.is_read;
      given = u.given;
      falls = u.falls;
      let_in = λ is. left_by_none site.zone asked (is_awaited plan) read_whole (own_events y.door.seen (actor_of_pass z.door.pass (next_count z.door))) quiet;
      unanswered = unanswered (text_before plan) (body_of u.given) (subst (λ w. Appends z.ends.taken y.ends.taken (continue_if w read_whole)) (sym quiet) u.leaves.unwritten) u.leaves.so_far u.leaves.asks;
    }

    module _ (not_refusing : is_refusing asked ≡ false) (shut : is_unread plan ≡ true → form.close ≡ true) where
      pub served : (s : Served) → IsServed tells alone site form asked plan (side b z.intake z.ends) y s → Serves tells alone site head asked plan form z y s
      unfolding plain replied at_once
      served services.Replied (fate, suits, whole, r, not) =
          (fate, whole, left_shut plan fate form.close quiet suits whole shut, plain fate suits r, not_failing (next_count z.door) r.outcome not)
      served services.Closed (fate, suits, left, r, not) = (fate, left, not_refusing, plain fate suits r, not_failing (next_count z.door) r.outcome not)
      served services.Refused (why, suits, r, is) = (why, plain (broken_off why) suits r, ap (λ o. is_failing (task (next_count z.door) o)) is)
      served services.Cut (short, at_end) = (plainly short, at_end)

    module _ (found : List Event) (lift : (fault : ServeFault) → IsStopped tells alone site form asked plan found (side b z.intake z.ends) y fault → LeavesAsked tells alone site form asked plan found z y fault) where
      pub stopped : (fault : ServeFault) → IsStopped tells alone site form asked plan found (side b z.intake z.ends) y fault → Stops tells alone site form asked plan found z y fault
      stopped faults.ReadFault short = plainly short
      stopped faults.OutOfMemory x = inr (lift faults.OutOfMemory x)
      stopped faults.WriteFault x = inr (lift faults.WriteFault x)
      stopped faults.Worn x = inr (lift faults.Worn x)
      stopped (faults.Late read_at clock) x = inr (lift (faults.Late read_at clock) x)

-- ---- a PUT that waits for a 100

module _ (tells alone : Type 0) (site : Site) (form : ReplyForm) (asker : Asker) (c : PutCommand) (z : Side) (b : DoorView) (y : Side)
    (may : tells → MayBegin site.settings z.door) (begins : tells → b ≡ begun z.door) (head : Head) (waiting : is_waiting (Put asker c) head ≡ true) (sound : z.intake.failed ≡ None) where
  abbrev start : Side
  start = side b z.intake z.ends

  by_row : (fate : Fate) → SaysFirst site asker c (stays_unread fate) y.door
      → IsLeftByRow site.zone (Put asker c) (is_waiting (Put asker c) head) fate (own_events y.door.seen (actor_at y.door))
  by_row fate is = subst (λ w. IsLeftByRow site.zone (Put asker c) w fate (own_events y.door.seen (actor_at y.door))) (sym waiting) (is.0, sym is.1)

  -- the body was left
  left_so : (tells → SaysFirst site asker c true y.door) → (fate : Fate) → Suits Unread fate → is_left fate ≡ true → (r : IsReplied tells alone site form (Put asker c) fate start y) → (r.outcome ≢ body_failed)
      → Serves tells alone site head (Put asker c) Awaited form z y services.Closed
  unfolding replied at_once
  left_so refuses unread suits left r not = (
    unread,
    refl,
    refl,
    replied tells alone site form (Put asker c) z b y may begins head Awaited unread [] tt (unread_quiet (is_waiting (Put asker c) head)) (λ is. by_row unread (refuses is)) (at_once tells alone site form (Put asker c) unread start y r),
    not_failing (next_count z.door) r.outcome not,
  )
  left_so refuses read_whole suits left r not = absurd suits
  left_so refuses (broken_off why) suits left r not = absurd suits

  continued : (fate : Fate) → IsReadIn fate → continue_text ≡ continue_if (is_waiting (Put asker c) head) fate
  continued read_whole some = ap (λ w. continue_if w read_whole) (sym waiting)
  continued (broken_off why) some = ap (λ w. continue_if w (broken_off why)) (sym waiting)
  continued unread some = absurd some

  module _ (m : Side) (went : Continues tells alone site asker c start m) where
    behind : (fate : Fate) → Suits Fed fate → IsReadIn fate → IsReplied tells alone site form (Put asker c) fate m y → Replies tells alone site head (Put asker c) Awaited form fate z y
    behind fate suits some r =
        replied tells alone site form (Put asker c) z b y may begins head Awaited fate continue_text (fed_suits fate suits) (continued fate some)
        (λ is. by_row fate (subst (λ b. SaysFirst site asker c b y.door) (sym (read_in fate some)) (granted_first tells alone site form (Put asker c) asker c start m y sound went (λ told. (r.asks.acts told).grows) is)))
        (behind_continue tells alone site form (Put asker c) asker c start m y sound went fate some r)

    quietly : StopsShort tells alone site (Put asker c) Fed m y → FallsShort tells alone site (Put asker c) Awaited z y
    quietly u =
        let q = quiet_behind tells alone site form (Put asker c) asker c start m y sound went (body_of u.given) u.leaves in
        record {
          is_read = refl;
          given = u.given;
          falls = falls_behind tells alone site form (Put asker c) asker c start m y sound went u.given u.falls;
          let_in = λ is.
              let grants = granted_first tells alone site form (Put asker c) asker c start m y sound went (λ told. (u.leaves.asks.acts told).grows) is in
              let_in_by alone site z.door y.door q.1.moments (may is) (acts_from tells alone site form (Put asker c) z b y may begins is q.1.moments (q.1.acts is)) (Put asker c) Awaited (grants.0, sym grants.1);
          unanswered = unanswered tells alone site form (Put asker c) z b y may begins continue_text (body_of u.given) q.0 u.leaves.so_far q.1;
        }

    served_behind : (s : Served) → IsServed tells alone site form (Put asker c) Fed m y s → Serves tells alone site head (Put asker c) Awaited form z y s
    unfolding behind replied behind_continue
    served_behind services.Replied (fate, suits, whole, r, not) =
        (fate, whole, fed_open fate form.close suits whole, behind fate suits (fed_read fate suits) r, not_failing (next_count z.door) r.outcome not)
    served_behind services.Closed (fate, suits, left, r, not) = (fate, left, refl, behind fate suits (fed_read fate suits) r, not_failing (next_count z.door) r.outcome not)
    served_behind services.Refused (why, suits, r, is) =
        (why, behind (broken_off why) suits tt r, ap (λ o. is_failing (task (next_count z.door) o)) is)
    served_behind services.Cut (short, at_end) = (quietly short, at_end)

  pub served_waiting : (s : Served) → IsServedWaiting tells alone site form asker c start y s → Serves tells alone site head (Put asker c) Awaited form z y s
  served_waiting s (inl (is, (fate, suits, left, r, not), refuses)) =
      subst (λ t. Serves tells alone site head (Put asker c) Awaited form z y t) (sym is) (left_so refuses fate suits left r not)
  served_waiting s (inr x) = served_behind x.between x.continues s x.goes

  module _ (found : List Event) where
    abbrev lifted : (fault : ServeFault) → IsStoppedWaiting tells alone site form asker c found start y fault → LeavesAsked tells alone site form (Put asker c) Awaited found z y fault
    lifted fault x = (b, begins, x)

    pub stopped_waiting : (fault : ServeFault) → IsStoppedWaiting tells alone site form asker c found start y fault → Stops tells alone site form (Put asker c) Awaited found z y fault
    stopped_waiting faults.ReadFault (inl short) = let clash : true ≡ false = short.is_read in absurd (cc)
    stopped_waiting faults.ReadFault (inr (inl (is, front))) = absurd (cc)
    stopped_waiting faults.ReadFault (inr (inr x)) =
        quietly x.between x.continues x.goes
    stopped_waiting faults.OutOfMemory x = inr (lifted faults.OutOfMemory x)
    stopped_waiting faults.WriteFault x = inr (lifted faults.WriteFault x)
    stopped_waiting faults.Worn x = inr (lifted faults.Worn x)
    stopped_waiting (faults.Late read_at clock) x = inr (lifted (faults.Late read_at clock) x)

-- ---- any PUT

module _ (tells alone : Type 0) (site : Site) (form : ReplyForm) (asker : Asker) (c : PutCommand) (z : Side) (b : DoorView) (y : Side)
    (may : tells → MayBegin site.settings z.door) (begins : tells → b ≡ begun z.door) (head : Head) (sound : z.intake.failed ≡ None) where
  put_served : (plan : BodyUse) → IsOfPut plan → is_waiting (Put asker c) head ≡ is_awaited plan → (s : Served) → IsPutServed (is_awaited plan) tells alone site form asker c (side b z.intake z.ends) y s
      → Serves tells alone site head (Put asker c) plan form z y s
  put_served Fed of waits s x = served tells alone site form (Put asker c) z b y may begins head Fed waits refl refl (λ e. absurd (cc)) s x
  put_served Awaited of waits s x = served_waiting tells alone site form asker c z b y may begins head waits sound s x
  put_served Dropped of waits s x = absurd of
  put_served Unread of waits s x = absurd of

  put_stopped : (plan : BodyUse) → IsOfPut plan → is_waiting (Put asker c) head ≡ is_awaited plan → (found : List Event) (fault : ServeFault)
      → IsPutStopped (is_awaited plan) tells alone site form asker c found (side b z.intake z.ends) y fault → Stops tells alone site form (Put asker c) plan found z y fault
  put_stopped Fed of waits found fault x = stopped tells alone site form (Put asker c) z b y may begins head Fed waits refl found (λ f t. (b, begins, t)) fault x
  put_stopped Awaited of waits found fault x = stopped_waiting tells alone site form asker c z b y may begins head waits sound found fault x
  put_stopped Dropped of waits found fault x = absurd of
  put_stopped Unread of waits found fault x = absurd of

  pub put_served_if : (plan : BodyUse) (waits : Bool) → IsOfPut plan → is_waiting (Put asker c) head ≡ is_awaited plan → waits ≡ is_awaited plan → (other : Site) (result : Result Served ServeFault) → other ≡ site
      → IfOk result (IsPutServed waits tells alone other form asker c (side b z.intake z.ends) y) → IfOk result (Serves tells alone site head (Put asker c) plan form z y)
  put_served_if plan waits of own is other (Ok s) same x =
      put_served plan of own s (subst₂ (λ (w : Bool) (t : Site). IsPutServed w tells alone t form asker c (side b z.intake z.ends) y s) is same x)
  put_served_if plan waits of own is other (Err fault) same x = tt

  pub put_stopped_if : (plan : BodyUse) (waits : Bool) → IsOfPut plan → is_waiting (Put asker c) head ≡ is_awaited plan → waits ≡ is_awaited plan → (other : Site) (found : List Event) (result : Result Served ServeFault) → other ≡ site
      → IfErr result (IsPutStopped waits tells alone other form asker c found (side b z.intake z.ends) y) → IfErr result (Stops tells alone site form (Put asker c) plan found z y)
  put_stopped_if plan waits of own is other found (Ok s) same x = tt
  put_stopped_if plan waits of own is other found (Err fault) same x =
      put_stopped plan of own found fault (subst₂ (λ (w : Bool) (t : Site). IsPutStopped w tells alone t form asker c found (side b z.intake z.ends) y fault) is same x)

-- ---- a request that wants no body

module _ (tells alone : Type 0) (site : Site) (form : ReplyForm) (asked : Asked) (z : Side) (b : DoorView) (y : Side)
    (may : tells → MayBegin site.settings z.door) (begins : tells → b ≡ begun z.door) (head : Head) (plan : BodyUse) (no_wait : is_waiting asked head ≡ false) (quiet : is_awaited plan ≡ false) where
  pub unwanted_served : (own_plan : BodyUse) → own_plan ≡ plan → is_refusing asked ≡ false → (is_unread plan ≡ true → form.close ≡ true) → (other : Site) (result : Result Served ServeFault) → other ≡ site
      → IfOk result (IsServed tells alone other form asked own_plan (side b z.intake z.ends) y) → IfOk result (Serves tells alone site head asked plan form z y)
  unwanted_served own_plan is not shut other (Ok s) same x =
      served tells alone site form asked z b y may begins head plan no_wait quiet not shut s
      (subst₂ (λ (p : BodyUse) (t : Site). IsServed tells alone t form asked p (side b z.intake z.ends) y s) is same x)
  unwanted_served own_plan is not shut other (Err fault) same x = tt

  pub unwanted_stopped : (own_plan : BodyUse) → own_plan ≡ plan → (found : List Event) → ((fault : ServeFault) → IsStopped tells alone site form asked plan found (side b z.intake z.ends) y fault → LeavesAsked tells alone site form asked plan found z y fault)
      → (other : Site) (result : Result Served ServeFault) → other ≡ site
      → IfErr result (IsStopped tells alone other form asked own_plan found (side b z.intake z.ends) y) → IfErr result (Stops tells alone site form asked plan found z y)
  unwanted_stopped own_plan is found lift other (Ok s) same x = tt
  unwanted_stopped own_plan is found lift other (Err fault) same x =
      stopped tells alone site form asked z b y may begins head plan no_wait quiet found lift fault
      (subst₂ (λ (p : BodyUse) (t : Site). IsStopped tells alone t form asked p found (side b z.intake z.ends) y fault) is same x)

-- a site of the settings that the door has
pub site_is : (now settings : SettingsView) (zone : ℕ) → now ≡ settings → ◌≡◌ {A = Site} (record { settings = now; zone = zone }) (site_of settings zone)
site_is now settings zone same = λ i. record { settings = same i; zone = zone }
