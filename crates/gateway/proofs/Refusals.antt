-- A reply by the head alone, as one request of a connection.
use Rattle.std.proofs.Common.{◌≡◌, inr, ℕ, true, false, [], List, ◌++◌, Result, Ok, Err, refl, sym, ap, ◌∙◌, subst, append-nil}
use Rattle.std.specs.Prelude.{IfOk, IfErr}
use Rattle.std.proofs.KnownBytes.{Appends-nil}
use Rattle.std.specs.Io.KnownBytes.{Appends}
use Rattle.gw_io.specs.Ends.{EndsState}
use Rattle.http_intake.specs.Intake.{IntakeState}
use Rattle.http_model.specs.declared.head.Head.{Head}
use Rattle.http_model.specs.declared.reply.ReplyForm.{ReplyForm}
use Rattle.realm_model.specs.Accounts.{Account}
use Rattle.realm_model.specs.Histories.{account_of}
use Rattle.realm_model.specs.Owns.{OwnEvent, own_events}
use Rattle.realm_model.specs.Doors.{DoorView}
use Rattle.realm_door.specs.Steps.{next_count, actor_of_pass}
use Rattle.task_words.specs.Outcomes.{Body}
use Rattle.realm_model.specs.declared.event.Event.{Event}
use Rattle.swift_requests.specs.declared.asked.Asked.{Asked}
use Rattle.swift_requests.specs.declared.asked.Asked.TheVariants.{Put, Unfed}
use Rattle.swift_requests.specs.declared.body.BodyUse.{BodyUse}
use Rattle.swift_requests.specs.Bodies.{body_use, is_unread, is_awaited}
use Rattle.call_words.specs.Bodies.{Fate, read_whole, broken_off}
use Rattle.call_words.specs.Texts.{continue_if}
use Rattle.call_words.specs.Calls.{alone as by_itself, text_by, is_waiting, IsByHead, IsSoFar}
use Rattle.call_service.specs.Serving.{Site, side, form_at, body_of}
use Rattle.call_service.specs.declared.fault.ServeFault.{ServeFault}
use Rattle.call_service.specs.declared.fault.ServeFault.TheVariants as faults
use Rattle.call_service.specs.declared.served.Served.{Served}
use Rattle.call_service.specs.declared.served.Served.TheVariants as services
use Rattle.gateway.specs.Calls.{MayBegin}
use Rattle.gateway.specs.Requests.{FallsIn, IsLetIn, FallsShort, IsUnanswered, Replies, RepliesAt, RepliesByHead, LeavesReply, Serves, Stops, LeavesAsked, text_before}
use Rattle.gateway.specs.Texts.{is_failing}
use Rattle.gateway.proofs.Growing.{advances_none, new_actor, new_moments}
use Rattle.gateway.proofs.Tasks.{left_by_none}
use Rattle.gateway.proofs.Turning.{same_left}
use Rattle.gateway.proofs.Fates.{waits_so, head_waits, read_suits, left_shut}
use Rattle.gateway.proofs.Heads.{read_not_refusing}

-- such a request makes no event
nothing_done : (site : Site) (asked : Asked) → IsByHead asked → (body : Body) (y : Account) (events : List OwnEvent) → events ≡ [] → IsSoFar site.settings site.zone asked body y events
nothing_done site (Put asker c) by_head body y events none = absurd by_head
nothing_done site (Unfed asker u) by_head body y events none = absurd by_head
nothing_done site asked by_head body y events none = none

-- and waits for no 100
none_waited : (site : Site) (asked : Asked) → IsByHead asked → (plan : BodyUse) (pass count : ℕ) (history : List Event) → IsLetIn site asked plan pass count history
none_waited site (Put asker c) by_head plan pass count history = absurd by_head
none_waited site asked by_head plan pass count history = tt

module _ (tells alone : Type 0) (site : Site) (head : Head) (asked : Asked) (by_head : IsByHead asked) (largest : ℕ) (plan : BodyUse) (is_plan : plan ≡ body_use largest head asked) (form : ReplyForm) (shut : is_unread plan ≡ true → form.close ≡ true)
    (d : DoorView) (old new : IntakeState) (before after : EndsState) (may : tells → MayBegin site.settings d) (same_told : after.told ≡ before.told) where
  untold : Appends before.told after.told []
  untold = subst (λ l. Appends before.told l []) (sym same_told) (Appends-nil before.told)

  no_wait : is_waiting asked head ≡ false
  no_wait = head_waits head asked by_head

  quiet_plan : is_awaited plan ≡ false
  quiet_plan = ap is_awaited is_plan ∙ sym (waits_so largest head asked) ∙ no_wait

  unanswered : (body : Body) → Appends before.taken after.taken [] → IsUnanswered tells alone site asked body (text_before plan) d d before.taken after.taken before.told after.told
  unanswered body quiet = record {
    so_far = λ is. nothing_done site asked by_head body (account_of site.settings d.seen (actor_of_pass d.pass (next_count d))) (own_events d.seen (actor_of_pass d.pass (next_count d))) (new_actor site.settings d (may is)).events;
    written = subst (λ w. Appends before.taken after.taken (continue_if w read_whole)) (sym quiet_plan) quiet;
    moments = [];
    asked_clock = untold;
    each = λ is. sym (new_moments site.settings d (may is));
    left_by = λ is. same_left alone site d d (may is) refl;
  }

  short : FallsIn plan old before.left after.left → Appends before.taken after.taken [] → FallsShort tells alone site asked plan (side d old before) (side d new after)
  short (read, given, falls) quiet = record { is_read = read; given = given; falls = falls; let_in = λ is. none_waited site asked by_head plan d.pass (next_count d) d.seen; unanswered = unanswered (body_of given) quiet }

  replies_at : (fate : Fate) → RepliesAt form asked plan fate old new before.left after.left (Appends before.taken after.taken)
      → (r : Replies tells alone site head asked plan form fate (side d old before) (side d new after)) × (is_failing r.ground ≡ false)
  replies_at fate (used, written) = (
    record {
      body = used.0;
      taken = used.1;
      ground = by_itself;
      shown = [];
      answered = record {
        written = subst (λ w. Appends before.taken after.taken (continue_if w fate ++ text_by (form_at form fate) asked fate by_itself [])) (sym no_wait) written;
        moments = [];
        asked_clock = untold;
        each = refl;
        settled = λ is. record {
          of_next = tt;
          right = ((by_head, refl), left_by_none site.zone asked (is_waiting asked head) fate [] no_wait);
          last = refl;
          advances = advances_none site.settings d (may is);
          only = λ _. record { more = []; grows = sym (append-nil d.seen); made = refl };
        };
      };
    },
    refl,
  )

  head_serves : (s : Served) → RepliesByHead form asked plan old new before.left after.left before.taken after.taken s
      → Serves tells alone site head asked plan form (side d old before) (side d new after) s
  head_serves services.Replied (fate, whole, at) =
      let r = replies_at fate at in
      (fate, whole, left_shut plan fate form.close quiet_plan at.0.1.0 whole shut, r.0, r.1)
  head_serves services.Closed (why, at) =
      let r = replies_at (broken_off why) at in
      let read = ap is_unread (sym is_plan) ∙ read_suits plan why at.0.1.0 in
      (broken_off why, refl, read_not_refusing largest head asked read, r.0, r.1)
  head_serves services.Refused x = absurd x
  head_serves services.Cut ((falls, at_end), quiet) = (short falls quiet, at_end)

  module _ (found : List Event) where
    asked_leaves : (a : Asked) → IsByHead a → (fault : ServeFault) → LeavesReply form a plan old new before.left after.left before.taken after.taken fault
        → LeavesAsked tells alone site form a plan found (side d old before) (side d new after) fault
    asked_leaves (Put asker c) is fault x = absurd is
    asked_leaves (Unfed asker u) is fault x = absurd is
    asked_leaves other is fault x = (x, record { door = refl; untold = untold })

    head_stops : (fault : ServeFault) → LeavesReply form asked plan old new before.left after.left before.taken after.taken fault
        → Stops tells alone site form asked plan found (side d old before) (side d new after) fault
    head_stops faults.OutOfMemory x = inr (asked_leaves asked by_head faults.OutOfMemory x)
    head_stops faults.ReadFault (falls, quiet) = short falls quiet
    head_stops faults.WriteFault x = inr (asked_leaves asked by_head faults.WriteFault x)
    head_stops faults.Worn x = absurd x
    head_stops (faults.Late read_at clock) x = absurd x

    pub head_left : (own : Asked) (other : BodyUse) (result : Result Served ServeFault) → own ≡ asked → plan ≡ other → IfErr result (LeavesReply form asked plan old new before.left after.left before.taken after.taken)
        → IfErr result (Stops tells alone site form own other found (side d old before) (side d new after))
    head_left own other (Ok s) same use_is x = tt
    head_left own other (Err fault) same use_is x =
        subst (λ (a : Asked). Stops tells alone site form a other found (side d old before) (side d new after) fault) (sym same)
        (subst (λ (p : BodyUse). Stops tells alone site form asked p found (side d old before) (side d new after) fault) use_is (head_stops fault x))

  pub head_served : (own : Asked) (other : BodyUse) (result : Result Served ServeFault) → own ≡ asked → plan ≡ other → IfOk result (RepliesByHead form asked plan old new before.left after.left before.taken after.taken)
      → IfOk result (Serves tells alone site head own other form (side d old before) (side d new after))
  head_served own other (Ok s) same use_is x =
      subst (λ (a : Asked). Serves tells alone site head a other form (side d old before) (side d new after) s) (sym same)
      (subst (λ (p : BodyUse). Serves tells alone site head asked p form (side d old before) (side d new after) s) use_is (head_serves s x))
  head_served own other (Err fault) same use_is x = tt
