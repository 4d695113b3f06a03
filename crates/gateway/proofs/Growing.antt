-- Actors of a pass, one after another.
use Rattle.std.proofs.Common.{◌≡◌, ◌≢◌, ◌⊎◌, inl, inr, None, ℕ, ◌+◌, ◌<◌, ◌≤◌, Bool, true, false, cond, List, [], ◌∷◌, ◌++◌, map, filter, length, refl, sym, ap, ◌∙◌, subst, append_assoc, arith}
use Rattle.std.specs.Prelude.{if◌then◌else◌}
use Rattle.std.proofs.lemmas.List.{append-nil, append_cancel_left}
use Rattle.http_intake.specs.Intake.{IntakeState}
use Rattle.realm_model.specs.Settings.{SettingsView}
use Rattle.realm_model.specs.States.{clock_at}
use Rattle.realm_model.specs.Phases.{ActorId}
use Rattle.realm_model.specs.Histories.{Legal}
use Rattle.realm_model.specs.Worlds.{same_actor, actor_of}
use Rattle.realm_model.specs.Owns.{OwnEvent, clock_after, own_from, own_events, NoneBy}
use Rattle.realm_model.specs.Doors.{DoorView}
use Rattle.realm_model.specs.declared.event.Event.{Event}
use Rattle.realm_model.proofs.Others.{phase-others, account-others}
use Rattle.realm_door.specs.Steps.{actor_of_pass, next_count, begun, IsUnused, IsSame, Grows}
use Rattle.realm_door.proofs.Others.{own-append, same_both}
use Rattle.realm_door.proofs.Steps.{counted_begun, counted_grown}
use Rattle.call_service.specs.Serving.{IsNew, MayServe}
use Rattle.door_moments.specs.Acts.{own_moments}
use Rattle.gateway.specs.Calls.{MayBegin, MayGoOn, Advances}

-- ---- an actor without events

by_test : (b : Bool) (own : OwnEvent) (rest : List OwnEvent) → cond b (own ∷ rest) rest ≡ [] → (b ≡ false) × (rest ≡ [])
by_test true own rest e = absurd (cc)
by_test false own rest e = (refl, e)

pub none_by_own : (count clock : ℕ) (events : List Event) (actor : ActorId) → own_from count clock events actor ≡ [] → NoneBy actor events
none_by_own count clock [] actor is = tt
none_by_own count clock (e ∷ es) actor is =
    let now = clock_at clock e.moment in
    let rest = own_from (count + 1) now es actor in
    let parts = by_test (same_actor actor (actor_of e)) (record { op = e.op; reply = e.reply; number = count + 1; clock = now }) rest is in
    (parts.0, none_by_own (count + 1) now es actor parts.1)

pub no_moments : (actor : ActorId) (events : List Event) → NoneBy actor events → own_moments events actor ≡ []
no_moments actor [] none = refl
no_moments actor (e ∷ es) none = rw none.0 (no_moments actor es none.1)

one_more : (own : Bool) (e : Event) (xs ys : List Event) → map (λ (x : Event). x.moment) xs ≡ map (λ (x : Event). x.moment) ys
    → map (λ (x : Event). x.moment) (cond own (e ∷ xs) xs) ≡ map (λ (x : Event). x.moment) (cond own (e ∷ ys) ys)
one_more true e xs ys same = ap (λ ms. e.moment ∷ ms) same
one_more false e xs ys same = same

more_moments : (actor : ActorId) (seen more : List Event) → NoneBy actor more → own_moments (seen ++ more) actor ≡ own_moments seen actor
more_moments actor [] more none = no_moments actor more none
more_moments actor (e ∷ es) more none =
    let own = λ (x : Event). same_actor actor (actor_of x) in
    one_more (same_actor actor (actor_of e)) e (filter own (es ++ more)) (filter own es) (more_moments actor es more none)

-- no own event more, no own moment more
pub same_moments : (actor : ActorId) (seen more : List Event) → own_events (seen ++ more) actor ≡ own_events seen actor → own_moments (seen ++ more) actor ≡ own_moments seen actor
same_moments actor seen more same =
    let added = own_from (0 + length seen) (clock_after 0 seen) more actor in
    let none : added ≡ [] = append_cancel_left (own_events seen actor) added [] (sym (own-append 0 0 seen more actor) ∙ same ∙ sym (append-nil (own_events seen actor))) in
    more_moments actor seen more (none_by_own (0 + length seen) (clock_after 0 seen) more actor none)

-- ---- counts

next_used : (e : DoorView) → e.used ≡ true → next_count e ≡ e.count + 1
next_used e used = ap (λ b. if b then e.count + 1 else e.count) used

module _ (settings : SettingsView) where
  -- the actor that began made an event, or nothing came
  pub grown_count : (d e : DoorView) → Grows settings (begun d) e → (next_count e ≡ next_count d + 1) ⊎ (e ≡ begun d)
  grown_count d e g =
      elim g.later [
        | inl x ↦ inl (next_used e x.used ∙ ap (λ n. n + 1) g.count)
        | inr same ↦ inr same
      ]

  pub grown_most : (d e : DoorView) → Grows settings (begun d) e → next_count e ≤ next_count d + 1
  grown_most d e g =
      elim (grown_count d e g) [
        | inl x ↦ omega (arith, x)
        | inr same ↦ let count : next_count e ≡ next_count d = ap next_count same in omega (arith, count)
      ]

  grown_least : (d e : DoorView) → Grows settings (begun d) e → next_count d ≤ next_count e
  grown_least d e g =
      elim (grown_count d e g) [
        | inl x ↦ omega (arith, x)
        | inr same ↦ let count : next_count e ≡ next_count d = ap next_count same in omega (arith, count)
      ]

  -- ---- a new actor

  pub new_actor : (d : DoorView) → MayBegin settings d → IsNew settings (begun d)
  new_actor d may =
      let actor = actor_of_pass d.pass (next_count d) in
      let events : own_events d.seen actor ≡ [] = may.unused (next_count d) (omega arith) in
      let none = none_by_own 0 0 d.seen actor events in
      record {
        legal = may.legal;
        account = account-others settings [] d.seen actor none;
        phase = phase-others settings [] d.seen actor none;
        events = events;
      }

  pub new_moments : (d : DoorView) → MayBegin settings d → own_moments d.seen (actor_of_pass d.pass (next_count d)) ≡ []
  new_moments d may =
      let actor = actor_of_pass d.pass (next_count d) in
      no_moments actor d.seen (none_by_own 0 0 d.seen actor (may.unused (next_count d) (omega arith)))

  -- ---- growth

  pub advances_none : (d : DoorView) → MayBegin settings d → Advances settings d d
  advances_none d may = record {
    pass = refl;
    may_begin = may;
    next = omega arith;
    more = [];
    grows = sym (append-nil d.seen);
    older = λ count low. record { events = refl; doings = refl };
  }

  pub advances_both : (d e f : DoorView) → Advances settings d e → Advances settings e f → Advances settings d f
  advances_both d e f x y = record {
    pass = y.pass ∙ x.pass;
    may_begin = y.may_begin;
    next = omega (arith, x.next, y.next);
    more = x.more ++ y.more;
    grows = y.grows ∙ ap (λ l. l ++ y.more) x.grows ∙ append_assoc d.seen x.more y.more;
    older = λ count low.
        let actor = actor_of_pass d.pass count in
        let second : IsSame settings e.seen f.seen actor = subst (λ p. IsSame settings e.seen f.seen (actor_of_pass p count)) x.pass (y.older count (omega (arith, low, x.next))) in
        same_both settings d.seen e.seen f.seen actor (x.older count low) second;
  }

  -- the next actors are unused still
  unused_after : (d e : DoorView) → MayBegin settings d → Grows settings (begun d) e → IsUnused e
  unused_after d e may g =
      elim (grown_count d e g) [
        | inl next ↦ λ count low.
            let apart : count ≢ next_count d = λ same. omega (arith, low, next, same) in
            let none : own_events e.seen (actor_of_pass d.pass count) ≡ [] = (g.rest count apart).events ∙ may.unused count (omega (arith, low, next)) in
            subst (λ p. own_events e.seen (actor_of_pass p count) ≡ []) (sym g.pass) none
        | inr same ↦ subst IsUnused (sym same) may.unused
      ]

  -- the pass went on by one actor
  pub advances_one : (d e : DoorView) → MayBegin settings d → Legal settings e.seen → Grows settings (begun d) e → Advances settings d e
  advances_one d e may legal g = record {
    pass = g.pass;
    may_begin = record {
      legal = legal;
      counted = counted_grown settings (begun d) e g (counted_begun d may.counted);
      unused = unused_after d e may g;
    };
    next = grown_least d e g;
    more = g.more;
    grows = g.grows;
    older = λ count low. g.rest count (λ same. omega (arith, low, same));
  }

  -- the moments of the actors before stay
  pub older_moments : (d e : DoorView) → Advances settings d e → (count : ℕ) → count < next_count d → own_moments e.seen (actor_of_pass d.pass count) ≡ own_moments d.seen (actor_of_pass d.pass count)
  older_moments d e x count low =
      let actor = actor_of_pass d.pass count in
      let same : own_events (d.seen ++ x.more) actor ≡ own_events d.seen actor = subst (λ l. own_events l actor ≡ own_events d.seen actor) x.grows (x.older count low).events in
      ap (λ l. own_moments l actor) x.grows ∙ same_moments actor d.seen x.more same

-- ---- a request of the next actor

-- it may be served over a door that has the realm's settings
pub may_serve : (tells : Type 0) (settings of_door now : SettingsView) (zone : ℕ) (d e : DoorView) (intake : IntakeState) (buffer : ℕ)
    → MayGoOn tells settings of_door zone d buffer → intake.failed ≡ None → (tells → e ≡ begun d) → now ≡ settings → MayServe tells now zone e intake buffer
may_serve tells settings of_door now zone d e intake buffer goes whole begins same = record {
  room = goes.room;
  low = goes.site.low;
  high = subst (λ (s : SettingsView). zone ≤ s.zones) (sym same) goes.site.high;
  failed = whole;
  new = λ told. subst (λ (s : SettingsView). IsNew s e) (sym same) (subst (IsNew settings) (sym (begins told)) (new_actor settings d (goes.may told)));
}
