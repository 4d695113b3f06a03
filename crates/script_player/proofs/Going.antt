-- An actor goes on, event by event.
use Rattle.std.proofs.Common.{◌≡◌, inl, ⊎_elim, Result, Ok, Err, OnOk, ℕ, ◌+◌, ◌≤◌, List, [], ◌∷◌, ◌++◌, length, replicate, refl, sym, ap, ◌∙◌, subst, append_assoc, length-append, arith}
use Rattle.std.proofs.lemmas.List.{append-nil, nil_from_length, replicate-append-replicate}
use Rattle.std.specs.List.{AllByRecursion}
use Rattle.realm_model.specs.Settings.{SettingsView}
use Rattle.realm_model.specs.Phases.{ActorId}
use Rattle.realm_model.specs.Histories.{Legal}
use Rattle.realm_model.specs.Worlds.{actor_of}
use Rattle.realm_model.specs.Doors.{DoorView, actor_at}
use Rattle.realm_model.specs.declared.event.Event.{Event}
use Rattle.realm_door.specs.Steps.{Grows, event_at}
use Rattle.realm_door.specs.Turns.{MakesEvent, IsOneMore}
use Rattle.realm_door.proofs.Steps.{grows_none, grows_both}
use Rattle.door_moments.specs.Acts.{own_moments}
use Rattle.door_moments.proofs.Moments.{moments_next}
use Rattle.script_player.specs.Going.{ActsAlone, Goes, GoesUpTo, Steps}

-- ---- alone

-- at this moment, by this actor
abbrev IsEventOf : ActorId → ℕ → Event → Type 0
IsEventOf actor moment x = (actor_of x ≡ actor) × (x.moment ≡ moment)

all_joined : (actor : ActorId) (moment : ℕ) (xs ys : List Event) → AllByRecursion (λ x. (actor_of x ≡ actor) × (x.moment ≡ moment)) xs → AllByRecursion (λ x. (actor_of x ≡ actor) × (x.moment ≡ moment)) ys → AllByRecursion (λ x. (actor_of x ≡ actor) × (x.moment ≡ moment)) (xs ++ ys)
all_joined actor moment [] ys first second = second
all_joined actor moment (x ∷ xs) ys first second = (first.0, all_joined actor moment xs ys first.1 second)

alone_none : (moment : ℕ) (d : DoorView) → ActsAlone moment 0 d d
alone_none moment d = record { more = []; grows = sym (append-nil d.seen); own = tt; many = refl }

alone_once : (settings : SettingsView) (moment : ℕ) (d e : DoorView) → MakesEvent settings moment d e → IsOneMore d e → ActsAlone moment 1 d e
alone_once settings moment d e made few =
    let x = made.extends in
    let own = event_at d made.op moment made.answered.reply in
    let none : x.between ≡ [] = nil_from_length x.between
    (omega (arith, few, ap length x.ends, length-append (d.seen ++ x.between) (own ∷ []), length-append d.seen x.between)) in
    record {
      more = own ∷ [];
      grows = x.ends ∙ ap (λ l. (d.seen ++ l) ++ own ∷ []) none ∙ ap (λ l. l ++ own ∷ []) (append-nil d.seen);
      own = ((refl, refl), tt);
      many = refl;
    }

alone_both : (moment first second : ℕ) (d e f : DoorView) → actor_at e ≡ actor_at d → ActsAlone moment first d e → ActsAlone moment second e f → ActsAlone moment (first + second) d f
alone_both moment first second d e f same x y = record {
  more = x.more ++ y.more;
  grows = y.grows ∙ ap (λ l. l ++ y.more) x.grows ∙ append_assoc d.seen x.more y.more;
  own = all_joined (actor_at d) moment x.more y.more x.own (subst (λ a. AllByRecursion (λ z. (actor_of z ≡ a) × (z.moment ≡ moment)) y.more) same y.own);
  many = length-append x.more y.more ∙ ap (λ n. n + length y.more) x.many ∙ ap (λ n. first + n) y.many;
}

-- ---- with or without others

module _ (alone : Type 0) (settings : SettingsView) (moment : ℕ) where
  pub goes_none : (d : DoorView) → Legal settings d.seen → Goes alone settings moment 0 d d
  goes_none d legal = record {
    legal = legal;
    grows = grows_none settings d;
    moments = sym (append-nil (own_moments d.seen (actor_at d)));
    only = λ _. alone_none moment d;
  }

  pub goes_once : (d e : DoorView) → MakesEvent settings moment d e → (alone → IsOneMore d e) → Goes alone settings moment 1 d e
  goes_once d e made few = record {
    legal = made.extends.legal;
    grows = made.extends.grows;
    moments = moments_next settings d e moment made;
    only = λ is. alone_once settings moment d e made (few is);
  }

  -- the same actor after more events
  actor_stays : (d e : DoorView) → Grows settings d e → actor_at e ≡ actor_at d
  actor_stays d e grows =
      let pass = grows.pass in
      let count = grows.count in
      λ i. record { pass = pass i; count = count i }

  pub goes_both : (first second : ℕ) (d e f : DoorView) → Goes alone settings moment first d e → Goes alone settings moment second e f → Goes alone settings moment (first + second) d f
  goes_both first second d e f x y =
      let actor = actor_stays d e x.grows in
      record {
        legal = y.legal;
        grows = grows_both settings d e f x.grows y.grows;
        moments = ap (own_moments f.seen) (sym actor)
            ∙ y.moments
            ∙ ap (λ l. l ++ replicate second moment) (ap (own_moments e.seen) actor ∙ x.moments)
            ∙ append_assoc (own_moments d.seen (actor_at d)) (replicate first moment) (replicate second moment)
            ∙ ap (λ l. own_moments d.seen (actor_at d) ++ l) (replicate-append-replicate first second moment);
        only = λ is. alone_both moment first second d e f actor (x.only is) (y.only is);
      }

  -- ---- up to so many

  pub up_to_none : (most : ℕ) (d : DoorView) → Legal settings d.seen → GoesUpTo alone settings moment most d d
  up_to_none most d legal = (0, omega arith, goes_none d legal)

  -- a door that was not moved
  pub up_to_still : (most : ℕ) (d e : DoorView) → Legal settings d.seen → e ≡ d → GoesUpTo alone settings moment most d e
  up_to_still most d e legal same = subst (GoesUpTo alone settings moment most d) (sym same) (up_to_none most d legal)

  pub up_to_more : (made most : ℕ) (d e f : DoorView) → made + 1 ≤ most → Goes alone settings moment made d e → GoesUpTo alone settings moment 1 e f → GoesUpTo alone settings moment most d f
  up_to_more made most d e f few x y =
      let one = y.1 in
      (made + y.0, omega (arith, few, one), goes_both made y.0 d e f x y.2)

  -- a step that is the last
  pub steps_up_to : (Over : Type 0) (d e : DoorView) → Steps alone settings moment Over d e → GoesUpTo alone settings moment 1 d e
  steps_up_to Over d e s =
      ⊎_elim
      (λ one. (1, omega arith, one))
      (λ none. (0, omega arith, none.1))
      s

  -- a step that is not
  pub steps_on : (Over : Type 0) (d e : DoorView) → (Over → ⊥) → Steps alone settings moment Over d e → Goes alone settings moment 1 d e
  steps_on Over d e going s =
      ⊎_elim
      (λ one. one)
      (λ none. absurd (going none.0))
      s

-- an event was made, if it was
pub steps_if : {A E : Type 0} (tells alone : Type 0) (settings : SettingsView) (moment : ℕ) (Over : Type 0) (d e : DoorView) (result : Result A E) → OnOk result (tells → MakesEvent settings moment d e)
    → OnOk result (tells → alone → IsOneMore d e) → OnOk result (tells → Steps alone settings moment Over d e)
steps_if tells alone settings moment Over d e (Ok a) made few = λ is. inl (goes_once alone settings moment d e (made is) (few is))
steps_if tells alone settings moment Over d e (Err f) made few = tt
