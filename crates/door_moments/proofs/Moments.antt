-- An actor's events and their moments, event by event.
use Rattle.std.proofs.Common.{◌≡◌, ℕ, ◌≤◌, true, List, [], ◌∷◌, ◌++◌, map, filter, length, refl, sym, ap, ◌∙◌, subst, append_assoc, length-append, arith}
use Rattle.std.proofs.lemmas.List.{append-nil, map-append}
use Rattle.std.proofs.lemmas.List.Elements.{filter-append}
use Rattle.std.specs.List.{AllByRecursion}
use Rattle.realm_model.specs.Settings.{SettingsView}
use Rattle.realm_model.specs.Phases.{ActorId}
use Rattle.realm_model.specs.Histories.{Legal}
use Rattle.realm_model.specs.Worlds.{same_actor, actor_of}
use Rattle.realm_model.specs.Owns.{NoneBy}
use Rattle.realm_model.specs.Doors.{DoorView, actor_at}
use Rattle.realm_model.specs.declared.event.Event.{Event}
use Rattle.realm_model.proofs.ObjectLemmas.{actor_itself}
use Rattle.realm_door.specs.Steps.{event_at}
use Rattle.realm_door.specs.Turns.{MakesEvent, IsOneMore}
use Rattle.realm_door.proofs.Others.{none_by}
use Rattle.realm_door.proofs.Steps.{grows_none, grows_both}
use Rattle.door_moments.specs.Acts.{own_moments, OnlyOwn, Acts}

-- ---- own moments

moments-append : (xs ys : List Event) (actor : ActorId) → own_moments (xs ++ ys) actor ≡ own_moments xs actor ++ own_moments ys actor
moments-append xs ys actor =
    let own = λ (e : Event). same_actor actor (actor_of e) in
    ap (map (λ (e : Event). e.moment)) (filter-append own xs ys) ∙ map-append (λ (e : Event). e.moment) (filter own xs) (filter own ys)

none_told : (actor : ActorId) (events : List Event) → NoneBy actor events → own_moments events actor ≡ []
none_told actor [] none = refl
none_told actor (e ∷ es) none = rw none.0 (none_told actor es none.1)

one_told : (d : DoorView) (e : Event) → actor_of e ≡ actor_at d → own_moments (e ∷ []) (actor_at d) ≡ e.moment ∷ []
one_told d e is =
    let own : same_actor (actor_at d) (actor_of e) ≡ true = ap (same_actor (actor_at d)) is ∙ actor_itself (actor_at d) in
    rw own refl

-- an event of the actor adds its moment
pub moments_next : (settings : SettingsView) (d e : DoorView) (moment : ℕ) → MakesEvent settings moment d e → own_moments e.seen (actor_at d) ≡ own_moments d.seen (actor_at d) ++ moment ∷ []
moments_next settings d e moment made =
    let x = made.extends in
    let own = event_at d made.op moment made.answered.reply in
    let actor = actor_at d in
    ap (λ l. own_moments l actor) x.ends
    ∙ moments-append (d.seen ++ x.between) (own ∷ []) actor
    ∙ ap (λ l. l ++ own_moments (own ∷ []) actor)
    (moments-append d.seen x.between actor
    ∙ ap (λ l. own_moments d.seen actor ++ l) (none_told actor x.between (none_by d.pass d.count x.between x.others))
    ∙ append-nil (own_moments d.seen actor))
    ∙ ap (λ l. own_moments d.seen actor ++ l) (one_told d own refl)

-- ---- the only events

pub only_none : (d : DoorView) → OnlyOwn d d
only_none d = record { more = []; grows = sym (append-nil d.seen); own = tt }

no_length : (xs : List Event) → length xs ≤ 0 → xs ≡ []
no_length [] none = refl
no_length (x ∷ xs) none = absurd (omega (arith, none))

own_joined : (d : DoorView) (xs ys : List Event) → AllByRecursion (λ x. actor_of x ≡ actor_at d) xs → AllByRecursion (λ x. actor_of x ≡ actor_at d) ys → AllByRecursion (λ x. actor_of x ≡ actor_at d) (xs ++ ys)
own_joined d [] ys first second = second
own_joined d (x ∷ xs) ys first second = (first.0, own_joined d xs ys first.1 second)

-- one that was made while nobody else made any
pub only_one : (settings : SettingsView) (d e : DoorView) (moment : ℕ) → MakesEvent settings moment d e → IsOneMore d e → OnlyOwn d e
only_one settings d e moment made few =
    let x = made.extends in
    let own = event_at d made.op moment made.answered.reply in
    let none : x.between ≡ [] = no_length x.between
    (omega (arith, few, ap length x.ends, length-append (d.seen ++ x.between) (own ∷ []), length-append d.seen x.between)) in
    record {
      more = own ∷ [];
      grows = x.ends ∙ ap (λ l. (d.seen ++ l) ++ own ∷ []) none ∙ ap (λ l. l ++ own ∷ []) (append-nil d.seen);
      own = (refl, tt);
    }

pub only_both : (d e f : DoorView) → actor_at e ≡ actor_at d → OnlyOwn d e → OnlyOwn e f → OnlyOwn d f
only_both d e f same x y = record {
  more = x.more ++ y.more;
  grows = y.grows ∙ ap (λ l. l ++ y.more) x.grows ∙ append_assoc d.seen x.more y.more;
  own = own_joined d x.more y.more x.own (subst (λ a. AllByRecursion (λ z. actor_of z ≡ a) y.more) same y.own);
}

-- ---- acts

module _ (alone : Type 0) (settings : SettingsView) where
  pub no_act : (d : DoorView) → Legal settings d.seen → Acts alone settings d d []
  no_act d legal = record {
    legal = legal;
    grows = grows_none settings d;
    each = sym (append-nil (own_moments d.seen (actor_at d)));
    only = λ _. only_none d;
  }

  pub act_once : (d e : DoorView) (moment : ℕ) → MakesEvent settings moment d e → (alone → IsOneMore d e) → Acts alone settings d e (moment ∷ [])
  act_once d e moment made few = record {
    legal = made.extends.legal;
    grows = made.extends.grows;
    each = moments_next settings d e moment made;
    only = λ is. only_one settings d e moment made (few is);
  }

  -- the same actor after more events
  pub actor_stays : (d e : DoorView) (moments : List ℕ) → Acts alone settings d e moments → actor_at e ≡ actor_at d
  actor_stays d e moments acts =
      let pass = acts.grows.pass in
      let count = acts.grows.count in
      λ i. record { pass = pass i; count = count i }

  pub act_both : (d e f : DoorView) (first second : List ℕ) → Acts alone settings d e first → Acts alone settings e f second → Acts alone settings d f (first ++ second)
  act_both d e f first second x y =
      let actor = actor_stays d e first x in
      record {
        legal = y.legal;
        grows = grows_both settings d e f x.grows y.grows;
        each = ap (own_moments f.seen) (sym actor)
            ∙ y.each
            ∙ ap (λ l. l ++ second) (ap (own_moments e.seen) actor ∙ x.each)
            ∙ append_assoc (own_moments d.seen (actor_at d)) first second;
        only = λ is. only_both d e f actor (x.only is) (y.only is);
      }
