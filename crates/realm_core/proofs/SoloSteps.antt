-- A step through a door to a realm that nobody else has.
use Rattle.std.proofs.Common.{◌≡◌, ℕ, ◌+◌, ◌^◌, ◌<◌, ◌≤◌, Bool, true, false, cond, List, [], ◌∷◌, ◌++◌, length, refl, sym, ap, ◌∙◌, subst, arith, length-append}
use Rattle.std.proofs.lemmas.List.{append-nil}
use Rattle.realm_model.specs.Doors.{DoorView}
use Rattle.realm_model.specs.Histories.{Legal}
use Rattle.realm_model.specs.States.{at_moment}
use Rattle.realm_model.specs.Histories.{state_of}
use Rattle.realm_model.specs.Suits.{Suits}
use Rattle.realm_model.specs.declared.actor.Actor.{Actor}
use Rattle.realm_model.specs.declared.event.Event.{Event}
use Rattle.realm_model.specs.declared.op.Op.{Op}
use Rattle.realm_model.proofs.SuitsLemmas.{reply_suits}
use Rattle.realm_door.specs.Steps.{Extends, IsCounted, MayStep}
use Rattle.realm_door.specs.declared.door.Answered.{Answered}
use Rattle.realm_door.proofs.Steps.{extends}
use Rattle.realm_core.specs.Answers.{Tells, event_of}
use Rattle.realm_core.specs.Minding.{MayDo}
use Rattle.realm_core.specs.Realms.{RealmView}
use Rattle.realm_core.specs.Solo.{door_of}
use Rattle.realm_core.proofs.Histories.{clock_is}

pub solo_extends : (realm realm' : RealmView) (actor actor' : Actor) (op : Op) (moment : ℕ) (a : Answered)
    → realm'.history ≡ realm.history ++ event_of actor op moment a.reply ∷ []
    → (Legal realm.settings realm.history → MayDo realm.settings realm.history actor op → Legal realm.settings realm'.history)
    → Tells actor op a actor' realm'.history → length realm.history < 2 ^ 62 → MayStep realm.settings (door_of realm actor) op
    → Extends realm.settings (door_of realm actor) op moment a (door_of realm' actor')
solo_extends realm realm' actor actor' op moment a made legal tells room may =
    let d : DoorView = door_of realm actor in
    let e : Event = event_of actor op moment a.reply in
    let ends : realm'.history ≡ (realm.history ++ []) ++ e ∷ [] = made ∙ ap (λ (l : List Event). l ++ e ∷ []) (sym (append-nil realm.history)) in
    let few : a.number ≤ 2 ^ 62 = omega (arith, tells.number, ap length made, length-append realm.history (e ∷ []), room) in
    let there = extends realm.settings d [] realm'.history op moment a tt ends (legal may.0 may.1) tells.number (tells.clock ∙ sym (clock_is realm.settings realm'.history)) few in
    subst (λ (x : Actor). Extends realm.settings d op moment a (door_of realm' x)) (sym tells.used) there

pub solo_suits : (realm : RealmView) (d e : DoorView) (op : Op) (moment : ℕ) (a : Answered) → Extends realm.settings d op moment a e → Suits op a.reply
solo_suits realm d e op moment a extends = subst (Suits op) (sym extends.answer) (reply_suits realm.settings (at_moment (state_of realm.settings (d.seen ++ extends.between)) moment) op)

-- an actor that may enter is counted
pub solo_counted : (realm : RealmView) (actor : Actor) → actor.count ≤ length realm.history → length realm.history ≤ 2 ^ 62 → IsCounted (door_of realm actor)
solo_counted realm actor few room = record { few = of actor.used; room = room } where
  of : (used : Bool) → cond used (actor.count + 1) actor.count ≤ length realm.history + 1
  of true = omega (arith, few)
  of false = omega (arith, few)
