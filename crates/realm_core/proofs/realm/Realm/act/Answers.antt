use Rattle.std.proofs.Common.{List, [], ◌∷◌, ◌++◌, refl, sym, subst, ◌∙◌}
use Rattle.realm_law.specs.Invariant.{RealmHolds}
use Rattle.realm_model.specs.Histories.{Legal, world_of}
use Rattle.realm_model.specs.declared.event.Event.{Event}
use Rattle.realm_core.specs.Answers.{event_of}
use Rattle.realm_core.proofs.Histories.{clock_is, holds_after, legal_after}
use Rattle.realm_core.proofs.realm.Realm.act.Goals as goal

pub returns-clause-tells : goal.returns-clause-tells
returns-clause-tells c =
    let realm = c.change.new.self in
    record {
      number = c.events-2.ensures.value;
      clock = c.clock.ensures ∙ clock_is realm.settings realm.history;
      back = c.handed_back-back.ensures;
      used = refl;
    }

pub returns-clause-legal : goal.returns-clause-legal
returns-clause-legal c legal may =
    let realm = c.args.self.now in
    subst (Legal realm.settings) (sym c.in-Ok.ensures.made)
    (legal_after realm.settings realm.history c.args.actor.now c.args.op c.args.moment c.in-Ok.reply legal may c.in-Ok.ensures.reply)

pub returns-clause-holds : goal.returns-clause-holds
returns-clause-holds c legal may =
    let realm = c.args.self.now in
    let next = legal_after realm.settings realm.history c.args.actor.now c.args.op c.args.moment c.in-Ok.reply legal may c.in-Ok.ensures.reply in
    subst (λ (h : List Event). RealmHolds realm.settings (world_of realm.settings h)) (sym c.in-Ok.ensures.made)
    (holds_after realm.settings (realm.history ++ event_of c.args.actor.now c.args.op c.args.moment c.in-Ok.reply ∷ []) c.in-Ok.ensures.good next)
