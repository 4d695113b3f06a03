-- Events of other passes leave what an actor may do.
use Rattle.std.specs.Prelude.{◌≡◌, ◌==◌, ◌&&◌, Bool, true, false, cond, ◌↔◌, List, [], ◌∷◌, ◌++◌}
use Rattle.std.proofs.Common.{sym, ap, ◌∙◌, arith}
use Rattle.std.proofs.lemmas.Bool.Decides.{nat_tests}
use Rattle.realm_model.specs.Allowed.{allowed}
use Rattle.realm_model.specs.Histories.{phase_of}
use Rattle.realm_model.specs.Owns.{NoneBy}
use Rattle.realm_model.specs.Settings.{SettingsView}
use Rattle.realm_model.specs.declared.actor.Actor.{Actor}
use Rattle.realm_model.specs.declared.event.Event.{Event}
use Rattle.realm_model.specs.declared.op.Op.{Op}
use Rattle.realm_model.proofs.Others.{phase-others}
use Rattle.turn_cell.specs.Histories.{NoneBy as NoneOfPass}
use Rattle.realm_core.specs.Answers.{id_of}

-- the operation is allowed to the actor after the history
abbrev pub MayDo : SettingsView → List Event → Actor → Op → Type 0
MayDo settings history actor op = allowed settings (phase_of settings history (id_of actor)) op ≡ true

none_by : (actor : Actor) (es : List Event) → NoneOfPass (λ (e : Event). e.pass) actor.pass es → NoneBy (id_of actor) es
none_by actor [] others = tt
none_by actor (e ∷ es) others =
    let apart : (actor.pass == e.pass) ≡ false = let h = others.0 in grind (arith, nat_tests) in
    (ap (λ b. b && (actor.count == e.count)) apart, none_by actor es others.1)

pub others_change_nothing : (settings : SettingsView) (history between : List Event) (actor : Actor) (op : Op)
    → NoneOfPass (λ (e : Event). e.pass) actor.pass between → MayDo settings (history ++ between) actor op ↔ MayDo settings history actor op
others_change_nothing settings history between actor op others =
    let same = ap (λ p. allowed settings p op) (phase-others settings history between (id_of actor) (none_by actor between others)) in
    (λ may. sym same ∙ may, λ may. same ∙ may)
