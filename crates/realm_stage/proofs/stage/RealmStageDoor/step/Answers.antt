use Rattle.std.proofs.Common.{◌≡◌, ◌≤◌, sym, ap, subst, arith}
use Rattle.realm_model.specs.Ops.{zone_of}
use Rattle.realm_model.specs.Settings.{SettingsView}
use Rattle.realm_model.specs.Suits.{Suits}
use Rattle.realm_stage.proofs.Zones.{zone_suits}
use Rattle.realm_stage.proofs.stage.RealmStageDoor.step.Goals as goal

pub returns-clause-suits : goal.returns-clause-suits
returns-clause-suits c =
    let realm = c.self.inside.realm in
    let same = ap (λ (s : SettingsView). s.zones) c.self.invariant in
    let zones : 1 ≤ realm.settings.zones = omega (arith, same, c.has_zone_one.ensures) in
    let first : zone_of c.args.op ≡ 1 = omega (arith, c.if-zone-ne1.false, c.zone.ensures) in
    subst (Suits c.args.op) (sym c.in_ok-answered.ensures.reply) (zone_suits realm.settings realm.history c.args.op c.args.moment zones first)
