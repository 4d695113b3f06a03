use Rattle.std.proofs.Common.{ap, ◌≡◌, ◌+◌, ◌-◌, ◌<◌, ◌≤◌, ◌⊎◌, length, inl, inr, arith}
use Rattle.realm_model.specs.Ops.{zone_of}
use Rattle.realm_model.specs.Settings.{SettingsView}
use Rattle.realm_core.proofs.PoolLemmas.{changes_nowhere, changes_there, one_ready}
use Rattle.realm_core.proofs.zones.perform_in.Goals.{then-zone-eq0-via-then-zone-eq0, then-zone-eq0-via-else-zone-eq0+then-zone-most}
use Rattle.realm_core.proofs.zones.perform_in.Goals as goal

pub returns-then-zone-eq0-clause-changes : goal.returns-then-zone-eq0-clause-changes
returns-then-zone-eq0-clause-changes c st ready number clock =
    let op = c.args.op.now in
    let nowhere : (zone_of op ≡ 0) ⊎ (length c.args.zones.now.items < zone_of op) = elim c.then-zone-eq0.branch [
      | then-zone-eq0-via-then-zone-eq0 w ↦ inl (omega arith)
      | then-zone-eq0-via-else-zone-eq0+then-zone-most w ↦ inr (omega (arith, ready.zones, ap (λ (s : SettingsView). s.zones) c.settings.view_is))
    ] in
    changes_nowhere c.args.settings.now c.args.zones.now.items st op nowhere ready.zones ready.stands

pub perform-requires-clause-ready : goal.perform-requires-clause-ready
perform-requires-clause-ready c =
    let given = c.requires.ready in
    let zones = given.1.zones in
    let index = c.from-zone.result - 1 in
    let is : zone_of c.args.op.now ≡ index + 1 = omega arith in
    let set : c.settings.inside.zones ≡ c.args.settings.now.zones = ap (λ (s : SettingsView). s.zones) c.settings.view_is in
    let within : index < length c.args.zones.now.items = omega arith in
    (given.0, one_ready c.args.settings.now c.args.zones.now.items given.0 index (zone_of c.args.op.now) c.index_mut.result.now is within c.index_mut.ensures.value given.1, given.2)

pub returns-clause-changes : goal.returns-clause-changes
returns-clause-changes c st ready number clock =
    let zones = ready.zones in
    let index = c.from-zone.result - 1 in
    let is : zone_of c.args.op.now ≡ index + 1 = omega arith in
    let set : c.settings.inside.zones ≡ c.args.settings.now.zones = ap (λ (s : SettingsView). s.zones) c.settings.view_is in
    let within : index < length c.args.zones.now.items = omega arith in
    let here = one_ready c.args.settings.now c.args.zones.now.items st index (zone_of c.args.op.now) c.index_mut.result.now is within c.index_mut.ensures.value ready in
    changes_there c.args.settings.now c.args.zones.now.items st c.args.op.now index c.perform.new.pool c.perform.result is within zones ready.stands (c.perform.ensures st here number clock)

pub perform-requires-clause-zone_high : goal.perform-requires-clause-zone_high
perform-requires-clause-zone_high c = let most = c.settings.invariant.zones.most in omega arith
