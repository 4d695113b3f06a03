use Rattle.realm_core.proofs.Histories.{begun_has}
use Rattle.realm_core.proofs.realm.Realm.new.Goals as goal

pub invariant_of-result : goal.invariant_of-result
invariant_of-result c = begun_has c.args.settings.now c.in_ok-new_zones.field-0.items c.in_ok-new.field-0 c.in_ok-new_zones.ensures c.in_ok-new.ensures
