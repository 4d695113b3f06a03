use Rattle.std.proofs.Common.{◌≤◌, ◌^◌, length, arith}
use Rattle.realm_core.proofs.SoloSteps.{solo_counted}
use Rattle.realm_core.proofs.solo.SoloDoor.new.Goals as goal

pub returns-clause-counted : goal.returns-clause-counted
returns-clause-counted c =
    let room : length c.args.realm.now.history ≤ 2 ^ 62 = omega arith in
    solo_counted c.args.realm.now c.args.actor.now c.requires.few room
