use Rattle.std.proofs.Common.{rules}
use Rattle.rgw_script.proofs.Containers.{new_open, new_below, made_as, unmade_as}
use Rattle.rgw_script.proofs.running.make_planned.Goals as goal

pub returns-in-Some-clause-made : goal.returns-in-Some-clause-made
returns-in-Some-clause-made c = made_as c.args.settings.now c.args.plan.now c.first_user.result.now c.in-Some.bucket _ c.make_container.result c.first_user.ensures (search rules) c.make_container.ensures.made

pub returns-in-Some-clause-stopped : goal.returns-in-Some-clause-stopped
returns-in-Some-clause-stopped c = unmade_as c.args.settings.now c.args.plan.now c.in-Some.bucket _ c.make_container.result (search rules) c.make_container.ensures.stopped

pub returns-in-None-clause-below : goal.returns-in-None-clause-below
returns-in-None-clause-below c = new_below c.args.settings.now c.args.realm.now c.requires

pub returns-in-None-clause-open : goal.returns-in-None-clause-open
returns-in-None-clause-open c = new_open c.args.settings.now c.args.realm.now c.requires
