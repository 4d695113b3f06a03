use Rattle.realm_core.proofs.SoloSteps.{solo_extends, solo_suits}
use Rattle.realm_core.specs.Solo.{door_of}
use Rattle.realm_core.proofs.solo.SoloDoorDoor.step.Goals as goal

pub returns-clause-made : goal.returns-clause-made
returns-clause-made c told =
    let h = c.in_ok-answered.ensures in
    solo_extends c.args.self.now.realm.now c.act.new.self c.args.self.now.actor.now c.act.new.actor c.args.op c.args.moment c.in_ok-answered.answered h.made h.legal h.tells h.room (c.requires told)

pub returns-clause-suits : goal.returns-clause-suits
returns-clause-suits c =
    let h = c.in_ok-answered.ensures in
    let realm = c.args.self.now.realm.now in
    let actor = c.args.self.now.actor.now in
    let extends = solo_extends realm c.act.new.self actor c.act.new.actor c.args.op c.args.moment c.in_ok-answered.answered h.made h.legal h.tells h.room (c.requires tt) in
    solo_suits realm (door_of realm actor) (door_of c.act.new.self c.act.new.actor) c.args.op c.args.moment c.in_ok-answered.answered extends
