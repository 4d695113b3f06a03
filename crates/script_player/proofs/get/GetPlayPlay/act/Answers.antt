use Rattle.script_player.proofs.Going.{steps_if}
use Rattle.script_player.proofs.get.GetPlayPlay.act.Goals as goal

pub returns-clause-steps : goal.returns-clause-steps
returns-clause-steps g c =
    steps_if g.D.Door.tells g.D.Door.alone (g.D.Door.settings c.args.door.now) c.args.moment _ (g.D.Door.told c.args.door.now) (g.D.Door.told c.event.new.door) c.event.result
    c.event.ensures.made c.event.ensures.alone
