use Rattle.std.proofs.Common.{refl}
use Rattle.script_player.proofs.Putting.{over_stands, decided_fits}
use Rattle.script_player.proofs.put.PutPlay.make_ready.Goals as goal

pub returns-in-Event-clause-fits : goal.returns-in-Event-clause-fits
returns-in-Event-clause-fits c settings d fits = decided_fits settings d c.pieces.self.task c.settle.new.self c.settle.ensures.task (c.pieces.invariant.fits settings d fits)

pub returns-in-Done-clause-stands : goal.returns-in-Done-clause-stands
returns-in-Done-clause-stands c = over_stands c.pieces.self c.settle.new.self c.settle.ensures.task c.pieces.invariant.stands (c.in-Done.ensures.done refl)
