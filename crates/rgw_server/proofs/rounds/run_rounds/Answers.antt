use Rattle.rgw_server.proofs.Ready.{nothing_yet}
use Rattle.rgw_server.proofs.rounds.run_rounds.Goals as goal

pub loop-init : goal.loop-init
loop-init g c = (tt, tt, c.requires.same, c.requires.ready, nothing_yet g.D.Door.tells c.args.settings.now (g.D.Door.told c.args.door.now) c.requires.ready)
