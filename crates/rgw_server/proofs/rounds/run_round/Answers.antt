use Rattle.std.proofs.Common.{◌∙◌}
use Rattle.rgw_server.proofs.Ready.{job_is_new}
use Rattle.rgw_server.proofs.rounds.run_round.Goals as goal

pub run_job-outcome-requires-clause-new : goal.run_job-outcome-requires-clause-new
run_job-outcome-requires-clause-new g c κs within =
    job_is_new g.D.Door.tells c.args.settings.now (g.D.Door.settings c.begin.new.self) (g.D.Door.told c.args.door.now) (g.D.Door.told c.begin.new.self)
    c.requires.ready (c.begin.ensures.settings ∙ c.requires.same) c.begin.ensures.begins
