use Rattle.std.proofs.Common.{refl, None}
use Rattle.rgw_run.proofs.Ending.{at_moment}
use Rattle.rgw_run.proofs.running.serve_at.Goals as goal

pub returns : goal.returns
returns g c = let made = c.new-clock.ensures in
    at_moment c.args.settings.now c.args.users.now c.args.bucket.now c.args.moment
    (record { left = g.S.Source.left c.args.input.now; taken = g.K.Sink.taken c.args.output.now; told = None; plan = None; read_faults = g.S.Source.faults c.args.input.now; write_faults = g.K.Sink.faults c.args.output.now })
    (record { left = g.S.Source.left c.serve_by_clock.new.input; taken = g.K.Sink.taken c.serve_by_clock.new.output; told = None; plan = None; read_faults = g.S.Source.faults c.serve_by_clock.new.input; write_faults = g.K.Sink.faults c.serve_by_clock.new.output })
    _ _ _ _ made.fresh (made.still refl) c.serve_by_clock.ensures
