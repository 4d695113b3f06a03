use Rattle.std.proofs.Common.{refl}
use Rattle.rgw_run.proofs.Ending.{has_run}
use Rattle.rgw_run.proofs.scripted.run_scripted.Goals as goal

pub returns : goal.returns
returns g c = let ran = c.run_script-result in
    has_run c.args.script
    (record { left = g.S.Source.left c.args.input.now; taken = g.K.Sink.taken c.args.output.now; told = g.C.Clock.told c.args.clock.now; plan = g.C.Clock.plan c.args.clock.now; read_faults = g.S.Source.faults c.args.input.now; write_faults = g.K.Sink.faults c.args.output.now })
    (record { left = g.S.Source.left ran.new.input; taken = g.K.Sink.taken ran.new.output; told = g.C.Clock.told c.args.clock.now; plan = g.C.Clock.plan c.args.clock.now; read_faults = g.S.Source.faults ran.new.input; write_faults = g.K.Sink.faults ran.new.output })
    ran.new.realm _ c.unwrap_or.result ran.result _ c.unwrap_or.ensures refl ran.ensures.settings ran.ensures.legal ran.ensures.runs ran.ensures.cause c.script_status.ensures refl refl
