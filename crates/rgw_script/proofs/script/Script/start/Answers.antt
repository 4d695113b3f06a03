use Rattle.std.proofs.Common.{refl}
use Rattle.rgw_script.proofs.Playing.{started_holds, started}
use Rattle.rgw_script.proofs.script.Script.start.Goals as goal

pub returns-clause-holds : goal.returns-clause-holds
returns-clause-holds c = λ realm holds. started_holds c.args.settings.now c.args.self.now c.put.new.self c.args.name c.in_ok-active.active c.args.zone c.args.verb
    c.in_ok-active.ensures.role c.in_ok-put.ensures c.in_ok-active.ensures.stands realm holds

pub returns-clause-played : goal.returns-clause-played
returns-clause-played c = λ is history. started c.args.settings.now c.args.self.now c.put.new.self c.args.name c.in_ok-active.active c.args.zone c.args.verb
    c.in_ok-active.ensures.role c.in_ok-put.ensures (c.if-has.ensures.unused refl) history
