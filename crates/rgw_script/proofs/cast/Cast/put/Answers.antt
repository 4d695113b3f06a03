use Rattle.rgw_script.specs.Casts.{under}
use Rattle.std.proofs.Common.{Some}
use Rattle.rgw_script.proofs.Casting.{sets_at}
use Rattle.rgw_script.proofs.cast.Cast.put.Goals as goal

pub returns-in-Ok : goal.returns-in-Ok
returns-in-Ok c = sets_at c.args.name (under c.args.self.now) (under (record { names = c.insert.new.self })) (Some c.args.active) c.in-Ok.ensures.updates.0
