use Rattle.std.proofs.Common.{refl}
use Rattle.zone_core.proofs.heads.make_tail_at.Goals as goal

pub make_at-requires : goal.make_at-requires
make_at-requires c = let given = c.requires.stands in record { stands = (given.0, given.1, given.2, c.args.write, c.args.part, given.3, refl) }
