use Rattle.std.proofs.Common.{◌≡◌, length}
use Rattle.rgw_types.specs.Pairs.{is_risen}
use Rattle.rgw_types.proofs.pairs.names_rise.Given as goal

abbrev pub invariant-loop-rest : goal.invariant-loop-rest
invariant-loop-rest l = is_risen l.rest ≡ is_risen l.items

abbrev pub decreases-loop-rest : goal.decreases-loop-rest
decreases-loop-rest l = length l.rest
