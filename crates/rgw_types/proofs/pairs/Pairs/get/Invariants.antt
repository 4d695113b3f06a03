use Rattle.std.proofs.Common.{◌≡◌, length}
use Rattle.rgw_types.specs.Pairs.{value_of}
use Rattle.rgw_types.proofs.pairs.Pairs.get.Given as goal

abbrev pub invariant-loop-rest : goal.invariant-loop-rest
invariant-loop-rest l = value_of l.rest l.name ≡ value_of l.self l.name

abbrev pub decreases-loop-rest : goal.decreases-loop-rest
decreases-loop-rest l = length l.rest
