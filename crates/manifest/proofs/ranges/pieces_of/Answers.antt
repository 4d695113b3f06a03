use Rattle.std.proofs.Common.{arith}
use Rattle.manifest.proofs.RangeLemmas.{grown}
use Rattle.manifest.proofs.ranges.pieces_of.Goals as goal

pub loop-part-preserved : goal.loop-part-preserved
loop-part-preserved c = grown _ _ c.loop-part.part _ _ _ (omega arith) c.loop-part.invariant c.piece_at.ensures c.in_ok-push.ensures.items
