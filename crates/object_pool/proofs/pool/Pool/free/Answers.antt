use Rattle.std.proofs.Common.{subst}
use Rattle.object_pool.specs.Objects.{HasFrameSum, IsMap}
use Rattle.object_pool.proofs.FrameSums.{frame_sum}
use Rattle.object_pool.proofs.Sweeps.{objects_in_order, one_map}
use Rattle.object_pool.proofs.pool.Pool.free.Goals as goal

pub returns-clause-sum : goal.returns-clause-sum
returns-clause-sum c = subst HasFrameSum c.self.view_is (frame_sum _ c.self.inside.frame _ c.self.invariant)

pub returns-clause-map : goal.returns-clause-map
returns-clause-map c = subst IsMap c.self.view_is (record {
  in_order = objects_in_order c.self.inside.region c.self.inside.frame _ c.self.invariant;
  at_key = one_map c.self.inside.region c.self.inside.frame _ c.self.invariant;
})
