use Rattle.std.proofs.Common.{ap, subst, ◌∙◌}
use Rattle.object_pool.specs.Objects.{HasFrameSum, is_key}
use Rattle.object_pool.proofs.FrameSums.{frame_sum}
use Rattle.object_pool.proofs.SlotLemmas.{kept_or_not}
use Rattle.object_pool.proofs.pool.Pool.number_of.Goals as goal

pub returns-clause-there : goal.returns-clause-there
returns-clause-there c = c.number_of.ensures ∙ kept_or_not c.self.inside.region _ _ (is_key c.args.key.now) (ap (λ p. p.slots) c.self.view_is)

pub returns-clause-sum : goal.returns-clause-sum
returns-clause-sum c = subst HasFrameSum c.self.view_is (frame_sum _ c.self.inside.frame _ c.self.invariant)
