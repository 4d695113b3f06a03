use Rattle.std.proofs.Common.{◌≡◌, ◌+◌, ◌-◌, take, drop}
use Rattle.frame_region.specs.Region.{overwritten}
use Rattle.frame_region.proofs.block.copy_rest.Given as goal

abbrev pub invariant-loop-i : goal.invariant-loop-i
invariant-loop-i l = l.to ≡ overwritten l.fn.to (l.at + l.fn.done) (take (l.i - l.fn.done) (drop (l.start + l.fn.done) l.from))
