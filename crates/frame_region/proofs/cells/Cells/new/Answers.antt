use Rattle.std.proofs.Common.{ap, ◌∙◌, refl, arith}
use Rattle.frame_region.specs.Held.{frames_of}
use Rattle.frame_region.specs.Held.{bytes_in}
use Rattle.frame_region.proofs.Blocks.{frames_of_zeros}
use Rattle.frame_region.proofs.Filled.{length-links_in}
use Rattle.frame_region.proofs.cells.Cells.new.Goals as goal

pub loop-cell-init : goal.loop-cell-init
unfolding bytes_in
loop-cell-init c = record {
  frame = refl;
  len = length-links_in _;
  zero = ap (λ b. frames_of c.args.frame b c.args.count) (c.in_ok-block.ensures.items_if_clones_equal (λ y h. h)) ∙ frames_of_zeros c.args.frame c.args.count;
  each = λ i h. absurd (omega arith);
}
