use Rattle.std.proofs.Common.{◌≡◌, ◌*◌, length, replicate, slice_index, ap, ◌∙◌, arith, ap₂, List, ℕ}
use Rattle.frame_region.specs.Held.{links_in, bytes_in}
use Rattle.frame_region.proofs.Filled.{filled_in}
use Rattle.frame_region.specs.Region.{overwritten}
use Rattle.frame_region.specs.Cells.{content, after}
use Rattle.frame_region.proofs.PathLemmas.{after_more, cleared_more, beside_more}
use Rattle.frame_region.proofs.JoinedPieces.{joined-replicate}
use Rattle.frame_region.proofs.cells.Cells.clear_path.Goals as goal

pub loop-step-preserved : goal.loop-step-preserved
loop-step-preserved c =
    let cells = c.args.self.now in
    let now = c.loop-step.self in
    let links : (links_in c.clear.new.self) ≡ (links_in cells) = c.clear.ensures.links ∙ c.loop-step.invariant.links in
    let filled : length (bytes_in now) ≡ length (links_in cells) * cells.frame = filled_in now ∙ ap₂ (λ (l : List ℕ) f. length l * f) c.loop-step.invariant.links c.loop-step.invariant.frame in
    let cleared : (bytes_in c.clear.new.self) ≡ overwritten (bytes_in now) (c.loop-step.cell * cells.frame) (replicate cells.frame 0) = c.clear.ensures.bytes ∙ ap (λ f. overwritten (bytes_in now) (c.loop-step.cell * f) (replicate f 0)) c.loop-step.invariant.frame in
    record {
      cell = c.link-cell.ensures ∙ ap (λ ls. slice_index ls c.loop-step.cell) links ∙ after_more (links_in cells) c.args.first c.loop-step._step c.loop-step.cell c.loop-step.invariant.cell;
      last = c.loop-step.invariant.cell ∙ ap (after (links_in cells) c.args.first) (omega arith);
      zero = cleared_more cells.frame (links_in cells) (bytes_in now) (bytes_in c.clear.new.self) filled c.args.first c.args.count c.loop-step._step c.loop-step.cell c.requires.path c.loop-step-test.true c.loop-step.invariant.cell cleared c.loop-step.invariant.zero;
      others = beside_more cells.frame (links_in cells) (bytes_in now) (bytes_in c.clear.new.self) filled c.args.first c.args.count c.loop-step._step c.loop-step.cell c.requires.path c.loop-step-test.true c.loop-step.invariant.cell cleared (bytes_in cells) c.loop-step.invariant.others;
      frame = c.clear.ensures.frame ∙ c.loop-step.invariant.frame;
      links = links;
    }

pub returns-clause-zero : goal.returns-clause-zero
returns-clause-zero c =
    let cells = c.args.self.now in
    let all : c.loop-step._step ≡ c.args.count = omega arith in
    joined-replicate (λ i. content cells.frame (bytes_in c.loop-step.self) (after (links_in cells) c.args.first i)) cells.frame 0 c.args.count (λ i h. c.loop-step.invariant.zero i (omega arith))
