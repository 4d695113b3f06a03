use Rattle.std.proofs.Common.{◌≡◌, ◌+◌, ◌*◌, ◌≤◌, length, take, replicate, ap, ◌∙◌, arith}
use Rattle.std.proofs.lemmas.List.{take-replicate}
use Rattle.std.proofs.lemmas.Nat.{row_fits}
use Rattle.frame_region.specs.Held.{links_in, bytes_in}
use Rattle.frame_region.specs.Region.{overwritten}
use Rattle.frame_region.proofs.Filled.{filled_in}
use Rattle.frame_region.proofs.Clears.{zeros_more}
use Rattle.frame_region.proofs.cells.Cells.clear.Goals as goal

pub loop-done-preserved : goal.loop-done-preserved
loop-done-preserved c =
    let cells = c.args.self.now in
    let now = c.loop-done.self in
    let done = c.loop-done.done in
    let part = c.min-part.result in
    let start = c.args.cell * cells.frame in
    let fits : done + part ≤ cells.frame = omega arith in
    let within : start + done + part ≤ length (bytes_in cells) = omega (arith, filled_in cells, row_fits c.args.cell cells.frame (length (links_in cells)) cells.frame c.requires (omega arith)) in
    let piece : take part (replicate 4096 0) ≡ replicate part 0 = take-replicate part 4096 0 (omega arith) in
    record {
      within = omega arith;
      frame = c.copy_in.ensures.frame ∙ c.loop-done.invariant.frame;
      links = c.copy_in.ensures.links ∙ c.loop-done.invariant.links;
      bytes = c.copy_in.ensures.bytes
          ∙ ap (λ f. overwritten (bytes_in now) (c.args.cell * f + done) (take part (replicate 4096 0))) c.loop-done.invariant.frame
          ∙ ap (λ b. overwritten b (start + done) (take part (replicate 4096 0))) c.loop-done.invariant.bytes
          ∙ ap (overwritten (overwritten (bytes_in cells) start (replicate done 0)) (start + done)) piece ∙ zeros_more (bytes_in cells) start done part within;
    }
