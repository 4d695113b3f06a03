use Rattle.std.proofs.Common.{arith, refl}
use Rattle.frame_region.specs.Held.{links_in, bytes_in}
use Rattle.frame_region.proofs.Start.{IsSound-start, runs_start}
use Rattle.frame_region.proofs.Views.{same_view}
use Rattle.frame_region.proofs.region.Region.new.Goals as goal

pub invariant_of-result : goal.invariant_of-result
invariant_of-result c =
    let cells = c.in_ok-cells.cells in
    IsSound-start cells.frame (links_in cells) (bytes_in cells) c.args.frames c.in_ok-cells.ensures.len (omega arith) c.in_ok-cells.ensures.links

pub returns : goal.returns
returns c =
    let cells = c.in_ok-cells.cells in
    same_view _ _ c.in_ok-cells.ensures.frame c.in_ok-cells.ensures.len refl
    (runs_start cells.frame (links_in cells) (bytes_in cells) c.args.frames c.in_ok-cells.ensures.len (omega arith) c.in_ok-cells.ensures.links)
