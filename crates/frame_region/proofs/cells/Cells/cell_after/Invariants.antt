use Rattle.std.proofs.Common.{◌≡◌}
use Rattle.frame_region.specs.Held.{links_in}
use Rattle.frame_region.specs.Cells.{after}
use Rattle.frame_region.proofs.cells.Cells.cell_after.Given as goal

abbrev pub invariant-loop-step : goal.invariant-loop-step
invariant-loop-step l = l.cell ≡ after (links_in l.fn.self) l.fn.first l._step
