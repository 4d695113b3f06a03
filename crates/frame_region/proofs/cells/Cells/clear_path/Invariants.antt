use Rattle.std.proofs.Common.{◌≡◌, ℕ, ◌<◌, ◌-◌, replicate}
use Rattle.frame_region.specs.Held.{links_in, bytes_in}
use Rattle.frame_region.specs.Cells.{content, after, KeepsOffPath}
use Rattle.frame_region.proofs.cells.Cells.clear_path.Given as goal

abbrev pub invariant-loop-step : goal.invariant-loop-step
invariant-loop-step l =
    let cells = l.fn.self in
    record {
      cell : l.cell ≡ after (links_in cells) l.fn.first l._step;
      last : l.last ≡ after (links_in cells) l.fn.first (l._step - 1);
      zero : (i : ℕ) → i < l._step → content cells.frame (bytes_in l.self) (after (links_in cells) l.fn.first i) ≡ replicate cells.frame 0;
      others : KeepsOffPath cells.frame (links_in cells) l.fn.first l._step (bytes_in cells) (bytes_in l.self);
      frame : l.self.frame ≡ cells.frame;
      links : (links_in l.self) ≡ (links_in cells);
    }
