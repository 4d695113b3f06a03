use Rattle.std.proofs.Common.{◌≡◌, ◌*◌, ◌-◌, ◌≤◌, replicate}
use Rattle.frame_region.specs.Held.{links_in, bytes_in}
use Rattle.frame_region.specs.Region.{overwritten}
use Rattle.frame_region.proofs.cells.Cells.clear.Given as goal

abbrev pub invariant-loop-done : goal.invariant-loop-done
invariant-loop-done l =
    let cells = l.fn.self in
    record {
      within : l.done ≤ l.frame;
      frame : l.self.frame ≡ cells.frame;
      links : links_in l.self ≡ links_in cells;
      bytes : bytes_in l.self ≡ overwritten (bytes_in cells) (l.cell * cells.frame) (replicate l.done 0);
    }

abbrev pub decreases-loop-done : goal.decreases-loop-done
decreases-loop-done l = l.frame - l.done
