use Rattle.std.proofs.Common.{◌≡◌, ◌<◌, ◌≤◌, ◌+◌, ◌-◌, length, take}
use Rattle.frame_region.specs.Held.{links_in, bytes_in}
use Rattle.frame_region.specs.Region.{overwritten}
use Rattle.frame_region.specs.Cells.{bytes_along, KeepsOffPath}
use Rattle.frame_region.proofs.Places.{IsPlace}
use Rattle.frame_region.proofs.cells.Cells.write_run.Given as goal

abbrev pub invariant-loop-done : goal.invariant-loop-done
invariant-loop-done l =
    let cells = l.fn.self in
    record {
      within : l.done ≤ length l.source;
      offset : l.offset < l.frame;
      place : l.done < length l.source → IsPlace l.frame (links_in cells) l.run.first (l.start + l.done) l.cell l.offset;
      written : bytes_along cells.frame (links_in cells) (bytes_in l.self) l.run.first l.run.count ≡ overwritten (bytes_along cells.frame (links_in cells) (bytes_in cells) l.run.first l.run.count) l.start (take l.done l.source);
      others : KeepsOffPath cells.frame (links_in cells) l.run.first l.run.count (bytes_in cells) (bytes_in l.self);
      frame : l.self.frame ≡ cells.frame;
      links : (links_in l.self) ≡ (links_in cells);
    }

abbrev pub decreases-loop-done : goal.decreases-loop-done
decreases-loop-done l = length l.source - l.done
