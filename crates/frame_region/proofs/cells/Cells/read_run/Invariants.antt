use Rattle.std.proofs.Common.{◌≡◌, ◌<◌, ◌≤◌, ◌+◌, ◌-◌, length, take, drop}
use Rattle.frame_region.specs.Held.{links_in, bytes_in}
use Rattle.frame_region.specs.Cells.{bytes_along}
use Rattle.frame_region.proofs.Places.{IsPlace}
use Rattle.frame_region.proofs.cells.Cells.read_run.Given as goal

abbrev pub invariant-loop-done : goal.invariant-loop-done
invariant-loop-done l = record {
  within : l.done ≤ length l.out;
  offset : l.offset < l.frame;
  place : l.done < length l.out → IsPlace l.frame (links_in l.self) l.run.first (l.start + l.done) l.cell l.offset;
  copied : take l.done l.out ≡ take l.done (drop l.start (bytes_along l.self.frame (links_in l.self) (bytes_in l.self) l.run.first l.run.count));
}

abbrev pub decreases-loop-done : goal.decreases-loop-done
decreases-loop-done l = length l.out - l.done
