use Rattle.std.proofs.Common.{◌≡◌, ℕ, ◌+◌, ◌*◌, ◌<◌, length, replicate, slice_index}
use Rattle.frame_region.specs.Held.{links_in, bytes_in}
use Rattle.frame_region.proofs.cells.Cells.new.Given as goal

abbrev pub invariant-loop-cell : goal.invariant-loop-cell
invariant-loop-cell l = record {
  frame : l.cells.frame ≡ l.frame;
  len : length (links_in l.cells) ≡ l.count;
  zero : bytes_in l.cells ≡ replicate (l.count * l.frame) 0;
  each : (i : ℕ) → i < l.cell → slice_index (links_in l.cells) i ≡ i + 1;
}
