use Rattle.std.proofs.Common.{◌≡◌, ◌-◌, ◌≤◌, length, drop}
use Rattle.http_chunks.specs.Scans.{scan_from}
use Rattle.http_intake.proofs.scan.scan_lines.Given as goal

abbrev pub invariant-loop-at : goal.invariant-loop-at
invariant-loop-at l = record {
  within : l.at ≤ length l.bytes;
  same : scan_from l.fn.place l.fn.seen (drop l.fn.seen l.bytes) ≡ scan_from l.place l.at (drop l.at l.bytes);
}

abbrev pub decreases-loop-at : goal.decreases-loop-at
decreases-loop-at l = length l.bytes - l.at
