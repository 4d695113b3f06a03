use Rattle.std.proofs.Common.{◌≡◌, ◌+◌, drop}
use Rattle.http_chunks.specs.Scans.{scan_from}
use Rattle.http_chunks.proofs.search.scan.Given as goal

abbrev pub invariant-loop-i : goal.invariant-loop-i
invariant-loop-i l = scan_from l.fn.place l.fn.seen (drop l.fn.seen l.bytes) ≡ scan_from l.at (l.fn.seen + l.i) (drop (l.fn.seen + l.i) l.bytes)
