use Rattle.std.proofs.Common.{◌≡◌, ◌-◌, map}
use Rattle.std.specs.List.{range_with_len}
use Rattle.manifest.specs.Ranges.{piece_at}
use Rattle.manifest.proofs.ranges.pieces_of.Given as goal

abbrev pub invariant-loop-part : goal.invariant-loop-part
invariant-loop-part l = l.pieces.items ≡ map (piece_at l.manifest l.start l.count) (range_with_len l.first (l.part - l.first))
