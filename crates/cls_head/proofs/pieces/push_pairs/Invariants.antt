use Rattle.std.proofs.Common.{◌≡◌, ◌++◌, take}
use Rattle.std.specs.List.{AllByRecursion}
use Rattle.cls_head.specs.Layouts.{IsPair, pairs_bytes}
use Rattle.cls_head.proofs.pieces.push_pairs.Given as goal

abbrev pub invariant-loop-name : goal.invariant-loop-name
invariant-loop-name l = (l.bytes ≡ l.initial.bytes ++ pairs_bytes (take l.name-index l.pairs)) × AllByRecursion IsPair (take l.name-index l.pairs)
