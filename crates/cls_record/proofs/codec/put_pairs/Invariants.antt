use Rattle.std.proofs.Common.{◌≡◌, ◌++◌, take}
use Rattle.std.specs.List.{AllByRecursion}
use Rattle.cls_record.specs.BucketRows.{IsPair, pairs_bytes}
use Rattle.cls_record.proofs.codec.put_pairs.Given as goal

abbrev pub invariant-loop-pair : goal.invariant-loop-pair
invariant-loop-pair l = (l.out ≡ l.initial.out ++ pairs_bytes (take l.pair-index l.pairs)) × AllByRecursion IsPair (take l.pair-index l.pairs)
