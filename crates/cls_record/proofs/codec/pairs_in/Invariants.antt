use Rattle.std.proofs.Common.{◌≡◌, ◌++◌, length}
use Rattle.std.specs.List.{AllByRecursion}
use Rattle.cls_record.specs.BucketRows.{IsPair, pairs_bytes}
use Rattle.cls_record.proofs.codec.pairs_in.Given as goal

abbrev pub invariant-loop-place : goal.invariant-loop-place
invariant-loop-place l =
    (l.bytes ≡ pairs_bytes l.pairs.items ++ l.reader.rest.now) × AllByRecursion IsPair l.pairs.items × (length l.pairs.items ≡ l._place)
