use Rattle.std.proofs.Common.{◌≡◌, ℕ, List, length, take, drop}
use Rattle.std.specs.List.{AllByRecursion}
use Rattle.cls_head.specs.Layouts.{IsPair, pairs_bytes}
use Rattle.cls_head.proofs.pieces.pairs.Given as goal

abbrev pub invariant-loop-place : goal.invariant-loop-place
invariant-loop-place l = (all : List (List ℕ × List ℕ)) → AllByRecursion IsPair all → length all ≡ l.fn.count → l.fn.bytes ≡ pairs_bytes all
    → (l.items.items ≡ take l._place all) × (l.rest ≡ pairs_bytes (drop l._place all))
