use Rattle.std.proofs.Common.{◌≡◌, List, length, drop, take}
use Rattle.std.specs.List.{AllByRecursion}
use Rattle.object_words.specs.declared.entry.Tag.{Tag}
use Rattle.index_entry.specs.Layouts.{IsTag, tags_bytes}
use Rattle.index_entry.proofs.codec.tags_in.Given as goal

abbrev pub invariant-loop-place : goal.invariant-loop-place
invariant-loop-place l = (all : List Tag) → AllByRecursion IsTag all → length all ≡ l.count
    → drop l.start l.bytes ≡ tags_bytes all → l.tags ≡ take l.place all
