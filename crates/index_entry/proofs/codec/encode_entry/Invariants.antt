use Rattle.std.proofs.Common.{◌≡◌, ◌++◌, take}
use Rattle.std.specs.List.{AllByRecursion}
use Rattle.index_entry.specs.Layouts.{IsTag, tags_bytes}
use Rattle.index_entry.proofs.codec.encode_entry.Given as goal

abbrev pub invariant-loop-tag : goal.invariant-loop-tag
invariant-loop-tag l = (l.bytes ≡ l.initial.bytes ++ tags_bytes (take l.tag-index l.tags)) × AllByRecursion IsTag (take l.tag-index l.tags)
