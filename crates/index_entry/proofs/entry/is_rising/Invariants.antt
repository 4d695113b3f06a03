use Rattle.std.proofs.Common.{◌≡◌, ◌-◌, List, length, drop}
use Rattle.std.specs.List.{AllByRecursion}
use Rattle.object_words.specs.declared.entry.Tag.{Tag}
use Rattle.object_words.specs.Tags.{tags_rise}
use Rattle.index_entry.specs.Layouts.{IsTag, tags_bytes}
use Rattle.index_entry.proofs.entry.is_rising.Given as goal

abbrev pub invariant-loop-place : goal.invariant-loop-place
invariant-loop-place l = (tags : List Tag) → AllByRecursion IsTag tags → length tags ≡ l.count
    → drop l.start l.bytes ≡ tags_bytes tags → tags_rise (drop (l.place - 1) tags) ≡ tags_rise tags
