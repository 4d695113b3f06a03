use Rattle.std.proofs.Common.{◌≡◌, false, length, take}
use Rattle.object_words.specs.Entries.{EntryView}
use Rattle.object_words.specs.Tags.{has_tag}
use Rattle.index_entry.specs.Layouts.{IsEntry, entry_bytes}
use Rattle.cls_index.proofs.tags.place_of.Given as goal

abbrev pub invariant-loop-place : goal.invariant-loop-place
invariant-loop-place l = (e : EntryView) → IsEntry e → l.bytes ≡ entry_bytes e → l.count ≡ length e.tags → has_tag l.tag (take l.place e.tags) ≡ false
