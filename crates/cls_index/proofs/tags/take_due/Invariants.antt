use Rattle.std.proofs.Common.{◌≡◌, ◌+◌, ◌-◌, ◌*◌, ◌^◌, ◌<◌, length, Some}
use Rattle.object_pool.specs.Places.{rows_of}
use Rattle.object_words.specs.Entries.{EntryView}
use Rattle.index_entry.specs.Layouts.{front_of}
use Rattle.class_words.specs.Shards.{HasEntry}
use Rattle.cls_index.specs.Rows.{KeepsToName}
use Rattle.cls_index.proofs.DueLemmas.{tags_left}
use Rattle.cls_index.proofs.tags.take_due.Given as goal

abbrev pub invariant-loop-taken : goal.invariant-loop-taken
invariant-loop-taken l = record {
  only : KeepsToName l.fn.shard l.shard l.name;
  entry : (e : EntryView) → HasEntry (rows_of l.fn.shard) l.name (Some e) → l.front ≡ front_of e
      → HasEntry (rows_of l.shard) l.name (Some (record e { tags = tags_left l.moment (length e.tags - l.taken) e.tags }))
      × (l.left ≡ front_of (record e { tags = tags_left l.moment (length e.tags - l.taken) e.tags }));
  few : l.left.tags_start + 16 * l.left.tags < 2 ^ 63;
}
