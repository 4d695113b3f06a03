-- What a shard is between the steps of a call.
use Rattle.std.specs.Prelude.{◌≡◌, ℕ, ◌+◌, ◌≤◌, if◌then◌else◌, List, [], length, Option, Some, None}
use Rattle.omap_pages.specs.Contents.{KeepsOtherRooms}
use Rattle.omap_pages.specs.Rows.{KeepsOthers}
use Rattle.object_pool.specs.declared.place.Place.{Place}
use Rattle.object_pool.specs.Objects.{Object}
use Rattle.object_pool.specs.Places.{rows_of}
use Rattle.object_words.specs.declared.entry.Tag.{Tag}
use Rattle.object_words.specs.Names.{with_name}
use Rattle.object_words.specs.Entries.{EntryView, is_kept}
use Rattle.object_words.specs.Shards.{Shard, entry_at, sum_over, tag_count}
use Rattle.index_entry.specs.declared.entry.EntryFront.{EntryFront}
use Rattle.index_entry.specs.declared.header.ShardHeader.{ShardHeader}
use Rattle.index_entry.specs.Headers.{IsHeader, header_bytes}
use Rattle.index_entry.specs.Layouts.{front_of}
use Rattle.class_words.specs.Shards.{HasRows, IsSmall, header_of}
use Rattle.class_words.specs.Works.{WorksOnRows}

-- only the row of the name changes, and no spare row is used
pub record KeepsToName (old new : Place) (name : List ℕ) : Type 0 where
  pub works : WorksOnRows old new
  pub others : KeepsOthers (rows_of old).rows (rows_of new).rows name
  pub rooms : KeepsOtherRooms (rows_of old) (rows_of new) name
  pub spare : (rows_of new).spare ≡ (rows_of old).spare

-- an entry of which nothing is left is no row
abbrev pub kept_or_none : EntryView → Option EntryView
kept_or_none e = if is_kept e then Some e else None

-- the entry of the name with these tags in place of its own
abbrev pub entry_left : Shard → List ℕ → List Tag → EntryView
entry_left s name tags = record (entry_at s name) { tags = tags }

-- The object is that shard, but that the row of the name has these tags alone, so many fewer than its own. The header still
-- counts the others. What was read of the header is that header, and what is known of the front that of the row.
pub record IsLeft (o : Object) (s : Shard) (name : List ℕ) (tags : List Tag) (header : ShardHeader) (front : EntryFront) (taken : ℕ) : Type 0 where
  pub bytes : o.bytes ≡ []
  pub attrs : o.attrs ≡ header_bytes (header_of s)
  pub fits : IsHeader (header_of s)
  pub rows : HasRows o.rows (record s { entries = with_name s.entries name (entry_left s name tags) })
  pub spare : sum_over tag_count s ≤ o.rows.spare
  pub small : IsSmall s
  pub header_read : header ≡ header_of s
  pub front_read : front ≡ front_of (entry_left s name tags)
  pub count : taken + length tags ≡ length (entry_at s name).tags
  pub some : 1 ≤ taken
