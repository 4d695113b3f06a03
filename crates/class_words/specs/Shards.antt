-- When an object of a pool is a shard of an index.
use Rattle.std.specs.Prelude.{◌≡◌, ℕ, ◌+◌, ◌*◌, ◌^◌, ◌<◌, ◌≤◌, List, [], length, Option, Some, None, IfSome, option_map}
use Rattle.std.specs.List.{AllByRecursion}
use Rattle.omap_pages.specs.Contents.{Contents, room_at}
use Rattle.omap_pages.specs.Rows.{value_at}
use Rattle.object_pool.specs.Objects.{Object, nothing}
use Rattle.object_words.specs.Names.{at}
use Rattle.object_words.specs.Entries.{EntryView}
use Rattle.object_words.specs.Shards.{Shard, byte_count, object_count, sum_over, tag_count}
use Rattle.index_entry.specs.declared.header.ShardHeader.{ShardHeader}
use Rattle.index_entry.specs.Headers.{IsHeader, header_bytes}
use Rattle.index_entry.specs.Layouts.{IsEntry, entry_bytes}
use Rattle.index_entry.specs.LogRows.{IsNameText}
use Rattle.class_words.specs.LogRows.{IsLog, logged_at, or_logged}

-- the header with the sums over the shard's entries
abbrev pub header_of : Shard → ShardHeader
header_of s = record {
  objects = sum_over object_count s;
  bytes = sum_over byte_count s;
  tags = sum_over tag_count s;
  last = s.log.last;
  hold = s.hold;
  fate = s.fate;
  fence = s.fence;
}

-- the room of an entry: for each later value of it that has no more tags
abbrev pub entry_room : EntryView → ℕ
entry_room e = 318 + 16 * length e.tags

-- a text that is a name of an object
abbrev pub IsObjectName : List ℕ → Type 0
IsObjectName name = IsNameText 1024 name

-- the name has this entry, or none, and room for each later value of it
pub record HasEntry (c : Contents) (name : List ℕ) (found : Option EntryView) : Type 0 where
  pub row : value_at c.rows name ≡ option_map entry_bytes found
  pub entry : IfSome found IsEntry
  pub room : IfSome found (λ e. entry_room e ≤ room_at c.rooms name)

-- the rows are the entries, each under its name, and the rows of the log
pub record HasRows (c : Contents) (s : Shard) : Type 0 where
  pub rows : (key : List ℕ) → value_at c.rows key ≡ or_logged (option_map entry_bytes (at s.entries key)) (logged_at s.log key)
  pub named : (name : List ℕ) → IfSome (at s.entries name) (λ _. IsObjectName name)
  pub entry : (name : List ℕ) → IfSome (at s.entries name) IsEntry
  pub room : (name : List ℕ) → IfSome (at s.entries name) (λ e. entry_room e ≤ room_at c.rooms name)
  pub log : IsLog s.log

-- the object is that shard: its attributes are the header with the sums of the entries, and it has a spare row for each tag
pub record IsShard (o : Object) (s : Shard) : Type 0 where
  pub bytes : o.bytes ≡ []
  pub attrs : o.attrs ≡ header_bytes (header_of s)
  pub header : IsHeader (header_of s)
  pub rows : HasRows o.rows s
  pub spare : sum_over tag_count s ≤ o.rows.spare

-- a shard that was never made is no object
abbrev pub IsShardOr : Object → Option Shard → Type 0
IsShardOr o None = o ≡ nothing
IsShardOr o (Some s) = IsShard o s

-- its sums and its last position leave room for what one event adds
pub record IsSmall (s : Shard) : Type 0 where
  pub objects : sum_over object_count s < 2 ^ 63
  pub bytes : sum_over byte_count s < 2 ^ 127
  pub tags : sum_over tag_count s < 2 ^ 63
  pub last : s.log.last < 2 ^ 63

-- each tag has a number below that of the event
abbrev pub HasTagsBelow : ℕ → Shard → Type 0
HasTagsBelow number s = (name : List ℕ) → IfSome (at s.entries name) (λ e. AllByRecursion (λ t. t.tag < number) e.tags)
