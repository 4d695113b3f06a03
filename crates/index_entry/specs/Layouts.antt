-- How the entries of a shard are written: what the bytes are and their layout in two bytes, then the entry without its
-- name, which is the key of its row. Numbers have their high byte first.
use Rattle.std.specs.Prelude.{◌≡◌, ℕ, ◌+◌, ◌^◌, ◌<◌, Bool, true, if◌then◌else◌, List, [], ◌∷◌, ◌++◌, length}
use Rattle.std.specs.List.{AllByRecursion}
use Rattle.std.specs.Str.{IsUtf8}
use Rattle.object_words.specs.declared.entry.Tag.{Tag}
use Rattle.object_words.specs.Rows.{RowView, IsRow}
use Rattle.object_words.specs.Tags.{tags_rise}
use Rattle.object_words.specs.Entries.{EntryView}
use Rattle.index_entry.specs.Numbers.{number_bytes, short_bytes}
use Rattle.index_entry.specs.declared.entry.EntryFront.{EntryFront}

abbrev pub flag : Bool → ℕ
flag b = if b then 1 else 0

-- a row of an object that exists: its size, its stamp, its ETag, and its type after the length of it
abbrev pub live_bytes : RowView → List ℕ
live_bytes row = number_bytes row.size ++ (number_bytes row.stamp.micros ++ (row.stamp.zone ∷ (row.etag ++ (short_bytes (length row.kind) ++ row.kind))))

-- the row of an object that does not exist takes no bytes
abbrev pub row_bytes : RowView → List ℕ
row_bytes row = if row.exists then live_bytes row else []

-- the bytes before the tags, the last eight of which say how many tags there are
abbrev pub front_bytes : ℕ → ℕ → RowView → ℕ → List ℕ
front_bytes version revision row tags =
    238 ∷ 1 ∷ flag row.exists ∷ (number_bytes version ++ (number_bytes revision ++ (row_bytes row ++ number_bytes tags)))

-- a tag: its number, then its deadline
abbrev pub tag_bytes : Tag → List ℕ
tag_bytes t = number_bytes t.tag ++ number_bytes t.deadline

abbrev pub tags_bytes : List Tag → List ℕ
tags_bytes [] = []
tags_bytes (t ∷ ts) = tag_bytes t ++ tags_bytes ts

-- the bytes of an entry
abbrev pub entry_bytes : EntryView → List ℕ
entry_bytes e = front_bytes e.version e.revision e.row (length e.tags) ++ tags_bytes e.tags

-- what an entry says before its tags, and where its tags begin
abbrev pub front_of : EntryView → EntryFront
front_of e = record {
  version = e.version;
  revision = e.revision;
  exists = e.row.exists;
  size = e.row.size;
  tags = length e.tags;
  tags_start = 27 + length (row_bytes e.row);
}

-- the bounds of a row: those of its type, with a type that is text
pub record IsWritten (row : RowView) : Type 0 where
  pub bounds : IsRow row
  pub size_fits : row.size < 2 ^ 64
  pub micros_fits : row.stamp.micros < 2 ^ 64
  pub etag_long : length row.etag ≡ 16
  pub etag_fits : AllByRecursion (λ b. b < 256) row.etag
  pub kind_text : IsUtf8 row.kind

abbrev pub IsTag : Tag → Type 0
IsTag t = (t.tag < 2 ^ 64) × (t.deadline < 2 ^ 64)

-- the bounds of an entry: its numbers fit, and its tags rise
pub record IsEntry (e : EntryView) : Type 0 where
  pub version_fits : e.version < 2 ^ 64
  pub revision_fits : e.revision < 2 ^ 64
  pub row_fits : IsWritten e.row
  pub count_fits : length e.tags < 2 ^ 64
  pub tags_fit : AllByRecursion IsTag e.tags
  pub rise : tags_rise e.tags ≡ true
