-- The entry of a name in a shard (developer documents of the bucket index: bucket directory entries).
use Rattle.std.specs.Prelude.{ℕ, ◌==◌, ◌||◌, not, Bool, nat_lt, List, [], length, Option, unwrap_or, if◌then◌else◌}
use Rattle.object_words.specs.declared.entry.Tag.{Tag}
use Rattle.object_words.specs.Numbers.{next}
use Rattle.object_words.specs.Rows.{RowView, no_row}

-- what a shard keeps of a name: the version of the change that the row is from, how often the entry changed, the row, and
-- the changes under way
pub record EntryView : Type 0 where
  pub version : ℕ
  pub revision : ℕ
  pub row : RowView
  pub tags : List Tag

-- the entry of a name that has none
abbrev pub no_entry : EntryView
no_entry = record { version = 0; revision = 0; row = no_row; tags = [] }

-- an absent entry counts as one that does not exist
abbrev pub entry_of : Option EntryView → EntryView
entry_of found = unwrap_or found no_entry

-- the entry changed to other tags
abbrev pub with_tags : EntryView → List Tag → EntryView
with_tags e tags = record e { revision = next e.revision; tags = tags }

-- a change with a greater version comes with its row
abbrev pub stored_if_newer : EntryView → ℕ → RowView → EntryView
stored_if_newer e version row = record e {
  version = if nat_lt e.version version then version else e.version;
  row = if nat_lt e.version version then row else e.row;
}

-- an entry stays where its object exists or it has a tag
abbrev pub is_kept : EntryView → Bool
is_kept e = e.row.exists || not (length e.tags == 0)
