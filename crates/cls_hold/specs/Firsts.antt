-- The first entry of a shard, as its row.
use Rattle.std.specs.Prelude.{ℕ, List, [], ◌∷◌, Option, Some, None}
use Rattle.object_words.specs.Entries.{EntryView}
use Rattle.index_entry.specs.Layouts.{entry_bytes}

-- the first entry, written under its name
abbrev pub first_row : List (List ℕ × EntryView) → Option (List ℕ × List ℕ)
first_row [] = None
first_row (e ∷ es) = Some (e.0, entry_bytes e.1)
