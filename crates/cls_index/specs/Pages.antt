-- Names with the entries that are read under them.
use Rattle.std.specs.Prelude.{ℕ, List}
use Rattle.object_words.specs.Entries.{EntryView}
use Rattle.index_entry.specs.Layouts.{IsEntry}
use Rattle.class_words.specs.Shards.{IsObjectName}

-- a name of an object with an entry that can be written
abbrev pub IsNamed : List ℕ × EntryView → Type 0
IsNamed e = IsObjectName e.0 × IsEntry e.1
