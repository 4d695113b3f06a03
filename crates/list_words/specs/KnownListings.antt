-- Listings that were worked out by hand.
use Rattle.std.specs.Prelude.{ℕ, codes, List, [], ◌∷◌, map, true, length, replicate}
use Rattle.object_words.specs.Rows.{RowView}
use Rattle.list_words.specs.declared.command.ListCommand.{ListCommand}
use Rattle.list_words.specs.declared.row.ListedRow.{ListedRow}
use Rattle.list_words.specs.declared.row.ListedRow.TheVariants.{Thing}
use Rattle.list_words.specs.Listings.{thing_of}

-- the row of an object of so many bytes
abbrev pub sized : ℕ → RowView
sized size = record {
  exists = true;
  size = size;
  stamp = record { micros = 1700000000000000; zone = 1 };
  etag = replicate 16 7;
  kind = codes "text/plain";
}

-- objects with these names, of one byte each
abbrev pub named : List (List ℕ) → List (List ℕ × RowView)
named names = map (λ name. (name, sized 1)) names

-- an object's row in a listing
abbrev pub listed : List ℕ → ListedRow
listed name = Thing name (thing_of (sized 1))

-- all names of a container
abbrev pub all : ListCommand
all = record { container = codes "box"; limit = 10000; marker = []; end_marker = []; prefix = []; delimiter = [] }

-- all names, with subdirs
abbrev pub with_subdirs : ListCommand
with_subdirs = record all { delimiter = codes "/" }

-- two names in a directory, and one beside it
abbrev pub slashes : List (List ℕ × RowView)
slashes = named (codes "a/1" ∷ codes "a/2" ∷ codes "b" ∷ [])

-- names with two slashes, and names that begin alike
abbrev pub deeper : List (List ℕ × RowView)
deeper = named (codes "a" ∷ codes "a/b/1" ∷ codes "a/b/2" ∷ codes "a/c" ∷ codes "ab/1" ∷ codes "b" ∷ [])
