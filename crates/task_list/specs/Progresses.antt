-- How far a listing came.
use Rattle.std.specs.Prelude.{◌≡◌, ℕ, true, false, Bool, List, [], ◌∷◌, ◌++◌, Option, Some, None, string_bytes}
use Rattle.object_words.specs.Rows.{RowView}
use Rattle.list_words.specs.declared.command.ListCommand.{ListCommand}
use Rattle.list_words.specs.declared.key.Key.{Key}
use Rattle.list_words.specs.declared.key.Key.TheVariants.{Whole, Subdir as folded}
use Rattle.list_words.specs.declared.row.ListedRow.{ListedRow}
use Rattle.list_words.specs.declared.row.ListedRow.TheVariants.{Subdir}
use Rattle.list_words.specs.Listings.{is_before, in_scope, listed_row, ends_with_subdir}
use Rattle.task_list.specs.declared.progress.Progress.{Progress}

-- the name up to which all are settled
abbrev pub settled_of : Progress → List ℕ
settled_of p = string_bytes p.settled

-- the rows so far
abbrev pub rows_in : Progress → List ListedRow
rows_in p = p.rows

-- each name in scope is above it
abbrev pub IsStart : ListCommand → List ℕ → Type 0
IsStart c start = (name : List ℕ) → in_scope c name ≡ true → is_before start name ≡ true

-- names with this key have their row already
abbrev pub is_listed : List ListedRow → Key → Bool
is_listed rows Whole = false
is_listed rows (folded text) = ends_with_subdir rows (Subdir text.now)

-- the rows with the one of a name, where it is there
abbrev pub rows_with : ListCommand → List ListedRow → List ℕ → Option RowView → List ListedRow
rows_with c rows name None = rows
rows_with c rows name (Some row) = rows ++ listed_row c (name, row) ∷ []
