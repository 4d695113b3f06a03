-- The rows that a page of names is read from.
use Rattle.std.specs.Prelude.{ℕ, if◌then◌else◌, List, [], ◌∷◌}
use Rattle.std.specs.Ordering.{is_lt}
use Rattle.omap_pages.specs.Rows.{Rows, key_cmp}

-- the keys of the first rows, up to one that is not below the end
abbrev pub keys_below : List ℕ → Rows → List (List ℕ)
keys_below end [] = []
keys_below end (row ∷ rows) = if is_lt (key_cmp row.0 end) then row.0 ∷ keys_below end rows else []
