-- The lines of a text: each ends with a line feed, and the last one may go without.
use Rattle.std.specs.Prelude.{◌≡◌, ℕ, Bool, ◌==◌, not, true, List, [], ◌∷◌}
use Rattle.std.specs.List.{list_all, slice_split}

-- a line feed
abbrev pub is_break : ℕ → Bool
is_break b = b == 10

-- the bytes stand in one line
abbrev pub IsUnbroken : List ℕ → Type 0
IsUnbroken bytes = list_all (λ b. not (is_break b)) bytes ≡ true

-- the parts of a text between its line feeds, but for an empty one behind the last of them, which is no line
abbrev pub without_empty_last : List (List ℕ) → List (List ℕ)
without_empty_last [] = []
without_empty_last (part ∷ next ∷ parts) = part ∷ without_empty_last (next ∷ parts)
without_empty_last ([] ∷ []) = []
without_empty_last ((b ∷ part) ∷ []) = (b ∷ part) ∷ []

-- the lines of a text, without their line feeds
abbrev pub lines_of : List ℕ → List (List ℕ)
lines_of bytes = without_empty_last (slice_split is_break bytes)
