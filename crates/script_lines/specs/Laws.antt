-- How the lines that a reader gives are the lines of the whole input.
use Rattle.std.specs.Prelude.{◌≡◌, ◌≢◌, ℕ, List, [], ◌∷◌, ◌++◌}
use Rattle.script_lines.specs.Lines.{IsUnbroken, lines_of}

-- a line and its line feed are the first line, whatever follows
abbrev pub GoesFirst : Type 0
GoesFirst = (line rest : List ℕ) → IsUnbroken line → lines_of (line ++ 10 ∷ rest) ≡ line ∷ lines_of rest

-- bytes without a line feed are one line, unless there are none
abbrev pub IsLast : Type 0
IsLast = (line : List ℕ) → IsUnbroken line → line ≢ [] → lines_of line ≡ line ∷ []
