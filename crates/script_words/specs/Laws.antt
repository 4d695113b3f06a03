-- What the definitions of lines come to.
use Rattle.std.specs.Prelude.{◌≡◌, ℕ, List}
use Rattle.script_words.specs.declared.line.Line.{Line}
use Rattle.script_words.specs.Lines.{IsLine}

-- a text means one line at most
abbrev pub HasOneMeaning : Type 0
HasOneMeaning = (zones : ℕ) (bytes : List ℕ) (a b : Line) → IsLine zones bytes a → IsLine zones bytes b → a ≡ b
