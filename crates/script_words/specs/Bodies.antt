-- The bytes that a script writes.
use Rattle.std.specs.Prelude.{ℕ, List, replicate}
use Rattle.script_words.specs.declared.line.ScriptBody.{ScriptBody}
use Rattle.script_words.specs.declared.line.ScriptBody.TheVariants.{Word, Times}

-- the letter `x` for `*N`
abbrev pub filler : ℕ
filler = 120

-- the bytes of an object, from its body in a script
abbrev pub body_bytes : ScriptBody → List ℕ
body_bytes (Word bytes) = bytes
body_bytes (Times n) = replicate n filler
