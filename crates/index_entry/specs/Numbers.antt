-- Numbers as bytes, each with its high byte first.
use Rattle.std.specs.Prelude.{ℕ, List}
use Rattle.std.specs.Int.{w16, w32, w64, to_be_bytes}

-- a number in eight bytes
unfoldable pub number_bytes : ℕ → List ℕ
number_bytes n = to_be_bytes w64 n

-- a number in two bytes
unfoldable pub short_bytes : ℕ → List ℕ
short_bytes n = to_be_bytes w16 n

-- a number in four bytes
unfoldable pub word_bytes : ℕ → List ℕ
word_bytes n = to_be_bytes w32 n
