-- Eight bytes as one number.
use Rattle.std.specs.Prelude.{◌≡◌, ℕ, zero, suc, ◌+◌, ◌*◌, ◌<◌, List, slice_index_or}

-- the byte at a place; past the end it is 0
abbrev pub byte_at : List ℕ → ℕ → ℕ
byte_at text i = slice_index_or text i 0

-- the first bytes, so many of them, as digits of a number
abbrev pub number_of : ℕ → List ℕ → ℕ
number_of zero text = 0
number_of (suc n) text = number_of n text * 256 + byte_at text n

-- each of them is a byte
abbrev pub AreBytes : ℕ → List ℕ → Type 0
AreBytes zero text = Unit {0}
AreBytes (suc n) text = AreBytes n text × (byte_at text n < 256)

-- the first eight bytes, the first of them highest
pub record IsWord (text : List ℕ) (word : ℕ) : Type 0 where
  pub number : word ≡ number_of 8 text
  pub bytes : AreBytes 8 text
