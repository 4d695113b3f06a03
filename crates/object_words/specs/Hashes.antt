-- In which shard of a container's index a name stands. The formula is own: byte by byte, then mixed.
use Rattle.std.specs.Prelude.{ℕ, ◌+◌, ◌*◌, ◌/◌, ◌%◌, ◌^◌, List, fold, bit_xor}

-- one byte more, in 64 bits
abbrev pub hash_step : ℕ → ℕ → ℕ
hash_step hash byte = (hash + (byte * 16 + byte / 16)) * 11 % 2 ^ 64

-- the hash of all bytes of a name
abbrev pub hash_of : List ℕ → ℕ
hash_of name = fold hash_step 0 name

-- the low byte over the high one, in 32 bits
abbrev pub mixed : ℕ → ℕ
mixed low = bit_xor low (low % 256 * 2 ^ 24)

-- the shard of a name among so many
abbrev pub shard_of : List ℕ → ℕ → ℕ
shard_of name count = mixed (hash_of name % 2 ^ 32) % 7877 % count
