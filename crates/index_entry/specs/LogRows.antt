-- How the rows of a log are written: the key, which begins with byte 0 as no name does, then the position; and what the
-- row names: what the bytes are and their layout in two bytes, then of which kind it is, then its numbers and its name.
use Rattle.std.specs.Prelude.{◌≡◌, ℕ, ◌^◌, ◌<◌, ◌≤◌, true, List, ◌∷◌, ◌++◌, length, drop}
use Rattle.std.specs.Str.{IsUtf8}
use Rattle.object_words.specs.Limits.{is_name}
use Rattle.object_words.specs.declared.log.LogWhat.{LogWhat}
use Rattle.object_words.specs.declared.log.LogWhat.TheVariants.{Name, Shard, Bucket}
use Rattle.index_entry.specs.Numbers.{number_bytes, word_bytes}

-- the key of the row at a position
abbrev pub log_key : ℕ → List ℕ
log_key position = 0 ∷ number_bytes position

-- the shard of a container: the container, the instance and the shard, then the name of the container
abbrev pub shard_bytes : ℕ → ℕ → ℕ → List ℕ → List ℕ
shard_bytes container instance shard bucket = number_bytes container ++ (number_bytes instance ++ (word_bytes shard ++ bucket))

-- the bytes of what a row names
abbrev pub what_bytes : LogWhat → List ℕ
what_bytes (Name name) = 236 ∷ 1 ∷ 0 ∷ name
what_bytes (Shard container instance shard bucket) = 236 ∷ 1 ∷ 1 ∷ shard_bytes container instance shard bucket
what_bytes (Bucket name) = 236 ∷ 1 ∷ 2 ∷ name

-- a name of at most so many bytes that is text
abbrev pub IsNameText : ℕ → List ℕ → Type 0
IsNameText most name = (is_name most name ≡ true) × IsUtf8 name

-- its numbers fit, and its name is within its limits
abbrev pub IsWhat : LogWhat → Type 0
IsWhat (Name name) = IsNameText 1024 name
IsWhat (Shard container instance shard bucket) = (container < 2 ^ 64) × (instance < 2 ^ 64) × (shard < 2 ^ 32) × IsNameText 256 bucket
IsWhat (Bucket name) = IsNameText 256 name

-- so many bytes, and no more than the limit, are now what names this; the bytes behind are what they were
pub record WritesWhat (what : LogWhat) (limit count : ℕ) (old new : List ℕ) : Type 0 where
  pub len : count ≡ length (what_bytes what)
  pub most : count ≤ limit
  pub written : new ≡ what_bytes what ++ drop count old
  pub bounds : IsWhat what
