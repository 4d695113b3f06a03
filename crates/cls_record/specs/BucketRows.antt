-- How the row of a container is written: what the bytes are and their layout in two bytes, then what is the zone's own,
-- then what all zones share. A number is eight bytes with its high byte first, and a text stands after its length.
use Rattle.std.specs.Prelude.{◌≡◌, ℕ, ◌^◌, ◌<◌, ◌≤◌, true, if◌then◌else◌, List, [], ◌∷◌, ◌++◌, length, Option, Some, None}
use Rattle.std.specs.List.{AllByRecursion}
use Rattle.std.specs.Str.{IsUtf8}
use Rattle.rgw_types.specs.Pairs.{is_risen}
use Rattle.object_words.specs.Limits.{shard_limit}
use Rattle.object_words.specs.declared.bucket.Bucket.{Bucket}
use Rattle.object_words.specs.declared.bucket.Busy.{Busy}
use Rattle.index_entry.specs.Numbers.{number_bytes}

-- a text after its length
abbrev pub text_bytes : List ℕ → List ℕ
text_bytes text = number_bytes (length text) ++ text

-- pairs, each as a name and a value
abbrev pub pairs_bytes : List (List ℕ × List ℕ) → List ℕ
pairs_bytes [] = []
pairs_bytes (p ∷ ps) = text_bytes p.0 ++ (text_bytes p.1 ++ pairs_bytes ps)

-- the part that all zones share: the id, the owner, who may read, who may write, and the number of pairs of the metadata,
-- before the rest
abbrev pub shared_then : ℕ → List ℕ → List ℕ → List ℕ → ℕ → List ℕ → List ℕ
shared_then id owner readers writers count rest =
    number_bytes id ++ (text_bytes owner ++ (text_bytes readers ++ (text_bytes writers ++ (number_bytes count ++ rest))))

abbrev pub shared_bytes : Bucket → List ℕ
shared_bytes b = shared_then b.id b.owner b.readers b.writers (length b.meta) (pairs_bytes b.meta)

-- no work on the shards, a reshard, or a closing
abbrev pub busy_kind : Option Busy → ℕ
busy_kind None = 0
busy_kind (Some busy) = if busy.closing then 2 else 1

-- no work has the number 0
abbrev pub busy_number : Option Busy → ℕ
busy_number None = 0
busy_number (Some busy) = busy.number

-- the zone's own part: the version, the number of the shared part, the last number of a reshard or a closing, the work on
-- the shards as a kind and a number, the instance, and how many shards it has, before the rest
abbrev pub own_then : ℕ → ℕ → ℕ → Option Busy → ℕ → ℕ → List ℕ → List ℕ
own_then version shared number busy instance shards rest =
    235 ∷ 1 ∷ (number_bytes version ++ (number_bytes shared ++ (number_bytes number
    ++ (busy_kind busy ∷ (number_bytes (busy_number busy) ++ (number_bytes instance ++ (number_bytes shards ++ rest)))))))

-- the bytes of a row
abbrev pub bucket_bytes : Bucket → List ℕ
bucket_bytes b = own_then b.version b.shared b.number b.busy b.instance b.shards (shared_bytes b)

-- a text whose length fits
abbrev pub IsText : List ℕ → Type 0
IsText text = IsUtf8 text × (length text < 2 ^ 64)

abbrev pub IsPair : List ℕ × List ℕ → Type 0
IsPair p = IsText p.0 × IsText p.1

-- the part that zones share: its id fits, its texts are texts, and the names of its metadata rise
pub record IsShared (b : Bucket) : Type 0 where
  pub id_fits : b.id < 2 ^ 64
  pub owner : IsText b.owner
  pub readers : IsText b.readers
  pub writers : IsText b.writers
  pub count_fits : length b.meta < 2 ^ 64
  pub pairs : AllByRecursion IsPair b.meta
  pub risen : is_risen b.meta ≡ true

-- the bounds of a row: its numbers fit, and it has 1 to 1999 shards
pub record IsBucket (b : Bucket) : Type 0 where
  pub version_fits : b.version < 2 ^ 64
  pub shared_fits : b.shared < 2 ^ 64
  pub number_fits : b.number < 2 ^ 64
  pub busy_fits : busy_number b.busy < 2 ^ 64
  pub instance_fits : b.instance < 2 ^ 64
  pub shards_low : 1 ≤ b.shards
  pub shards_high : b.shards ≤ shard_limit
  pub shared_part : IsShared b
