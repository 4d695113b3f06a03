-- Sums over all shards of a container's row, and the names of one of them.
use Rattle.std.specs.Prelude.{◌≡◌, ℕ, ◌==◌, true, List, Option, Some, None, sum_by}
use Rattle.std.specs.List.{range_with_len}
use Rattle.object_words.specs.declared.bucket.Bucket.{Bucket}
use Rattle.object_words.specs.declared.head.SeenSlot.{SeenSlot}
use Rattle.object_words.specs.Hashes.{shard_of}
use Rattle.object_words.specs.Keys.{shard_key}
use Rattle.object_words.specs.Names.{Named, where_name}
use Rattle.object_words.specs.Shards.{Shard}
use Rattle.realm_model.specs.Containers.{row_in, is_standing, entry_of_name, is_settled}
use Rattle.realm_model.specs.States.{State}
use Rattle.realm_model.specs.Worlds.{World}

-- what a shard counts; one that was never made counts nothing
abbrev pub counted_in : (Shard → ℕ) → Option Shard → ℕ
counted_in f None = 0
counted_in f (Some s) = f s

-- what the shards of a row count together, in its zone
abbrev pub over_shards : (Shard → ℕ) → State → ℕ → Bucket → ℕ
over_shards f st zone row =
    sum_by (λ number. counted_in f (st.shards zone (shard_key row.id row.instance number))) (range_with_len 0 row.shards)

-- the names of a map that stand in the shard of this number
abbrev pub names_of_shard : Bucket → ℕ → Named SeenSlot → Named SeenSlot
names_of_shard row number map = where_name (λ name. shard_of name row.shards == number) map

-- the container stands and has this row in the zone, and no change of its names is under way
pub record IsAtRest (w : World) (zone container : ℕ) (row : Bucket) : Type 0 where
  pub row_is : row_in w.rows w.state zone container ≡ Some row
  pub stands : is_standing w.rows w.state container ≡ true
  pub settled : (name : List ℕ) → is_settled (entry_of_name w.state zone row name) ≡ true
