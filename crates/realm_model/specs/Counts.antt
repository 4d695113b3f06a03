-- What a count of a container must be: the live names of its map, and the sum of their sizes (OpenStack Object Storage
-- API v1, containers).
use Rattle.std.specs.Prelude.{ℕ}
use Rattle.object_words.specs.declared.head.SeenSlot.{SeenSlot}
use Rattle.object_words.specs.declared.head.SeenSlot.TheVariants.{Live}
use Rattle.object_words.specs.Names.{Named, entries}
use Rattle.object_words.specs.Shards.{total}

-- how many objects there are, and the sum of their sizes
pub record Counts : Type 0 where
  pub objects : ℕ
  pub bytes : ℕ

-- a live slot counts as one
abbrev pub live_count : SeenSlot → ℕ
live_count (Live new stamp) = 1
live_count slot = 0

-- a live slot counts with its size
abbrev pub live_bytes : SeenSlot → ℕ
live_bytes (Live new stamp) = new.manifest.size
live_bytes slot = 0

-- the counts of a map
abbrev pub counts_of : Named SeenSlot → Counts
counts_of map = record { objects = total live_count (entries map); bytes = total live_bytes (entries map) }
