-- A shard of a container's index: entries by name, whether it takes changes, its log (Ceph manual, Data Layout and
-- Dynamic Bucket Index Resharding).
use Rattle.std.specs.Prelude.{ℕ, ◌+◌, if◌then◌else◌, min, List, [], ◌∷◌, length, Option, None}
use Rattle.object_words.specs.declared.shard.Hold.{Hold}
use Rattle.object_words.specs.declared.shard.Hold.TheVariants.{Free}
use Rattle.object_words.specs.declared.shard.Fate.{Fate}
use Rattle.object_words.specs.declared.shard.Fate.TheVariants.{Serving}
use Rattle.object_words.specs.declared.shard.ShardStats.{ShardStats}
use Rattle.object_words.specs.Names.{Named, none, entries, at, with_name, without_name}
use Rattle.object_words.specs.Numbers.{greatest}
use Rattle.object_words.specs.Entries.{EntryView, entry_of, is_kept}
use Rattle.object_words.specs.Logs.{Log, no_log}

-- entries by name, whether it takes changes, what became of it, and the log of its changes
pub record Shard : Type 0 where
  pub entries : Named EntryView
  pub hold : Hold
  pub fate : Fate
  -- a hold with this number or a lower one is refused
  pub fence : ℕ
  pub log : Log

-- a shard that was just made
abbrev pub new_shard : Shard
new_shard = record { entries = none; hold = Free; fate = Serving; fence = 0; log = no_log }

-- a shard that was never made
abbrev pub no_shard : Option Shard
no_shard = None

-- what the shard has of a name
abbrev pub entry_at : Shard → List ℕ → EntryView
entry_at s name = entry_of (at s.entries name)

-- an entry of which nothing is left is taken away
abbrev pub with_entry : Shard → List ℕ → EntryView → Shard
with_entry s name e = record s { entries = if is_kept e then with_name s.entries name e else without_name s.entries name }

-- a sum over the values of a list of pairs
abbrev pub total : {K X : Type 0} → (X → ℕ) → List (K × X) → ℕ
total f [] = 0
total f (e ∷ es) = f e.1 + total f es

-- a sum over the entries
abbrev pub sum_over : (EntryView → ℕ) → Shard → ℕ
sum_over f s = total f (entries s.entries)

-- an entry whose object exists counts as one
abbrev pub object_count : EntryView → ℕ
object_count e = if e.row.exists then 1 else 0

-- an object that exists counts with its size
abbrev pub byte_count : EntryView → ℕ
byte_count e = if e.row.exists then e.row.size else 0

-- an entry counts with its tags
abbrev pub tag_count : EntryView → ℕ
tag_count e = length e.tags

-- the header that is shown
abbrev pub stats_of : Shard → ShardStats
stats_of s = record {
  objects = sum_over object_count s;
  bytes = min (sum_over byte_count s) greatest;
  tags = sum_over tag_count s;
  hold = s.hold;
  fence = s.fence;
}
