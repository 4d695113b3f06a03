-- What an actor knows from its own events, by kind of fact.
use Rattle.std.specs.Prelude.{ℕ, Bool, false, List, [], Option, None}
use Rattle.rgw_types.specs.declared.pool_key.Key.{Key}
use Rattle.rgw_types.specs.Stripes.{ManifestView}
use Rattle.object_words.specs.declared.bucket.Bucket.{Bucket}
use Rattle.object_words.specs.declared.entry.Guard.{Guard}
use Rattle.object_words.specs.Names.{Named, none}
use Rattle.object_words.specs.Rows.{RowView}
use Rattle.object_words.specs.Entries.{EntryView}

-- an actor: the number of its pass, and its number among the actors of that pass
pub record ActorId : Type 0 where
  pub pass : ℕ
  pub count : ℕ

-- its first event: the number, and the clock at it
pub record FirstEvent : Type 0 where
  pub number : ℕ
  pub clock : ℕ

-- the row of a container as its last own read showed it, or own swap left it, and the number of that event
pub record RowRead : Type 0 where
  pub row : Option Bucket
  pub at : ℕ

-- the change that was made under a tag: its version, and the row that it is to have
pub record OwnChange : Type 0 where
  pub version : ℕ
  pub row : RowView

-- a tag is open; its completion was answered Moved or Closed, first Moved by the event of this number, if so at all, and may
-- be tried again; it is over
pub data Stage : Type 0 where
  pending : Stage
  tried : Option ℕ → Stage
  over : Stage

-- the last own preparation that was not refused
pub record OwnTag : Type 0 where
  pub guard : Guard
  pub zone : ℕ
  pub key : Key
  pub name : List ℕ
  pub announced : Bool
  pub change : Option OwnChange
  pub stage : Stage

-- an entry with a tag due, as an own page of a shard showed it that an own read had named; the clock at that page; and
-- what the last own read of the head after it showed
pub record Sighting : Type 0 where
  pub entry : EntryView
  pub moment : ℕ
  pub head : Option OwnChange

-- the tails of one write that an actor made and has neither named nor queued, by their sizes; spent ones are never used again
pub data Bundle : Type 0 where
  unused : Bundle
  opened : List ℕ → Bundle
  spent : Bundle

-- a manifest that an own read of a head showed, with the number and the clock of that event
pub record SeenManifest : Type 0 where
  pub zone : ℕ
  pub manifest : ManifestView
  pub number : ℕ
  pub clock : ℕ

-- what an actor knows of stripes. A bundle goes by the write that made its tails and the write that holds them
pub record OwnStripes : Type 0 where
  -- by zone, write and holder
  pub own : ℕ → ℕ → ℕ → Bundle
  -- manifests that own changes replaced and nobody has queued yet, by zone, write and holder
  pub olds : ℕ → ℕ → ℕ → Option ManifestView
  -- newest first
  pub seen : List SeenManifest
  -- the zone of the own head read of each number
  pub reads : ℕ → Option ℕ

-- the shards of the own instance in one zone for one container: they have the numbers below `made`
pub record OwnShards : Type 0 where
  pub made : ℕ
  -- entries were copied into them: then no further one is made
  pub filled : Bool
  pub announced : ℕ → Bool
  -- an own swap put them into a row
  pub placed : Bool

-- a number that an own swap set in a row: for a closing or a reshard, and the shards that own calls closed under it
pub record OwnNumber : Type 0 where
  pub closing : Bool
  pub closed : ℕ → Bool

-- what an actor's own swaps did to the row that names an instance
pub record OwnWork : Type 0 where
  -- by number
  pub begun : ℕ → Option OwnNumber
  -- the numbers that an own swap cleared
  pub cleared : ℕ → Bool
  -- how many shards the row had that an own swap took away
  pub removed : Option ℕ

-- what an actor knows
pub record Phase : Type 0 where
  pub first : Option FirstEvent
  -- by zone and name of the container
  pub rows : ℕ → Named RowRead
  -- how many shards an instance has that an own read showed, by zone, container and instance
  pub named : ℕ → ℕ → ℕ → Option ℕ
  pub tag : Option OwnTag
  -- by zone, shard and name
  pub seen : ℕ → Key → List ℕ → Option Sighting
  pub stripes : OwnStripes
  -- by zone and container
  pub shards : ℕ → ℕ → OwnShards
  -- by zone, container and instance
  pub work : ℕ → ℕ → ℕ → OwnWork
  -- an own swap began a reshard or a closing, by zone and container
  pub began : ℕ → ℕ → Bool

-- no tail was made, and none was seen
abbrev pub no_stripes : OwnStripes
no_stripes = record {
  own = λ zone write holder. unused;
  olds = λ zone write holder. None;
  seen = [];
  reads = λ number. None;
}

-- no shard was made
abbrev pub no_shards : OwnShards
no_shards = record { made = 0; filled = false; announced = λ shard. false; placed = false }

-- no number was set or cleared, and no row taken away
abbrev pub no_work : OwnWork
no_work = record { begun = λ number. None; cleared = λ number. false; removed = None }

-- an actor that made no event
abbrev pub fresh : Phase
fresh = record {
  first = None;
  rows = λ zone. none;
  named = λ zone container instance. None;
  tag = None;
  seen = λ zone key name. None;
  stripes = no_stripes;
  shards = λ zone container. no_shards;
  work = λ zone container instance. no_work;
  began = λ zone container. false;
}
