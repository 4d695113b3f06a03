-- What the parts of the invariant speak of, as functions.
use Rattle.std.specs.Prelude.{◌≡◌, ℕ, List, Option, Some, None}
use Rattle.rgw_types.specs.declared.pool_key.Key.{Key}
use Rattle.object_words.specs.declared.bucket.Bucket.{Bucket}
use Rattle.object_words.specs.Keys.{head_key, shard_key, container_of, instance_of}
use Rattle.object_words.specs.Hashes.{shard_of}
use Rattle.object_words.specs.Names.{at}
use Rattle.object_words.specs.Entries.{EntryView}
use Rattle.object_words.specs.Heads.{Head}
use Rattle.object_words.specs.Roots.{Root}
use Rattle.object_words.specs.Shards.{Shard}
use Rattle.realm_model.specs.Containers.{entry_in}
use Rattle.realm_model.specs.Phases.{OwnChange}
use Rattle.realm_model.specs.Facts.{TagNote, Home, Instance}
use Rattle.realm_model.specs.Worlds.{World}

-- the entry of each name in each shard of each zone; an absent one counts as one that does not exist
abbrev pub Entries : Type 0
Entries = ℕ → Key → List ℕ → EntryView

abbrev pub entries_of : (ℕ → Key → Option Shard) → ℕ → Key → List ℕ → EntryView
entries_of shards zone key name = entry_in (shards zone key) name

-- the head of each name in each container of each zone
abbrev pub Heads : Type 0
Heads = ℕ → ℕ → List ℕ → Head

abbrev pub heads_of : (ℕ → Key → Head) → ℕ → ℕ → List ℕ → Head
heads_of heads zone container name = heads zone (head_key container name)

-- the row under each name in each zone
abbrev pub Rows : Type 0
Rows = ℕ → List ℕ → Option Bucket

abbrev pub rows_of : (ℕ → Root) → ℕ → List ℕ → Option Bucket
rows_of root zone name = at (root zone).buckets name

-- notes of tags by number
abbrev pub Notes : Type 0
Notes = ℕ → Option TagNote

-- the tag of the last change, by zone, container and name
abbrev pub Lasts : Type 0
Lasts = ℕ → ℕ → List ℕ → Option ℕ

-- instances that were put into rows, by zone, container and number
abbrev pub Instances : Type 0
Instances = ℕ → ℕ → ℕ → Option Instance

-- zone 1 made the container
pub record IsMadeContainer (homes : ℕ → Option Home) (container : ℕ) : Type 0 where
  pub home : Home
  pub made : homes container ≡ Some home

-- the container has a row in zone 1
pub record Stands (homes : ℕ → Option Home) (rows : Rows) (container : ℕ) : Type 0 where
  pub home : Home
  pub made : homes container ≡ Some home
  pub row : Bucket
  pub kept : rows 1 home.name ≡ Some row
  pub id_is : row.id ≡ container

-- and so in a world
abbrev pub StandsIn : World → ℕ → Type 0
StandsIn w container = Stands w.rows.homes (rows_of w.state.root) container

-- the change that was made under a tag
abbrev pub change_in : Option TagNote → Option OwnChange
change_in None = None
change_in (Some note) = note.change

-- the changes under all tags
abbrev pub changes_of : (ℕ → Option TagNote) → ℕ → Option OwnChange
changes_of tags tag = change_in (tags tag)

-- the shard is of an instance that was put into a row, and the name belongs into it
pub record IsPlaced (instances : Instances) (zone : ℕ) (key : Key) (name : List ℕ) : Type 0 where
  pub instance : Instance
  pub placed : instances zone (container_of key) (instance_of key) ≡ Some instance
  pub key_is : key ≡ shard_key (container_of key) (instance_of key) (shard_of name instance.shards)
