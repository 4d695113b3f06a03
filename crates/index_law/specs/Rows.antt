-- Rows of containers: each has the name that zone 1 gave, and each instance that was put into a row is that of its row while
-- its container stands.
use Rattle.std.specs.Prelude.{◌≡◌, ℕ, ◌≤◌, true, List, Option, Some, IfSome}
use Rattle.std.specs.List.{AllByRecursion}
use Rattle.object_words.specs.declared.bucket.Bucket.{Bucket}
use Rattle.object_words.specs.Names.{entries}
use Rattle.realm_model.specs.Containers.{over_in}
use Rattle.realm_model.specs.Facts.{Home, Instance}
use Rattle.realm_model.specs.Phases.{ActorId, FirstEvent, RowRead, Phase}
use Rattle.index_law.specs.Tables.{Rows, Instances, IsMadeContainer, Stands}
use Rattle.index_law.specs.Works.{WorkHolds}

-- a row under a name: zone 1 made its container under this name, and the row's instance was put into a row, with its shards.
-- A number in progress is the last one that was set
pub record IsNamed (homes : ℕ → Option Home) (instances : Instances) (zone : ℕ) (name : List ℕ) (row : Bucket) : Type 0 where
  pub home : Home
  pub made : homes row.id ≡ Some home
  pub name_is : home.name ≡ name
  pub since : home.at ≤ row.shared
  pub instance : Instance
  pub placed : instances zone row.id row.instance ≡ Some instance
  pub shards_are : instance.shards ≡ row.shards
  pub some : 1 ≤ row.shards
  pub over_low : over_in row ≤ instance.over
  pub busy_is : IfSome row.busy (λ busy. (busy.number ≡ row.number) × (1 ≤ row.number))

-- an instance is in the row that its container has in the zone
pub record IsInRow (homes : ℕ → Option Home) (rows : Rows) (zone container number : ℕ) : Type 0 where
  pub home : Home
  pub made : homes container ≡ Some home
  pub row : Bucket
  pub kept : rows zone home.name ≡ Some row
  pub id_is : row.id ≡ container
  pub instance_is : row.instance ≡ number

-- a row that is kept was given a version, and what is over in it is over in its instance
pub record IsKept (count : ℕ) (homes : ℕ → Option Home) (instances : Instances) (zone : ℕ) (name : List ℕ) (row : Bucket) : Type 0 where
  pub version : 1 ≤ row.version
  pub below : row.version ≤ count
  pub named : IsNamed homes instances zone name row
  pub over_is : (named.instance).over ≡ over_in row

-- a row that an actor read is the one that is kept, where that has its version
pub record IsReadRow (count : ℕ) (homes : ℕ → Option Home) (instances : Instances) (rows : Rows) (zone : ℕ) (name : List ℕ) (row : Bucket) : Type 0 where
  pub version : 1 ≤ row.version
  pub below : row.version ≤ count
  pub named : IsNamed homes instances zone name row
  pub same : (kept : Bucket) → rows zone name ≡ Some kept → kept.version ≡ row.version → kept ≡ row

-- what an actor read last under a name; a container that was made before and was not shown in zone 1 is gone
pub record ReadHolds (count : ℕ) (homes : ℕ → Option Home) (instances : Instances) (rows : Rows) (zone : ℕ) (e : List ℕ × RowRead) : Type 0 where
  pub past : (e.1).at ≤ count
  pub shown : (row : Bucket) → (e.1).row ≡ Some row → IsReadRow count homes instances rows zone e.0 row
  pub gone : zone ≡ 1 → (container : ℕ) (home : Home) → homes container ≡ Some home → home.name ≡ e.0 → home.at ≤ (e.1).at → ((row : Bucket) → (e.1).row ≡ Some row → row.id ≡ container → ⊥) → Stands homes rows container → ⊥

-- what an actor knows of rows, and of its own work on them
pub record Knows (count : ℕ) (homes : ℕ → Option Home) (instances : Instances) (rows : Rows) (p : Phase) : Type 0 where
  pub reads : (zone : ℕ) → AllByRecursion (ReadHolds count homes instances rows zone) (entries (p.rows zone))
  pub works : WorkHolds homes instances rows p.work

pub record RowsStand (count : ℕ) (homes : ℕ → Option Home) (instances : Instances) (rows : Rows) (phases : ActorId → Phase) : Type 0 where
  pub kept : (zone : ℕ) (name : List ℕ) (row : Bucket) → rows zone name ≡ Some row → IsKept count homes instances zone name row
  pub knows : (actor : ActorId) → Knows count homes instances rows (phases actor)
  -- the instance of a container is in its row, while the container stands
  pub in_row : (zone container number : ℕ) (instance : Instance) → instances zone container number ≡ Some instance → Stands homes rows container → IsInRow homes rows zone container number
  -- it is one of a container that zone 1 made
  pub homed : (zone container number : ℕ) (instance : Instance) → instances zone container number ≡ Some instance → IsMadeContainer homes container
  -- an actor whose first event is the number of a container put it into a row of zone 1, and so with an instance
  pub own_home : (actor : ActorId) (first : FirstEvent) (home : Home) → (phases actor).first ≡ Some first → homes first.number ≡ Some home → ((phases actor).shards 1 first.number).placed ≡ true
  pub own_instance : (actor : ActorId) (zone container : ℕ) (first : FirstEvent) (instance : Instance) → (phases actor).first ≡ Some first → instances zone container first.number ≡ Some instance → ((phases actor).shards zone container).placed ≡ true
