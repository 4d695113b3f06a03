-- Facts of a history that no object keeps, and that the invariant speaks of.
use Rattle.std.specs.Prelude.{ℕ, Bool, List, Option}
use Rattle.rgw_types.specs.declared.pool_key.Key.{Key}
use Rattle.rgw_model.specs.declared.slot.Slot.{Slot}
use Rattle.rgw_types.specs.declared.stamp.Stamp.{Stamp}
use Rattle.realm_model.specs.Phases.{ActorId, OwnChange}
use Rattle.realm_model.specs.Maps.{Made}

-- what became of a tag: whose it is, where and for which name it was prepared, the change that was made under it, and
-- whether its actor completed or cancelled it
pub record TagNote : Type 0 where
  pub actor : ActorId
  pub zone : ℕ
  pub key : Key
  pub name : List ℕ
  pub deadline : ℕ
  pub change : Option OwnChange
  pub ended : Bool

-- facts of tags and of the last changes under them
pub record IndexFacts : Type 0 where
  -- by number: a preparation adds it, a head change gives it its change, a cancel or a completion that was not answered
  -- Moved or Closed ends it
  pub tags : ℕ → Option TagNote
  -- the tag of the last head change, by zone, container and name
  pub last : ℕ → ℕ → List ℕ → Option ℕ

-- the name under which zone 1 made a container, and the number of that event
pub record Home : Type 0 where
  pub name : List ℕ
  pub at : ℕ

-- an instance that was put into a row: its shards, and the greatest number that was set in its row and is no longer in
-- progress
pub record Instance : Type 0 where
  pub shards : ℕ
  pub over : ℕ

-- facts of containers and of the instances of their index
pub record RowFacts : Type 0 where
  -- by container: the swap that makes its row in zone 1
  pub homes : ℕ → Option Home
  -- by zone, container and number: a swap that makes or changes a row says what its instance is
  pub instances : ℕ → ℕ → ℕ → Option Instance

-- where the tails of one write are
pub data Place : Type 0 where
  nowhere : Place
  -- their actor has neither named nor queued them
  making : ActorId → Place
  -- the head of this container and name names them
  in_head : ℕ → List ℕ → Place
  -- a change of this actor replaced the head that named them
  replaced : ActorId → Place

-- how many tails were made, and where they are
pub record Ledger : Type 0 where
  pub count : ℕ
  pub place : Place

-- facts of stripes and of who made what
pub record StripeFacts : Type 0 where
  -- by zone, write and holder: a tail that is made counts; a head change moves the tails that it names and replaces
  pub ledger : ℕ → ℕ → ℕ → Ledger
  -- by zone, write and part: the bytes of a tail that was made
  pub made : Made
  -- who made the event of each number
  pub by : ℕ → ActorId

-- facts of the stamps that were given
pub record StampFacts : Type 0 where
  -- by container, name and stamp: the slot that a local head change left with that stamp
  pub slots : ℕ → List ℕ → Stamp → Option Slot
