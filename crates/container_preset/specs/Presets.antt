-- How a container is made before anything is asked of it, and what its maker knows on the way.
use Rattle.std.specs.Prelude.{◌≡◌, ℕ, zero, suc, ◌+◌, ◌≤◌, ◌⊎◌, true, false, List, [], ◌∷◌, ◌++◌, length, map, Option, Some, None}
use Rattle.std.specs.List.{range_with_len}
use Rattle.object_words.specs.declared.bucket.Bucket.{Bucket}
use Rattle.object_words.specs.declared.why.Why.TheVariants.{Absent}
use Rattle.object_words.specs.Keys.{shard_key}
use Rattle.object_words.specs.Names.{at}
use Rattle.object_words.specs.Roots.{stored}
use Rattle.realm_model.specs.Doors.{DoorView, actor_at}
use Rattle.realm_model.specs.Histories.{Legal, phase_of, state_of}
use Rattle.realm_model.specs.Owns.{OwnEvent, own_events}
use Rattle.realm_model.specs.Phases.{ActorId, Phase}
use Rattle.realm_model.specs.Settings.{SettingsView}
use Rattle.realm_model.specs.declared.event.Event.{Event}
use Rattle.realm_model.specs.declared.event.Reply.{Reply}
use Rattle.realm_model.specs.declared.event.Reply.TheVariants.{Done, No, Row}
use Rattle.realm_model.specs.declared.op.Op.{Op}
use Rattle.realm_model.specs.declared.op.Op.TheVariants.{BucketRead, BucketSwap, ShardMake}
use Rattle.realm_model.specs.Suits.{Suits}
use Rattle.realm_door.specs.Steps.{Extends, Grows}
use Rattle.realm_door.specs.declared.door.Answered.{Answered}

-- ---- where it begins

-- the history is legal, and the actor made no event
pub record IsFresh (settings : SettingsView) (d : DoorView) : Type 0 where
  pub legal : Legal settings d.seen
  pub unused : own_events d.seen (actor_at d) ≡ []

-- the row that zone 1 has under the name
abbrev pub row_now : SettingsView → List Event → List ℕ → Option Bucket
row_now settings history name = at ((state_of settings history).root 1).buckets name

-- ---- the operations

-- the row of a new container without an object, with as many shards as a new one has
abbrev pub new_row : SettingsView → List ℕ → ℕ → Bucket
new_row settings owner id = record {
  id = id;
  owner = owner;
  version = 0;
  shared = 0;
  number = 0;
  busy = None;
  instance = id;
  shards = settings.shards;
  meta = [];
  readers = [];
  writers = [];
}

-- one shard is made
abbrev pub shard_op : ℕ → ℕ → Op
shard_op id shard = ShardMake 1 (shard_key id id shard)

-- the row is made, where there is none
abbrev pub row_op : SettingsView → List ℕ → List ℕ → ℕ → Op
row_op settings name owner id = BucketSwap 1 name 0 (Some (new_row settings owner id))

-- ---- the maker's own events

-- a read of the name found no row, by the event of this number, and then the first so many shards were made
pub record BeginsBy (name : List ℕ) (id made : ℕ) (events : List OwnEvent) : Type 0 where
  pub look : OwnEvent
  pub more : List OwnEvent
  pub stands : events ≡ look ∷ more
  pub looks : look.op ≡ BucketRead 1 name
  pub showed : look.reply ≡ No Absent
  pub number : look.number ≡ id
  pub makes : map (λ e. e.op) more ≡ map (shard_op id) (range_with_len 0 made)

-- and after all shards the row
pub record IsMadeBy (settings : SettingsView) (name owner : List ℕ) (events : List OwnEvent) : Type 0 where
  pub id : ℕ
  pub front : List OwnEvent
  pub begins : BeginsBy name id settings.shards front
  pub last : OwnEvent
  pub stands : events ≡ front ++ last ∷ []
  pub swaps : last.op ≡ row_op settings name owner id

-- a read of the name found a row, and that is all
pub record IsThereBy (name : List ℕ) (events : List OwnEvent) : Type 0 where
  pub look : OwnEvent
  pub row : Bucket
  pub stands : events ≡ look ∷ []
  pub looks : look.op ≡ BucketRead 1 name
  pub showed : look.reply ≡ Row row

-- ---- the history where nobody else makes events

abbrev pub event_by : ActorId → Op → ℕ → Reply → Event
event_by actor op moment reply = record { pass = actor.pass; count = actor.count; op = op; moment = moment; reply = reply }

-- the first so many shards are made
abbrev pub makes : ActorId → ℕ → ℕ → ℕ → List Event
makes actor id moment zero = []
makes actor id moment (suc n) = makes actor id moment n ++ event_by actor (shard_op id n) moment Done ∷ []

-- each shard is made, and then the row
abbrev pub make : SettingsView → ActorId → List ℕ → List ℕ → ℕ → ℕ → List Event
make settings actor name owner id moment = makes actor id moment settings.shards ++ event_by actor (row_op settings name owner id) moment Done ∷ []

-- no row is found, by the event of this number
abbrev pub look : ActorId → List ℕ → ℕ → Event
look actor name moment = event_by actor (BucketRead 1 name) moment (No Absent)

-- no row is found, by an event whose number the container has, and then it is made
abbrev pub preset : SettingsView → ActorId → List ℕ → List ℕ → ℕ → ℕ → List Event
preset settings actor name owner id moment = look actor name moment ∷ make settings actor name owner id moment

-- the row that the event of this number leaves
abbrev pub made_row : SettingsView → List ℕ → ℕ → ℕ → Bucket
made_row settings owner id number = stored None (new_row settings owner id) true number

-- ---- on the way

-- what the maker knows: its first event has this number, it found no row of the name, and made so many shards
pub record IsMaker (p : Phase) (name : List ℕ) (id made : ℕ) : Type 0 where
  pub first : (clock : ℕ) × (p.first ≡ Some (record { number = id; clock = clock }))
  pub read : (number : ℕ) × (at (p.rows 1) name ≡ Some (record { row = None; at = number }))
  pub counts : (p.shards 1 id).made ≡ made
  pub filled : (p.shards 1 id).filled ≡ false
  pub placed : (p.shards 1 id).placed ≡ false

-- a read found no row, and so many shards were made since; where nobody else makes events, by these events alone
pub record HasMade (settings : SettingsView) (alone : Type 0) (d e : DoorView) (name : List ℕ) (id moment made : ℕ) : Type 0 where
  pub legal : Legal settings e.seen
  pub maker : IsMaker (phase_of settings e.seen (actor_at e)) name id made
  pub own : BeginsBy name id made (own_events e.seen (actor_at e))
  pub grows : Grows settings d e
  pub only : alone → e.seen ≡ d.seen ++ makes (actor_at d) id moment made

-- not more shards were made than there are to be
pub record HasMadeSome (settings : SettingsView) (alone : Type 0) (d e : DoorView) (name : List ℕ) (id moment : ℕ) : Type 0 where
  pub made : ℕ
  pub few : made ≤ settings.shards
  pub has : HasMade settings alone d e name id moment made

-- one event of the operation; where nobody else makes events, that alone
pub record MakesOne (settings : SettingsView) (alone : Type 0) (d e : DoorView) (op : Op) (moment : ℕ) : Type 0 where
  pub answered : Answered
  pub extends : Extends settings d op moment answered e
  pub suits : Suits op answered.reply
  pub only : alone → e.seen ≡ d.seen ++ event_by (actor_at d) op moment answered.reply ∷ []

-- the read of a row was the one event
pub record HasRead (settings : SettingsView) (alone : Type 0) (d e : DoorView) (name : List ℕ) (moment : ℕ) (reply : Reply) : Type 0 where
  pub legal : Legal settings e.seen
  pub grows : Grows settings d e
  pub only : alone → e.seen ≡ d.seen ++ event_by (actor_at d) (BucketRead 1 name) moment reply ∷ []

-- it found a row
pub record FindsRow (settings : SettingsView) (alone : Type 0) (d e : DoorView) (name : List ℕ) (moment : ℕ) : Type 0 where
  pub row : Bucket
  pub by_read : HasRead settings alone d e name moment (Row row)
  pub own : IsThereBy name (own_events e.seen (actor_at e))
  pub there : row_now settings e.seen name ≡ Some row
  pub before : alone → row_now settings d.seen name ≡ Some row

-- it found none, and has this number
pub record FindsNone (settings : SettingsView) (alone : Type 0) (d e : DoorView) (name : List ℕ) (id moment : ℕ) : Type 0 where
  pub by_read : HasRead settings alone d e name moment (No Absent)
  pub has : HasMade settings alone e e name id moment 0
  pub number : id ≡ length e.seen
  pub none : row_now settings e.seen name ≡ None
  pub before : alone → row_now settings d.seen name ≡ None

-- the number of an event that was answered that nothing is there
abbrev pub number_if_absent : Reply → ℕ → Option ℕ
number_if_absent (No why) number = Some number
number_if_absent reply number = None

abbrev pub Finds : SettingsView → Type 0 → DoorView → DoorView → List ℕ → ℕ → Option ℕ → Type 0
Finds settings alone d e name moment None = FindsRow settings alone d e name moment
Finds settings alone d e name moment (Some id) = FindsNone settings alone d e name id moment

-- ---- how it stops

-- no event was made, or the row was not found and not more shards were made than there are to be; where nobody else makes
-- events, by these events alone
pub record StopsAfter (settings : SettingsView) (alone : Type 0) (d e : DoorView) (name : List ℕ) (moment : ℕ) : Type 0 where
  pub id : ℕ
  pub made : ℕ
  pub few : made ≤ settings.shards
  pub own : BeginsBy name id made (own_events e.seen (actor_at e))
  pub only : alone → e.seen ≡ d.seen ++ look (actor_at d) name moment ∷ makes (actor_at d) (length d.seen + 1) moment made

abbrev pub Stops : SettingsView → Type 0 → DoorView → DoorView → List ℕ → ℕ → Type 0
Stops settings alone d e name moment = (e ≡ d) ⊎ StopsAfter settings alone d e name moment
