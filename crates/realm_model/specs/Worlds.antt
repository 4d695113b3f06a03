-- All that a history leaves: the objects, what each actor knows, and facts of the history.
use Rattle.std.specs.Prelude.{ℕ, ◌==◌, ◌&&◌, Bool, true, false, List, bytes_eq, Option, Some, None, if◌then◌else◌}
use Rattle.rgw_model.specs.declared.slot.Slot.{Slot}
use Rattle.rgw_types.specs.declared.stamp.Stamp.{Stamp}
use Rattle.rgw_types.specs.Stripes.{ManifestView, tails_of}
use Rattle.object_words.specs.declared.bucket.Bucket.{Bucket}
use Rattle.object_words.specs.declared.head.SeenSlot.TheVariants.{Live}
use Rattle.object_words.specs.declared.why.Why.TheVariants.{Moved, Closed}
use Rattle.object_words.specs.Keys.{put}
use Rattle.realm_model.specs.Settings.{SettingsView}
use Rattle.realm_model.specs.Tests.{same_stamp}
use Rattle.realm_model.specs.States.{State, opening, number_next, at_moment}
use Rattle.realm_model.specs.Steps.{is_master, after}
use Rattle.realm_model.specs.Phases.{ActorId, OwnChange, Phase, fresh}
use Rattle.realm_model.specs.Containers.{over_in}
use Rattle.realm_model.specs.Needs.{holder_of}
use Rattle.realm_model.specs.Learnt.{put_bundle, learnt}
use Rattle.realm_model.specs.Maps.{Maps, Made, no_maps, mapped, whole_slot}
use Rattle.realm_model.specs.Accounts.{Account, blank, accounted}
use Rattle.realm_model.specs.Facts.{TagNote, IndexFacts, Home, Instance, RowFacts, Place, nowhere, making, in_head, replaced, Ledger, StripeFacts, StampFacts}
use Rattle.realm_model.specs.declared.op.Op.{Op}
use Rattle.realm_model.specs.declared.op.Op.TheVariants.{BucketSwap, Prepare, Complete, Cancel, HeadWrite, TailMake}
use Rattle.realm_model.specs.declared.event.Reply.{Reply}
use Rattle.realm_model.specs.declared.event.Reply.TheVariants.{Done, No, Prepared, Changed}
use Rattle.realm_model.specs.declared.event.Event.{Event}

-- all that a history leaves
pub record World : Type 0 where
  -- the objects, the number of events and the clock: what the step of each event leaves
  pub state : State
  -- what each actor knows: changed by its own events alone
  pub phases : ActorId → Phase
  -- what the answers to each actor's events come to: changed by its own events alone
  pub accounts : ActorId → Account
  -- the bucket maps: changed by head changes that were answered Changed
  pub maps : Maps
  -- tags and last changes: changed by preparations, head changes, completions and cancels
  pub index : IndexFacts
  -- containers and their instances: changed by swaps
  pub rows : RowFacts
  -- stripes: changed by tails that are made and by head changes; each event adds who made it
  pub stripes : StripeFacts
  -- stamps: changed by head changes
  pub stamps : StampFacts

-- both are one actor
abbrev pub same_actor : ActorId → ActorId → Bool
same_actor a b = a.pass == b.pass && a.count == b.count

-- a function that has another value at one actor
abbrev pub put_actor : {A : Type 0} → (ActorId → A) → ActorId → A → ActorId → A
put_actor f actor x a = if same_actor a actor then x else f a

-- a function that has another value at one name
abbrev pub put_name : {A : Type 0} → (List ℕ → A) → List ℕ → A → List ℕ → A
put_name f name x n = if bytes_eq n name then x else f n

-- a function that has another value at one stamp
abbrev pub put_stamp : {A : Type 0} → (Stamp → A) → Stamp → A → Stamp → A
put_stamp f stamp x s = if same_stamp s stamp then x else f s

-- ---- tags and last changes

-- a change was made under the tag
abbrev pub changed_note : Option TagNote → OwnChange → Option TagNote
changed_note None change = None
changed_note (Some note) change = Some (record note { change = Some change })

-- the tag was completed or cancelled
abbrev pub ended_note : Option TagNote → Option TagNote
ended_note None = None
ended_note (Some note) = Some (record note { ended = true })

-- preparations give tags, head changes are made under them, completions and cancels end them
abbrev pub tags_after : (ℕ → Option TagNote) → ActorId → Op → Reply → ℕ → Option TagNote
tags_after tags actor (Prepare zone key name) (Prepared guard) =
    put tags guard.tag
    (Some (record {
      actor = actor;
      zone = zone;
      key = key;
      name = name;
      deadline = guard.deadline;
      change = None;
      ended = false;
    }))
tags_after tags actor (HeadWrite zone container name guard new when) (Changed change) =
    put tags guard.tag (changed_note (tags guard.tag) (record { version = change.version; row = change.row }))
tags_after tags actor (Complete zone key name tag version row) (No (Moved instance)) = tags
tags_after tags actor (Complete zone key name tag version row) (No Closed) = tags
tags_after tags actor (Complete zone key name tag version row) reply = put tags tag (ended_note (tags tag))
tags_after tags actor (Cancel zone key name tag) reply = put tags tag (ended_note (tags tag))
tags_after tags actor op reply = tags

-- a head change is the last one of its name
abbrev pub last_after : (ℕ → ℕ → List ℕ → Option ℕ) → Op → Reply → ℕ → ℕ → List ℕ → Option ℕ
last_after last (HeadWrite zone container name guard new when) (Changed change) =
    put last zone (put (last zone) container (put_name (last zone container) name (Some guard.tag)))
last_after last op reply = last

-- what an event adds to the facts of tags
abbrev pub index_after : IndexFacts → ActorId → Op → Reply → IndexFacts
index_after x actor op reply = record { tags = tags_after x.tags actor op reply; last = last_after x.last op reply }

-- ---- containers and instances

-- a swap that expects no row makes one
abbrev pub with_home : (ℕ → Option Home) → ℕ → List ℕ → ℕ → Option Bucket → ℕ → ℕ → Option Home
with_home homes zone name expected None number = homes
with_home homes zone name expected (Some new) number =
    if is_master zone && expected == 0 then put homes new.id (Some (record { name = name; at = number })) else homes

-- a swap that is done in zone 1 and expects no row makes a container
abbrev pub homes_after : (ℕ → Option Home) → Op → Reply → ℕ → ℕ → Option Home
homes_after homes (BucketSwap zone name expected new) Done number = with_home homes zone name expected new number
homes_after homes op reply number = homes

-- what a row says of its instance
abbrev pub instance_in : Bucket → Instance
instance_in row = record { shards = row.shards; over = over_in row }

-- a row names its instance
abbrev pub with_instance : (ℕ → ℕ → ℕ → Option Instance) → ℕ → Option Bucket → ℕ → ℕ → ℕ → Option Instance
with_instance instances zone None = instances
with_instance instances zone (Some row) = put_bundle instances zone row.id row.instance (Some (instance_in row))

-- swaps put instances into rows
abbrev pub instances_after : (ℕ → ℕ → ℕ → Option Instance) → Op → Reply → ℕ → ℕ → ℕ → Option Instance
instances_after instances (BucketSwap zone name expected new) Done = with_instance instances zone new
instances_after instances op reply = instances

-- what an event adds to the facts of containers
abbrev pub rows_after : RowFacts → Op → Reply → ℕ → RowFacts
rows_after x op reply number = record {
  homes = homes_after x.homes op reply number;
  instances = instances_after x.instances op reply;
}

-- ---- stripes

-- no tail was made
abbrev pub is_nowhere : Place → Bool
is_nowhere nowhere = true
is_nowhere place = false

-- tails that were nowhere are being made; those of another place stay there
abbrev pub counted_part : Ledger → ActorId → ℕ → Ledger
counted_part l actor part = record { count = part; place = if is_nowhere l.place then making actor else l.place }

-- the tails of a manifest are at another place
abbrev pub moved_to : (ℕ → ℕ → ℕ → Ledger) → ℕ → Option ManifestView → Place → ℕ → ℕ → ℕ → Ledger
moved_to ledger zone None place = ledger
moved_to ledger zone (Some m) place =
    put_bundle ledger zone m.write (holder_of m) (record (ledger zone m.write (holder_of m)) { place = place })

-- content without tails moves none
abbrev pub tailed : ManifestView → Option ManifestView
tailed m = if tails_of m == 0 then None else Some m

-- a tail that is made counts; a head change names some and replaces others
abbrev pub ledger_after : (ℕ → ℕ → ℕ → Ledger) → ActorId → Op → Reply → ℕ → ℕ → ℕ → Ledger
ledger_after ledger actor (TailMake zone write part bytes) Done =
    put_bundle ledger zone write write (counted_part (ledger zone write write) actor part)
ledger_after ledger actor (HeadWrite zone container name guard new when) (Changed change) =
    moved_to (moved_to ledger zone change.old (replaced actor)) zone (tailed new.manifest) (in_head container name)
ledger_after ledger actor op reply = ledger

-- a tail is made with its bytes
abbrev pub made_after : Made → Op → Reply → Made
made_after made (TailMake zone write part bytes) Done = put_bundle made zone write part (Some bytes)
made_after made op reply = made

-- what an event adds to the facts of stripes
abbrev pub stripes_after : StripeFacts → ActorId → Op → Reply → ℕ → StripeFacts
stripes_after x actor op reply number = record {
  ledger = ledger_after x.ledger actor op reply;
  made = made_after x.made op reply;
  by = put x.by number actor;
}

-- ---- stamps

-- a local head change leaves a slot with its stamp
abbrev pub slots_after : (ℕ → List ℕ → Stamp → Option Slot) → Made → Op → Reply → ℕ → List ℕ → Stamp → Option Slot
slots_after slots made (HeadWrite zone container name guard new when) (Changed change) =
    put slots container
    (put_name (slots container) name
    (put_stamp (slots container name) change.stamp (Some (whole_slot made zone (Live new change.stamp)))))
slots_after slots made op reply = slots

-- what an event adds to the facts of stamps
abbrev pub stamps_after : StampFacts → Made → Op → Reply → StampFacts
stamps_after x made op reply = record { slots = slots_after x.slots made op reply }

-- ---- the world

-- before the first event
abbrev pub start : SettingsView → World
start settings = record {
  state = opening settings;
  phases = λ actor. fresh;
  accounts = λ actor. blank;
  maps = no_maps;
  index = record { tags = λ tag. None; last = λ zone container name. None };
  rows = record { homes = λ container. None; instances = λ zone container instance. None };
  stripes = record {
    ledger = λ zone write holder. record { count = 0; place = nowhere };
    made = λ zone write part. None;
    by = λ number. record { pass = 0; count = 0 };
  };
  stamps = record { slots = λ container name stamp. None };
}

-- who made the event
abbrev pub actor_of : Event → ActorId
actor_of e = record { pass = e.pass; count = e.count }

-- what an event leaves
abbrev pub happens : SettingsView → World → Event → World
happens settings w e =
    let actor = actor_of e in
    let number = number_next w.state in
    let st = at_moment w.state e.moment in
    record {
      state = after settings st e.op;
      phases = put_actor w.phases actor (learnt (w.phases actor) e.op e.reply number st.clock);
      accounts = put_actor w.accounts actor (accounted (w.accounts actor) w.maps w.stripes.made e.op e.reply number st.clock);
      maps = mapped w.maps e.op e.reply;
      index = index_after w.index actor e.op e.reply;
      rows = rows_after w.rows e.op e.reply number;
      stripes = stripes_after w.stripes actor e.op e.reply number;
      stamps = stamps_after w.stamps w.stripes.made e.op e.reply;
    }
