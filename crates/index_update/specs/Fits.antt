-- The stage of an update is what its actor's own events since its start came to.
use Rattle.std.specs.Prelude.{◌≡◌, ℕ, ◌+◌, ◌<◌, ◌≤◌, ◌⊎◌, Bool, true, false, List, [], ◌∷◌, ◌++◌, length, Option, Some, None}
use Rattle.rgw_types.specs.declared.pool_key.Key.{Key}
use Rattle.rgw_types.specs.declared.stamp.Stamp.{Stamp}
use Rattle.rgw_types.specs.Stamps.{stamp_above}
use Rattle.rgw_types.specs.Stripes.{ManifestView}
use Rattle.object_words.specs.declared.bucket.Bucket.{Bucket}
use Rattle.object_words.specs.declared.entry.Guard.{Guard}
use Rattle.object_words.specs.declared.head.SeenSlot.{SeenSlot}
use Rattle.object_words.specs.declared.why.Why.TheVariants as whys
use Rattle.object_words.specs.Conditions.{fails}
use Rattle.object_words.specs.Heads.{etag_of, seen_stamp}
use Rattle.object_words.specs.Keys.{container_of}
use Rattle.object_words.specs.Limits.{is_name}
use Rattle.object_words.specs.Names.{at}
use Rattle.realm_model.specs.Settings.{SettingsView}
use Rattle.realm_model.specs.Accounts.{Looked, Decided, Account, accounted}
use Rattle.realm_model.specs.Allowed.{allowed}
use Rattle.realm_model.specs.Doors.{DoorView, actor_at}
use Rattle.realm_model.specs.Histories.{account_of, phase_of, world_of}
use Rattle.realm_model.specs.Learnt.{learnt}
use Rattle.realm_model.specs.Maps.{Maps, Made, slot_at, whole_slot}
use Rattle.realm_model.specs.Needs.{object_limit, is_over, holder_of}
use Rattle.realm_model.specs.Owns.{OwnEvent, own_events}
use Rattle.realm_model.specs.Phases.{FirstEvent, OwnTag, Phase, Stage as TagStage, pending, tried, over}
use Rattle.realm_model.specs.Suits.{Suits}
use Rattle.realm_model.specs.Worlds.{made_after}
use Rattle.realm_model.specs.declared.op.Op.{Op}
use Rattle.realm_model.specs.declared.op.Op.TheVariants as ops
use Rattle.realm_model.specs.declared.event.Reply.{Reply}
use Rattle.realm_model.specs.declared.event.Reply.TheVariants as replies
use Rattle.swift_auth.specs.declared.policy.Deed.TheVariants.{ChangeThing}
use Rattle.task_words.specs.declared.reply.Refusal.{Refusal}
use Rattle.task_words.specs.Outcomes.{most_moved, most_expired, LookedUp, MetHold, WantedSpace, left_count}
use Rattle.task_words.specs.Rows.{row_refusal}
use Rattle.std.specs.List.{AllByRecursion}
use Rattle.index_update.specs.Changes.{has_needs, HeadAnswer, IsOfUpdate}
use Rattle.index_update.specs.Paths.{Path, turned, ready, prepared, announced, changed, refused, adrift, path_from, IsFinished}
use Rattle.index_update.specs.Stages.{shard_for, op_of, tried_after, step_of}
use Rattle.index_update.specs.declared.head_change.HeadChange.{HeadChange}
use Rattle.index_update.specs.declared.stage.Target.{Target}
use Rattle.index_update.specs.declared.stage.Change.{Change}
use Rattle.index_update.specs.declared.stage.Tried.{Tried}
use Rattle.index_update.specs.declared.stage.Updated.{Updated}
use Rattle.index_update.specs.declared.stage.Updated.TheVariants as ends
use Rattle.index_update.specs.declared.stage.After.{After}
use Rattle.index_update.specs.declared.stage.After.TheVariants.{Again, End}
use Rattle.index_update.specs.declared.stage.Stage.{Stage}
use Rattle.index_update.specs.declared.stage.Stage.TheVariants.{Looking, Preparing, Announcing, Writing, Cancelling, Completing, LookingForShard, Ended}

-- ---- what is known, and what is asked

-- what an actor's own events came to, these events, how many events the history has, and the tails that were made in it
pub record Known : Type 0 where
  pub phase : Phase
  pub account : Account
  pub events : List OwnEvent
  pub last : ℕ
  pub made : Made

-- what the actor of a door knows
abbrev pub known_at : SettingsView → DoorView → Known
known_at settings d = record {
  phase = phase_of settings d.seen (actor_at d);
  account = account_of settings d.seen (actor_at d);
  events = own_events d.seen (actor_at d);
  last = length d.seen;
  made = (world_of settings d.seen).stripes.made;
}

-- others made events, up to this number of them all, and these tails
abbrev pub known_later : Known → ℕ → Made → Known
known_later k last made = record { phase = k.phase; account = k.account; events = k.events; last = last; made = made }

-- after an own event of this number at this clock, before which the bucket maps were these
abbrev pub known_next : Known → Maps → Op → Reply → ℕ → ℕ → Known
known_next k maps op reply number clock = record {
  phase = learnt k.phase op reply number clock;
  account = accounted k.account maps k.made op reply number clock;
  events = k.events ++ (record { op = op; reply = reply; number = number; clock = clock }) ∷ [];
  last = number;
  made = made_after k.made op reply;
}

-- what change an update was asked for, and where it began: how far its own events had come, and what was known
pub record Start : Type 0 where
  pub change : HeadChange
  pub from : Path
  pub known : Known

-- an update: who changes what, how, and where it began
pub record Asked : Type 0 where
  pub target : Target
  pub change : HeadChange
  pub from : Path
  pub start : Known

-- the name of the object is within the bounds of names
abbrev pub HasName : Target → Type 0
HasName t = is_name object_limit t.name ≡ true

-- ---- since the start

-- no own tail was made or named, and tails that were made stand
pub record Since (r : Asked) (k : Known) : Type 0 where
  pub own : k.phase.stripes.own ≡ r.start.phase.stripes.own
  pub first : (f : FirstEvent) → r.start.phase.first ≡ Some f → k.phase.first ≡ Some f
  pub made : (zone write part : ℕ) (bytes : List ℕ) → r.start.made zone write part ≡ Some bytes → k.made zone write part ≡ Some bytes

-- the change is the one that is asked, whose own tails were made before
pub record Carries (r : Asked) (change : HeadChange) (k : Known) : Type 0 where
  pub same : change ≡ r.change
  pub needs : has_needs r.start.phase r.target.zone r.change ≡ true
  pub since : Since r k

-- ---- before the head is changed

-- the counts are those of the own events, no head was touched, and not too much was refused
pub record Trying (r : Asked) (x : Tried) (k : Known) : Type 0 where
  pub moved : k.account.moved.count ≡ r.start.account.moved.count + x.moved
  pub left : left_count k.events ≡ left_count r.start.events + x.moved
  pub few : x.moved < most_moved
  pub moved_before : k.account.moved.last ≤ k.last
  pub expired : k.account.expired.count ≡ r.start.account.expired.count + x.expired
  pub few_expired : x.expired < most_expired
  pub undecided : k.account.decided ≡ r.start.account.decided
  pub unchanged : k.account.changes ≡ r.start.account.changes

-- the last own read of a row, after the last answer Moved or Closed, was of this row of the container. It grants the change,
-- and has this shard for the object's name
pub record AtRow (t : Target) (key : Key) (k : Known) : Type 0 where
  pub row : Bucket
  pub number : ℕ
  pub looked : k.account.looked ≡ Some (record { zone = t.zone; name = t.container; row = Some row; number = number })
  pub read : at (k.phase.rows t.zone) t.container ≡ Some (record { row = Some row; at = number })
  pub granted : row_refusal t.asker (Some row) ChangeThing ≡ None
  pub some : 0 < row.shards
  pub names : key ≡ shard_for row t.name
  pub later : k.account.moved.last < number
  pub before : number ≤ k.last

-- ---- under a tag

-- no tag is open
abbrev pub IsTagFree : Option OwnTag → Type 0
IsTagFree None = Unit {0}
IsTagFree (Some t) = t.stage ≡ over

-- the own tag is of the name, in this shard, and nothing was changed under it
abbrev pub tag_for : Asked → Key → Guard → Bool → OwnTag
tag_for r key guard is_announced = record {
  guard = guard;
  zone = r.target.zone;
  key = key;
  name = r.target.name;
  announced = is_announced;
  change = None;
  stage = pending;
}

-- the own tag, under which the head was changed
abbrev pub changed_tag : Asked → Change → Guard → TagStage → OwnTag
changed_tag r made guard stage = record {
  guard = guard;
  zone = r.target.zone;
  key = made.home;
  name = r.target.name;
  announced = true;
  change = Some (record { version = made.version; row = made.row });
  stage = stage;
}

-- the tag of this number is open
pub record HasTag (r : Asked) (key : Key) (number : ℕ) (k : Known) : Type 0 where
  pub guard : Guard
  pub numbered : guard.tag ≡ number
  pub tag : k.phase.tag ≡ Some (tag_for r key guard true)

-- ---- ends

-- the last own event on a head was this change, of the slot that the bucket map had just before it, in the container whose row
-- the last own bucket read up to it showed, and which grants it
pub record ByHead (r : Asked) (stamp : Option Stamp) (last : Option Decided) : Type 0 where
  pub event : Decided
  pub is_last : last ≡ Some event
  pub in_zone : event.zone ≡ r.target.zone
  pub of_name : event.name ≡ r.target.name
  pub look : Looked
  pub looked : event.looked ≡ Some look
  pub look_in_zone : look.zone ≡ r.target.zone
  pub look_of_name : look.name ≡ r.target.container
  pub row : Bucket
  pub showed : look.row ≡ Some row
  pub granted : row_refusal r.target.asker (Some row) ChangeThing ≡ None
  pub in_container : event.container ≡ row.id
  pub made : Made
  pub stands : (zone write part : ℕ) (bytes : List ℕ) → r.start.made zone write part ≡ Some bytes → made zone write part ≡ Some bytes
  pub seen : SeenSlot
  pub before : event.before ≡ whole_slot made r.target.zone seen
  pub answers : HeadAnswer r.change made r.target.zone event.clock seen stamp event.after

-- the last own bucket read refuses it, and no head was touched
pub record ByRow (r : Asked) (refusal : Refusal) (y : Account) : Type 0 where
  pub by_row : LookedUp r.target.zone r.target.asker r.target.container ChangeThing (Some refusal) y.looked
  pub undecided : y.decided ≡ r.start.account.decided
  pub unchanged : y.changes ≡ r.start.account.changes

-- the last own bucket read grants it, and no head was changed
pub record Granted (r : Asked) (y : Account) : Type 0 where
  pub by_row : LookedUp r.target.zone r.target.asker r.target.container ChangeThing None y.looked
  pub unchanged : y.changes ≡ r.start.account.changes

-- the one change of a head was completed, or so many events were answered Moved or Closed
pub record IsChanged (r : Asked) (k : Known) : Type 0 where
  pub changed : k.account.changes ≡ r.start.account.changes + 1
  pub completed : (1 ≤ k.account.completes) ⊎ (left_count k.events ≡ left_count r.start.events + most_moved)

-- the manifest that the change replaced is not queued yet
abbrev pub IsReplaced : ℕ → Option ManifestView → (ℕ → ℕ → ℕ → Option ManifestView) → Type 0
IsReplaced zone None olds = Unit {0}
IsReplaced zone (Some old) olds = olds zone old.write (holder_of old) ≡ Some old

-- what each end rests on
abbrev pub EndsSo : Asked → Updated → Known → Type 0
EndsSo r (ends.Changed stamp old) k = ByHead r (Some stamp) k.account.decided × IsChanged r k × IsReplaced r.target.zone old k.phase.stripes.olds
EndsSo r (ends.Refused refusal) k = ByRow r refusal k.account × Since r k
EndsSo r ends.NotMet k = ByHead r None k.account.decided × (k.account.changes ≡ r.start.account.changes) × Since r k
EndsSo r (ends.Busy id) k = Granted r k.account × MetHold id k.account.held × Since r k
EndsSo r ends.MovedOften k = Granted r k.account × (k.account.moved.count ≡ r.start.account.moved.count + most_moved) × Since r k
EndsSo r ends.LateTag k = Granted r k.account × (k.account.expired.count ≡ r.start.account.expired.count + most_expired) × Since r k
EndsSo r (ends.NoSpace free needed) k = Granted r k.account × WantedSpace free needed k.account.wanted × Since r k

-- an end that waits for the cancel of a tag alone
abbrev pub IsCancelled : Updated → Type 0
IsCancelled ends.NotMet = Unit {0}
IsCancelled ends.LateTag = Unit {0}
IsCancelled (ends.NoSpace free needed) = Unit {0}
IsCancelled end = ⊥

-- what comes after the cancel
abbrev pub IsAfter : Asked → Tried → Key → After → Known → Type 0
IsAfter r x key (Again change) k = Trying r x k × AtRow r.target key k × Carries r change k
IsAfter r x key (End end) k = IsCancelled end × EndsSo r end k

-- ---- after the head was changed

-- the first answer Moved to a completion has at most this number
abbrev pub IsTriedBy : TagStage → ℕ → Type 0
IsTriedBy (tried (Some first)) last = first ≤ last
IsTriedBy stage last = Unit {0}

-- the one own change of a head is that of the bucket map, the tag is still there, and not too much was refused
pub record HasChanged (r : Asked) (x : Tried) (made : Change) (stage : TagStage) (k : Known) : Type 0 where
  pub by_head : ByHead r (Some made.stamp) k.account.decided
  pub once : k.account.changes ≡ r.start.account.changes + 1
  pub replaced : IsReplaced r.target.zone made.old k.phase.stripes.olds
  pub left : left_count k.events ≡ left_count r.start.events + x.moved
  pub few : x.moved < most_moved
  pub guard : Guard
  pub numbered : guard.tag ≡ made.tag
  pub tag : k.phase.tag ≡ Some (changed_tag r made guard stage)
  pub waits : is_over stage ≡ false
  pub tried_by : IsTriedBy stage k.last

-- a completion was answered Moved, and a read of the row after it showed this shard of the container
pub record ReadSince (r : Asked) (home key : Key) (stage : TagStage) (k : Known) : Type 0 where
  pub first : ℕ
  pub is_tried : stage ≡ tried (Some first)
  pub row : Bucket
  pub number : ℕ
  pub since : first < number
  pub read : at (k.phase.rows r.target.zone) r.target.container ≡ Some (record { row = Some row; at = number })
  pub of_container : row.id ≡ container_of home
  pub names : key ≡ shard_for row r.target.name

-- a completion was answered Moved
pub record WasMoved (stage : TagStage) : Type 0 where
  pub first : ℕ
  pub is_tried : stage ≡ tried (Some first)

-- ---- by stage

-- how far the own events have come
abbrev pub IsAt : Stage → Path → Type 0
IsAt (Looking change) turned = Unit {0}
IsAt (Preparing key change) ready = Unit {0}
IsAt (Announcing key guard change) prepared = Unit {0}
IsAt (Writing key guard change) announced = Unit {0}
IsAt (Cancelling key tag after) refused = Unit {0}
IsAt (Completing key made) changed = Unit {0}
IsAt (LookingForShard made) adrift = Unit {0}
IsAt (Ended end) path = IsFinished path
IsAt stage path = ⊥

-- what each stage needs of what is known
abbrev pub FitsAt : Asked → Tried → Stage → Known → Type 0
FitsAt r x (Looking change) k = Trying r x k × Carries r change k × IsTagFree k.phase.tag
FitsAt r x (Preparing key change) k = Trying r x k × AtRow r.target key k × Carries r change k × IsTagFree k.phase.tag
FitsAt r x (Announcing key guard change) k =
    Trying r x k × AtRow r.target key k × Carries r change k × (k.phase.tag ≡ Some (tag_for r key guard false))
    × (k.account.expired.straight ≡ true)
FitsAt r x (Writing key guard change) k =
    Trying r x k × AtRow r.target key k × Carries r change k × (k.phase.tag ≡ Some (tag_for r key guard true))
    × (k.account.expired.straight ≡ true)
FitsAt r x (Cancelling key tag after) k = HasTag r key tag k × IsAfter r x key after k
FitsAt r x (Completing key made) k =
    (stage : TagStage) × HasChanged r x made stage k × ((key ≡ made.home) ⊎ ReadSince r made.home key stage k)
FitsAt r x (LookingForShard made) k = (stage : TagStage) × HasChanged r x made stage k × WasMoved stage
FitsAt r x (Ended end) k = EndsSo r end k

-- the stage is what the own events since the start came to, and these came in their order
pub record Fits (settings : SettingsView) (r : Asked) (x : Tried) (stage : Stage) (k : Known) : Type 0 where
  pub low : 1 ≤ r.target.zone
  pub high : r.target.zone ≤ settings.zones
  -- by the type of names
  pub named : HasName r.target
  pub mine : List OwnEvent
  pub follow : k.events ≡ r.start.events ++ mine
  pub order : IsAt stage (path_from r.from mine)
  pub own : AllByRecursion (λ (e : OwnEvent). IsOfUpdate r.target r.change e.op) mine
  pub stands : FitsAt r x stage k

-- ---- one event more

-- a row that is shown has shards
abbrev pub HasShards : Reply → Type 0
HasShards (replies.Row row) = 0 < row.shards
HasShards reply = Unit {0}

-- a row that an answer shows has shards; what the answer to a head change says of the slot before it
abbrev pub IsAnswer : Maps → ℕ → Op → Reply → Type 0
IsAnswer maps clock (ops.BucketRead zone name) (replies.Row row) = 0 < row.shards
IsAnswer maps clock (ops.HeadWrite zone container name guard new when) (replies.Changed made) =
    (fails when (etag_of (slot_at (maps zone container) name)) ≡ false)
    × (made.stamp ≡ stamp_above (seen_stamp (slot_at (maps zone container) name)) clock zone)
IsAnswer maps clock (ops.HeadWrite zone container name guard new when) (replies.No (whys.NotMet stamp)) =
    fails when (etag_of (slot_at (maps zone container) name)) ≡ true
IsAnswer maps clock op reply = Unit {0}

-- the operation of the stage may come next
abbrev pub MayCome : SettingsView → Asked → Stage → Known → Type 0
MayCome settings r stage k = allowed settings k.phase (op_of r.target stage) ≡ true

-- the answer to the operation of the stage brings it to one that is what the own events then came to
abbrev pub IsKept : Asked → Tried → Stage → Known → Reply → Type 0
IsKept r x stage k reply =
    (maps : Maps) (number clock : ℕ) → k.last < number
    → Suits (op_of r.target stage) reply
    → IsAnswer maps clock (op_of r.target stage) reply
    → FitsAt r (tried_after x reply) (step_of r.target (tried_after x reply) stage reply)
    (known_next k maps (op_of r.target stage) reply number clock)
