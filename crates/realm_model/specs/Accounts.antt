-- What the answers to an actor's own events come to, as far as replies to clients and their causes speak of it.
use Rattle.std.specs.Prelude.{ℕ, ◌+◌, ◌==◌, ◌&&◌, Bool, true, false, nat_lt, List, Option, Some, None, if◌then◌else◌}
use Rattle.rgw_types.specs.declared.pool_key.Key.{Key}
use Rattle.rgw_model.specs.declared.slot.Slot.{Slot}
use Rattle.object_words.specs.declared.bucket.Bucket.{Bucket}
use Rattle.object_words.specs.declared.head.NewHead.{NewHead}
use Rattle.object_words.specs.declared.head.SeenSlot.TheVariants.{Live}
use Rattle.object_words.specs.declared.why.Why.TheVariants.{Moved, Closed, Held, NoTag, Expired, NoSpace}
use Rattle.object_words.specs.Keys.{container_of, instance_of, number_of}
use Rattle.object_words.specs.Heads.{is_live}
use Rattle.realm_model.specs.Tests.{is_so}
use Rattle.realm_model.specs.Maps.{Maps, Made, slot_at, whole_slot}
use Rattle.realm_model.specs.declared.op.Op.{Op}
use Rattle.realm_model.specs.declared.op.Op.TheVariants.{BucketRead, Prepare, Complete, Cancel, Page, Stats, HeadRead, HeadWrite, TailMake, Announce}
use Rattle.realm_model.specs.declared.event.Reply.{Reply}
use Rattle.realm_model.specs.declared.event.Reply.TheVariants.{Done, No, Row, Prepared, Head as head_reply, Changed}

-- an own bucket read, and what it showed
pub record Looked : Type 0 where
  pub zone : ℕ
  pub name : List ℕ
  pub row : Option Bucket
  pub number : ℕ

-- an own event on a head: what the last own bucket read up to it showed, and the slot of the bucket map just before and
-- just after it
pub record Decided : Type 0 where
  pub number : ℕ
  pub clock : ℕ
  pub zone : ℕ
  pub container : ℕ
  pub name : List ℕ
  pub looked : Option Looked
  pub before : Slot
  pub after : Slot

-- answers Moved or Closed, each on a shard that an own bucket read after the one before had named; and the number of the
-- last answer Moved or Closed
pub record MovedCount : Type 0 where
  pub count : ℕ
  pub last : ℕ

-- a tag's deadline that had passed, and the clock, at the event of this number
pub record Lateness : Type 0 where
  pub number : ℕ
  pub deadline : ℕ
  pub clock : ℕ

-- head changes that were answered Expired, each after the preparation of its tag with no own event between but the
-- announcement; the last one's numbers; and whether nothing but an announcement came since the last preparation
pub record ExpiredCount : Type 0 where
  pub count : ℕ
  pub last : Option Lateness
  pub straight : Bool

-- the hold that an own event met
pub record HoldMet : Type 0 where
  pub number : ℕ
  pub id : ℕ

-- the frames that an own event found free, and those that it needed
pub record SpaceWanted : Type 0 where
  pub number : ℕ
  pub free : ℕ
  pub needed : ℕ

-- what an actor's own events were answered, in numbers
pub record Account : Type 0 where
  -- how many events the actor made
  pub events : ℕ
  pub looked : Option Looked
  -- the deciding event of an object request: the last own read of a head, or change of one that was not answered Expired
  pub decided : Option Decided
  -- the two deciding events of a copy: the last own read of a head that showed an object, and the last own change of a
  -- head that was not answered Expired
  pub source : Option Decided
  pub target : Option Decided
  -- head changes that were answered Changed
  pub changes : ℕ
  -- completions that were answered Done, NoTag, Held or Closed
  pub completes : ℕ
  pub moved : MovedCount
  pub expired : ExpiredCount
  pub held : Option HoldMet
  pub wanted : Option SpaceWanted

-- an actor that made no event
abbrev pub blank : Account
blank = record {
  events = 0;
  looked = None;
  decided = None;
  source = None;
  target = None;
  changes = 0;
  completes = 0;
  moved = record { count = 0; last = 0 };
  expired = record { count = 0; last = None; straight = false };
  held = None;
  wanted = None;
}

-- ---- bucket reads

-- each own bucket read is the last one
abbrev pub looked_after : Option Looked → Op → Reply → ℕ → Option Looked
looked_after looked (BucketRead zone name) (Row row) number =
    Some (record { zone = zone; name = name; row = Some row; number = number })
looked_after looked (BucketRead zone name) (No why) number =
    Some (record { zone = zone; name = name; row = None; number = number })
looked_after looked op reply number = looked

-- ---- deciding events

-- an event of this number at this clock, with the slot of the bucket map before it and what it leaves there
abbrev pub decided_at : Account → ℕ → ℕ → ℕ → ℕ → List ℕ → Slot → Slot → Decided
decided_at y number clock zone container name before after = record {
  number = number;
  clock = clock;
  zone = zone;
  container = container;
  name = name;
  looked = y.looked;
  before = before;
  after = after;
}

-- the slot of a name in a bucket map, with all its bytes
abbrev pub slot_now : Maps → Made → ℕ → ℕ → List ℕ → Slot
slot_now maps made zone container name = whole_slot made zone (slot_at (maps zone container) name)

-- a change of a head decides, also one that was refused, but for Expired
abbrev pub tried_at : Account → Maps → Made → ℕ → ℕ → List ℕ → NewHead → Reply → ℕ → ℕ → Option Decided → Option Decided
tried_at y maps made zone container name new (Changed change) number clock old =
    let slot = slot_now maps made zone container name in
    Some (decided_at y number clock zone container name slot (whole_slot made zone (Live new change.stamp)))
tried_at y maps made zone container name new (No (Expired deadline late)) number clock old = old
tried_at y maps made zone container name new (No why) number clock old =
    let slot = slot_now maps made zone container name in Some (decided_at y number clock zone container name slot slot)
tried_at y maps made zone container name new reply number clock old = old

-- own reads of heads decide, and so do changes
abbrev pub decided_after : Account → Maps → Made → Op → Reply → ℕ → ℕ → Option Decided
decided_after y maps made (HeadRead zone container name) (head_reply head shown_at) number clock =
    let slot = slot_now maps made zone container name in Some (decided_at y number clock zone container name slot slot)
decided_after y maps made (HeadWrite zone container name guard new when) reply number clock =
    tried_at y maps made zone container name new reply number clock y.decided
decided_after y maps made op reply number clock = y.decided

-- an own change of a head decides what became of the target of a copy
abbrev pub target_after : Account → Maps → Made → Op → Reply → ℕ → ℕ → Option Decided
target_after y maps made (HeadWrite zone container name guard new when) reply number clock =
    tried_at y maps made zone container name new reply number clock y.target
target_after y maps made op reply number clock = y.target

-- an own read of a head that shows an object decides what a copy has
abbrev pub source_after : Account → Maps → Made → Op → Reply → ℕ → ℕ → Option Decided
source_after y maps made (HeadRead zone container name) (head_reply head shown_at) number clock =
    let slot = slot_now maps made zone container name in
    if is_live head.slot then Some (decided_at y number clock zone container name slot slot) else y.source
source_after y maps made op reply number clock = y.source

-- ---- counts

-- head changes that were answered Changed
abbrev pub changes_after : ℕ → Op → Reply → ℕ
changes_after n (HeadWrite zone container name guard new when) (Changed change) = n + 1
changes_after n op reply = n

-- completions after which a request may succeed
abbrev pub completes_after : ℕ → Op → Reply → ℕ
completes_after n (Complete zone key name tag version row) Done = n + 1
completes_after n (Complete zone key name tag version row) (No NoTag) = n + 1
completes_after n (Complete zone key name tag version row) (No (Held id)) = n + 1
completes_after n (Complete zone key name tag version row) (No Closed) = n + 1
completes_after n op reply = n

-- the row names the shard
abbrev pub has_shard : Key → Bucket → Bool
has_shard key row = row.id == container_of key && (row.instance == instance_of key && nat_lt (number_of key) row.shards)

-- the last own bucket read came after the answer of this number, and named the shard
abbrev pub looked_since : Option Looked → ℕ → ℕ → Key → Bool
looked_since looked last zone key = is_so looked (λ l. nat_lt last l.number && (l.zone == zone && is_so l.row (has_shard key)))

-- the shard no longer serves
abbrev pub is_left : Reply → Bool
is_left (No (Moved instance)) = true
is_left (No Closed) = true
is_left reply = false

-- an answer Moved or Closed counts where the shard was named since the one before
abbrev pub moved_at : MovedCount → Option Looked → ℕ → Key → Reply → ℕ → MovedCount
moved_at m looked zone key reply number =
    if is_left reply
    then (record { count = if looked_since looked m.last zone key then m.count + 1 else m.count; last = number })
    else m

-- suggestions do not count
abbrev pub moved_after : MovedCount → Option Looked → Op → Reply → ℕ → MovedCount
moved_after m looked (Prepare zone key name) reply number = moved_at m looked zone key reply number
moved_after m looked (Complete zone key name tag version row) reply number = moved_at m looked zone key reply number
moved_after m looked (Cancel zone key name tag) reply number = moved_at m looked zone key reply number
moved_after m looked (Page zone key after limit) reply number = moved_at m looked zone key reply number
moved_after m looked (Stats zone key) reply number = moved_at m looked zone key reply number
moved_after m looked op reply number = m

-- nothing but an announcement came since the preparation
abbrev pub is_straight : Bool → Op → Reply → Bool
is_straight straight (Prepare zone key name) (Prepared guard) = true
is_straight straight (Announce zone container instance shard bucket) reply = straight
is_straight straight op reply = false

-- an answer Expired counts where it came straight after the preparation
abbrev pub late_at : ExpiredCount → Reply → ℕ → ExpiredCount
late_at x (No (Expired deadline clock)) number = record {
  count = if x.straight then x.count + 1 else x.count;
  last = Some (record { number = number; deadline = deadline; clock = clock });
  straight = x.straight;
}
late_at x reply number = x

-- a head change may be answered Expired
abbrev pub lateness_after : ExpiredCount → Op → Reply → ℕ → ExpiredCount
lateness_after x (HeadWrite zone container name guard new when) reply number = late_at x reply number
lateness_after x op reply number = x

-- answers Expired, and whether the next one counts
abbrev pub expired_after : ExpiredCount → Op → Reply → ℕ → ExpiredCount
expired_after x op reply number = record (lateness_after x op reply number) { straight = is_straight x.straight op reply }

-- the last hold that an own preparation met
abbrev pub held_after : Option HoldMet → Op → Reply → ℕ → Option HoldMet
held_after held (Prepare zone key name) (No (Held id)) number = Some (record { number = number; id = id })
held_after held op reply number = held

-- the frames that were wanted
abbrev pub wanted_at : Option SpaceWanted → Reply → ℕ → Option SpaceWanted
wanted_at wanted (No (NoSpace free needed)) number = Some (record { number = number; free = free; needed = needed })
wanted_at wanted reply number = wanted

-- the last want of frames of an own head change or tail
abbrev pub wanted_after : Option SpaceWanted → Op → Reply → ℕ → Option SpaceWanted
wanted_after wanted (HeadWrite zone container name guard new when) reply number = wanted_at wanted reply number
wanted_after wanted (TailMake zone write part bytes) reply number = wanted_at wanted reply number
wanted_after wanted op reply number = wanted

-- ---- all of it

-- the account after an own event with this number, at this clock, with the bucket maps and the tails before it
abbrev pub accounted : Account → Maps → Made → Op → Reply → ℕ → ℕ → Account
accounted y maps made op reply number clock = record {
  events = y.events + 1;
  looked = looked_after y.looked op reply number;
  decided = decided_after y maps made op reply number clock;
  source = source_after y maps made op reply number clock;
  target = target_after y maps made op reply number clock;
  changes = changes_after y.changes op reply;
  completes = completes_after y.completes op reply;
  moved = moved_after y.moved y.looked op reply number;
  expired = expired_after y.expired op reply number;
  held = held_after y.held op reply number;
  wanted = wanted_after y.wanted op reply number;
}
