-- What an actor knows after an own event, kind of fact by kind of fact. Each event comes with its number and the clock
-- at it.
use Rattle.std.specs.Prelude.{ℕ, ◌+◌, ◌==◌, ◌&&◌, ◌||◌, not, Bool, true, false, nat_lt, List, [], ◌∷◌, ◌++◌, bytes_eq, length, Option, Some, None, is_some, if◌then◌else◌}
use Rattle.std.specs.FinMap.Entries.{find}
use Rattle.rgw_types.specs.declared.pool_key.Key.{Key}
use Rattle.rgw_types.specs.Stripes.{ManifestView, tails_of}
use Rattle.object_words.specs.declared.bucket.Bucket.{Bucket}
use Rattle.object_words.specs.declared.bucket.Busy.{Busy}
use Rattle.object_words.specs.declared.head.SeenSlot.{SeenSlot}
use Rattle.object_words.specs.declared.head.SeenSlot.TheVariants.{Live}
use Rattle.object_words.specs.declared.why.Why.TheVariants.{Moved, Closed}
use Rattle.object_words.specs.Keys.{put, is_key, shard_key, container_of, instance_of, number_of}
use Rattle.object_words.specs.Names.{name_cmp, Named, at, with_name}
use Rattle.object_words.specs.Tags.{has_due}
use Rattle.object_words.specs.Entries.{EntryView}
use Rattle.object_words.specs.Heads.{row_of}
use Rattle.object_words.specs.Roots.{stored_or_none}
use Rattle.realm_model.specs.Tests.{is_so}
use Rattle.realm_model.specs.States.{put_in}
use Rattle.realm_model.specs.Steps.{is_master}
use Rattle.realm_model.specs.Phases.{FirstEvent, RowRead, OwnChange, Stage, pending, tried, over, OwnTag, Sighting, Bundle, unused, opened, spent, SeenManifest, OwnStripes, OwnShards, OwnNumber, OwnWork, Phase}
use Rattle.realm_model.specs.Needs.{is_new_shard, holder_of}
use Rattle.realm_model.specs.declared.op.Op.{Op}
use Rattle.realm_model.specs.declared.op.Op.TheVariants.{BucketRead, BucketSwap, ShardMake, Prepare, Complete, Cancel, Page, CloseShard, HeadRead, HeadWrite, TailMake, Announce}
use Rattle.realm_model.specs.declared.event.Reply.{Reply}
use Rattle.realm_model.specs.declared.event.Reply.TheVariants.{Done, No, Row, Prepared, Entries, Head as head_reply, Changed, Position}

-- ---- the first event

-- the first event stays the first
abbrev pub first_after : Option FirstEvent → ℕ → ℕ → Option FirstEvent
first_after None number clock = Some (record { number = number; clock = clock })
first_after (Some first) number clock = Some first

-- ---- rows

-- the row that the last own read showed
abbrev pub row_known : Named RowRead → List ℕ → Option Bucket
row_known rows name = is_read (at rows name) where
  is_read : Option RowRead → Option Bucket
  is_read None = None
  is_read (Some read) = read.row

-- a row was shown, or none, by the event of this number
abbrev pub with_read : (ℕ → Named RowRead) → ℕ → List ℕ → Option Bucket → ℕ → ℕ → Named RowRead
with_read rows zone name row number = put rows zone (with_name (rows zone) name (record { row = row; at = number }))

-- an own swap that was done counts as a read of what it left
abbrev pub left_by_swap : (ℕ → Named RowRead) → ℕ → List ℕ → Option Bucket → ℕ → Option Bucket
left_by_swap rows zone name new number = stored_or_none (row_known (rows zone) name) new (is_master zone) number

-- own bucket reads show rows, and own swaps leave them
abbrev pub rows_after : (ℕ → Named RowRead) → Op → Reply → ℕ → ℕ → Named RowRead
rows_after rows (BucketRead zone name) (Row row) number = with_read rows zone name (Some row) number
rows_after rows (BucketRead zone name) (No why) number = with_read rows zone name None number
rows_after rows (BucketSwap zone name expected new) Done number =
    with_read rows zone name (left_by_swap rows zone name new number) number
rows_after rows op reply number = rows

-- ---- instances

-- the row names its instance, with so many shards
abbrev pub with_named : (ℕ → ℕ → ℕ → Option ℕ) → ℕ → Option Bucket → ℕ → ℕ → ℕ → Option ℕ
with_named named zone None = named
with_named named zone (Some row) =
    put named zone (put (named zone) row.id (put (named zone row.id) row.instance (Some row.shards)))

-- each row that is shown or left names its instance
abbrev pub named_after : (ℕ → ℕ → ℕ → Option ℕ) → Op → Reply → ℕ → ℕ → ℕ → Option ℕ
named_after named (BucketRead zone name) (Row row) = with_named named zone (Some row)
named_after named (BucketSwap zone name expected new) Done = with_named named zone new
named_after named op reply = named

-- an own read named the shard
abbrev pub is_named : (ℕ → ℕ → ℕ → Option ℕ) → ℕ → Key → Bool
is_named named zone key = is_so (named zone (container_of key) (instance_of key)) (λ shards. nat_lt (number_of key) shards)

-- ---- the own tag

-- the tag at another stage
abbrev pub at_stage : Option OwnTag → Stage → Option OwnTag
at_stage None stage = None
at_stage (Some t) stage = Some (record t { stage = stage })

-- a completion was answered Moved by the event of this number, or Closed; the first answer Moved counts
abbrev pub tried_from : Stage → Option ℕ → Stage
tried_from (tried (Some first)) moved = tried (Some first)
tried_from stage moved = tried moved

-- the tag may be tried again
abbrev pub with_try : Option OwnTag → Option ℕ → Option OwnTag
with_try None moved = None
with_try (Some t) moved = Some (record t { stage = tried_from t.stage moved })

-- an announcement of the tag's shard announces it
abbrev pub announced : Option OwnTag → ℕ → Key → Option OwnTag
announced None zone key = None
announced (Some t) zone key = Some (record t { announced = t.announced || (t.zone == zone && is_key t.key key) })

-- the change that was made under the tag
abbrev pub changed : Option OwnTag → OwnChange → Option OwnTag
changed None change = None
changed (Some t) change = Some (record t { change = Some change })

-- a preparation ends an older tag, whatever its answer; so does a completion or a cancel the tag itself, but for a
-- completion that was answered Moved or Closed
abbrev pub tag_after : Option OwnTag → Op → Reply → ℕ → Option OwnTag
tag_after tag (Prepare zone key name) (Prepared guard) number =
    Some (record { guard = guard; zone = zone; key = key; name = name; announced = false; change = None; stage = pending })
tag_after tag (Prepare zone key name) reply number = at_stage tag over
tag_after tag (Announce zone container instance shard bucket) (Position position) number =
    announced tag zone (shard_key container instance shard)
tag_after tag (HeadWrite zone container name guard new when) (Changed change) number =
    changed tag (record { version = change.version; row = change.row })
tag_after tag (Complete zone key name t version row) (No (Moved instance)) number = with_try tag (Some number)
tag_after tag (Complete zone key name t version row) (No Closed) number = with_try tag None
tag_after tag (Complete zone key name t version row) reply number = at_stage tag over
tag_after tag (Cancel zone key name t) reply number = at_stage tag over
tag_after tag op reply number = tag

-- ---- entries that were seen

-- an entry on a page with a tag due is a new sighting
abbrev pub sighted : ℕ → Option EntryView → Option Sighting → Option Sighting
sighted clock None old = old
sighted clock (Some e) old = if has_due clock e.tags then Some (record { entry = e; moment = clock; head = None }) else old

-- what the head showed after the entry was seen
abbrev pub with_head : OwnChange → Option Sighting → Option Sighting
with_head head None = None
with_head head (Some s) = Some (record s { head = Some head })

-- own pages show entries, if an own read named the shard; own head reads after them show heads
abbrev pub seen_after : (ℕ → Key → List ℕ → Option Sighting) → (ℕ → ℕ → ℕ → Option ℕ) → Op → Reply → ℕ → Key → List ℕ → Option Sighting
seen_after seen named (Page zone key after limit) (Entries page) =
    if is_named named zone key
    then put_in seen zone key (λ name. sighted page.clock (find name_cmp name page.rows) (seen zone key name))
    else seen
seen_after seen named (HeadRead zone container name) (head_reply head clock) =
    let shown : OwnChange = record { version = head.version; row = row_of head.slot } in
    put seen zone (λ key n.
    if container_of key == container && bytes_eq n name then with_head shown (seen zone key n) else seen zone key n)
seen_after seen named op reply = seen

-- ---- stripes

-- a function that has another value at one zone, write and holder
abbrev pub put_bundle : {A : Type 0} → (ℕ → ℕ → ℕ → A) → ℕ → ℕ → ℕ → A → ℕ → ℕ → ℕ → A
put_bundle f zone write holder x = put f zone (put (f zone) write (put (f zone write) holder x))

-- one tail more, of this size
abbrev pub with_part : Bundle → ℕ → Bundle
with_part unused size = opened (size ∷ [])
with_part (opened sizes) size = opened (sizes ++ size ∷ [])
with_part spent size = spent

-- tails that are made are open, and those that a head change names are spent
abbrev pub own_after : (ℕ → ℕ → ℕ → Bundle) → Op → Reply → ℕ → ℕ → ℕ → Bundle
own_after own (TailMake zone write part bytes) Done =
    put_bundle own zone write write (with_part (own zone write write) (length bytes))
own_after own (HeadWrite zone container name guard new when) (Changed change) =
    if tails_of new.manifest == 0 then own else put_bundle own zone new.manifest.write (holder_of new.manifest) spent
own_after own op reply = own

-- a manifest was replaced, where it had tails
abbrev pub with_old : (ℕ → ℕ → ℕ → Option ManifestView) → ℕ → Option ManifestView → ℕ → ℕ → ℕ → Option ManifestView
with_old olds zone None = olds
with_old olds zone (Some old) = put_bundle olds zone old.write (holder_of old) (Some old)

-- own head changes replace manifests
abbrev pub olds_after : (ℕ → ℕ → ℕ → Option ManifestView) → Op → Reply → ℕ → ℕ → ℕ → Option ManifestView
olds_after olds (HeadWrite zone container name guard new when) (Changed change) = with_old olds zone change.old
olds_after olds op reply = olds

-- a live slot shows its manifest
abbrev pub with_manifest : List SeenManifest → ℕ → SeenSlot → ℕ → ℕ → List SeenManifest
with_manifest seen zone (Live new stamp) number clock =
    (record { zone = zone; manifest = new.manifest; number = number; clock = clock }) ∷ seen
with_manifest seen zone slot number clock = seen

-- own head reads show manifests
abbrev pub manifests_after : List SeenManifest → Op → Reply → ℕ → ℕ → List SeenManifest
manifests_after seen (HeadRead zone container name) (head_reply head shown_at) number clock =
    with_manifest seen zone head.slot number clock
manifests_after seen op reply number clock = seen

-- each own head read is kept by its number
abbrev pub reads_after : (ℕ → Option ℕ) → Op → Reply → ℕ → ℕ → Option ℕ
reads_after reads (HeadRead zone container name) (head_reply head clock) number = put reads number (Some zone)
reads_after reads op reply number = reads

-- what an own event teaches of stripes
abbrev pub stripes_after : OwnStripes → Op → Reply → ℕ → ℕ → OwnStripes
stripes_after s op reply number clock = record {
  own = own_after s.own op reply;
  olds = olds_after s.olds op reply;
  seen = manifests_after s.seen op reply number clock;
  reads = reads_after s.reads op reply number;
}

-- ---- own shards

-- the own shards of one zone and container change
abbrev pub with_shards : (ℕ → ℕ → OwnShards) → ℕ → ℕ → (OwnShards → OwnShards) → ℕ → ℕ → OwnShards
with_shards shards zone container change = put shards zone (put (shards zone) container (change (shards zone container)))

-- a swap that expects no row makes one from the own shards
abbrev pub placed_by : (ℕ → ℕ → OwnShards) → ℕ → ℕ → Option Bucket → ℕ → ℕ → OwnShards
placed_by shards zone expected None = shards
placed_by shards zone expected (Some new) =
    if expected == 0 then with_shards shards zone new.id (λ own. record own { placed = true }) else shards

-- own shards are made, announced, and put into a row
abbrev pub shards_after : (ℕ → ℕ → OwnShards) → Phase → Op → Reply → ℕ → ℕ → OwnShards
shards_after shards p (ShardMake zone key) Done =
    with_shards shards zone (container_of key) (λ own. record own { made = own.made + 1 })
shards_after shards p (BucketSwap zone name expected new) Done = placed_by shards zone expected new
shards_after shards p (Announce zone container instance shard bucket) (Position position) =
    if is_new_shard p zone (shard_key container instance shard)
    then with_shards shards zone container (λ own. record own { announced = put own.announced shard true })
    else shards
shards_after shards p op reply = shards

-- ---- numbers in rows

-- the own work on the row that names an instance changes
abbrev pub with_work : (ℕ → ℕ → ℕ → OwnWork) → ℕ → ℕ → ℕ → (OwnWork → OwnWork) → ℕ → ℕ → ℕ → OwnWork
with_work work zone container instance change =
    put_bundle work zone container instance (change (work zone container instance))

-- a number that was just set: no shard is closed under it
abbrev pub set_in : Busy → OwnNumber
set_in busy = record { closing = busy.closing; closed = λ shard. false }

-- a number is set where none was, or the one that was is cleared
abbrev pub numbered : OwnWork → Option Busy → Option Busy → OwnWork
numbered w None (Some busy) = record w { begun = put w.begun busy.number (Some (set_in busy)) }
numbered w (Some busy) None = record w { cleared = put w.cleared busy.number true }
numbered w old new = w

-- a swap of the row that was known for another, or for none
abbrev pub worked : (ℕ → ℕ → ℕ → OwnWork) → ℕ → Option Bucket → Option Bucket → ℕ → ℕ → ℕ → OwnWork
worked work zone (Some old) (Some new) = with_work work zone old.id old.instance (λ w. numbered w old.busy new.busy)
worked work zone (Some old) None = with_work work zone old.id old.instance (λ w. record w { removed = Some old.shards })
worked work zone None new = work

-- a shard is closed under a number that was set
abbrev pub with_closed : Option OwnNumber → ℕ → Option OwnNumber
with_closed None shard = None
with_closed (Some n) shard = Some (record n { closed = put n.closed shard true })

-- own swaps set and clear numbers and take rows away, and own closings close shards
abbrev pub work_after : (ℕ → ℕ → ℕ → OwnWork) → (ℕ → Named RowRead) → Op → Reply → ℕ → ℕ → ℕ → OwnWork
work_after work rows (BucketSwap zone name expected new) Done = worked work zone (row_known (rows zone) name) new
work_after work rows (CloseShard zone key id force) Done =
    with_work work zone (container_of key) (instance_of key) (λ w. record w { begun = put w.begun id (with_closed (w.begun id) (number_of key)) })
work_after work rows op reply = work

-- a swap sets a number in a row where none was
abbrev pub is_begun : Option Bucket → Option Bucket → Bool
is_begun (Some old) (Some new) = not (is_some old.busy) && is_some new.busy
is_begun old new = false

-- own swaps that set a number begin a reshard or a closing
abbrev pub began_after : (ℕ → ℕ → Bool) → (ℕ → Named RowRead) → Op → Reply → ℕ → ℕ → Bool
began_after began rows (BucketSwap zone name expected (Some new)) Done =
    if is_begun (row_known (rows zone) name) (Some new) then put began zone (put (began zone) new.id true) else began
began_after began rows op reply = began

-- ---- all of it

-- what an actor knows after an own event with this number, at this clock
abbrev pub learnt : Phase → Op → Reply → ℕ → ℕ → Phase
learnt p op reply number clock = record {
  first = first_after p.first number clock;
  rows = rows_after p.rows op reply number;
  named = named_after p.named op reply;
  tag = tag_after p.tag op reply number;
  seen = seen_after p.seen p.named op reply;
  stripes = stripes_after p.stripes op reply number clock;
  shards = shards_after p.shards p op reply;
  work = work_after p.work p.rows op reply;
  began = began_after p.began p.rows op reply;
}
