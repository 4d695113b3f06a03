-- How a listing repairs what it saw: where an entry had a tag due at its page, a suggestion follows the read of the head.
use Rattle.std.specs.Prelude.{◌≡◌, ℕ, ◌==◌, ◌&&◌, Bool, true, List, [], ◌∷◌, Option, Some, None, if◌then◌else◌}
use Rattle.std.specs.FinMap.Entries.{find}
use Rattle.rgw_types.specs.declared.pool_key.Key.{Key}
use Rattle.object_words.specs.declared.bucket.Bucket.{Bucket}
use Rattle.object_words.specs.declared.entry.EntryPage.{EntryPage}
use Rattle.object_words.specs.declared.head.HeadSeen.{HeadSeen}
use Rattle.object_words.specs.declared.head.SeenSlot.{SeenSlot}
use Rattle.object_words.specs.declared.head.SeenSlot.TheVariants.{Live}
use Rattle.object_words.specs.Entries.{EntryView}
use Rattle.object_words.specs.Hashes.{shard_of}
use Rattle.object_words.specs.Heads.{row_of}
use Rattle.object_words.specs.Keys.{is_key, shard_key}
use Rattle.object_words.specs.Names.{name_cmp}
use Rattle.object_words.specs.Tags.{has_due}
use Rattle.realm_model.specs.Needs.{is_between}
use Rattle.realm_model.specs.Owns.{OwnEvent}
use Rattle.realm_model.specs.declared.op.Op.{Op}
use Rattle.realm_model.specs.declared.op.Op.TheVariants.{BucketRead, Page, Suggest, HeadRead}
use Rattle.realm_model.specs.declared.event.Reply.{Reply}
use Rattle.realm_model.specs.declared.event.Reply.TheVariants.{Head as head_reply}
use Rattle.realm_model.specs.Shown.{row_shown, page_shown}

-- ---- what answers show

-- ---- what own events told

-- an entry on a page, and the clock at the page
pub record EntrySeen : Type 0 where
  pub entry : EntryView
  pub clock : ℕ

-- what own events told: the row that the last bucket read showed, and of each name the entry on the last page since then that
-- showed one and was of the name's shard
pub record Told : Type 0 where
  pub row : Option Bucket
  pub seen : List ℕ → Option EntrySeen

-- a row was read, or none is there, and no page yet
abbrev pub told_row : Option Bucket → Told
told_row row = record { row = row; seen = λ name. None }

-- nothing was told
abbrev pub untold : Told
untold = told_row None

-- the shard of a name among those of a row
abbrev pub key_of : Bucket → List ℕ → Key
key_of row name = shard_key row.id row.instance (shard_of name row.shards)

-- the entry that a page shows, else the one from before
abbrev pub entry_seen : Option EntryView → ℕ → Option EntrySeen → Option EntrySeen
entry_seen None clock before = before
entry_seen (Some e) clock before = Some (record { entry = e; clock = clock })

-- a page of a shard tells of the names of the shard
abbrev pub seen_on : Option Bucket → Key → Option EntryPage → (List ℕ → Option EntrySeen) → List ℕ → Option EntrySeen
seen_on None key page seen name = seen name
seen_on (Some row) key None seen name = seen name
seen_on (Some row) key (Some page) seen name =
    if is_key key (key_of row name) then entry_seen (find name_cmp name page.rows) page.clock (seen name) else seen name

-- what was told after one event more
abbrev pub told_after : Told → Op → Reply → Told
told_after t (BucketRead zone name) reply = told_row (row_shown reply)
told_after t (Page zone key after limit) reply = record { row = t.row; seen = seen_on t.row key (page_shown reply) t.seen }
told_after t op reply = t

-- ---- suggestions

-- the row that shows the slot may stand in an index: the stamp of an object is of zone 1 to 8, as each is in a realm
abbrev pub may_stand : SeenSlot → Bool
may_stand (Live new stamp) = is_between 1 8 stamp.zone
may_stand slot = true

-- where the entry had a tag due at its page, what the head showed is suggested for the entry
abbrev pub suggestion : ℕ → Bucket → List ℕ → Option EntrySeen → HeadSeen → Option Op
suggestion zone row name None head = None
suggestion zone row name (Some s) head =
    if has_due s.clock s.entry.tags && may_stand head.slot
    then Some (Suggest zone (key_of row name) name s.entry.revision s.clock head.version (row_of head.slot))
    else None

-- what a read of the head of a name in this container asks for
abbrev pub owed_by : Option Bucket → (List ℕ → Option EntrySeen) → ℕ → ℕ → List ℕ → HeadSeen → Option Op
owed_by None seen zone container name head = None
owed_by (Some row) seen zone container name head =
    if row.id == container then suggestion zone row name (seen name) head else None

-- what is to be suggested next, after this event
abbrev pub owed_after : Told → Op → Reply → Option Op
owed_after t (HeadRead zone container name) (head_reply head clock) = owed_by t.row t.seen zone container name head
owed_after t op reply = None

-- the operation, where it suggests
abbrev pub suggested : Op → Option Op
suggested (Suggest zone key name revision seen version row) = Some (Suggest zone key name revision seen version row)
suggested op = None

-- each event suggests just what is owed after the one before it, and nothing where nothing is owed; after the last one
-- this is owed
abbrev pub IsRepairing : Told → Option Op → List OwnEvent → Option Op → Type 0
IsRepairing t owed [] last = owed ≡ last
IsRepairing t owed (e ∷ es) last =
    (suggested e.op ≡ owed) × IsRepairing (told_after t e.op e.reply) (owed_after t e.op e.reply) es last

-- directly behind each read of a head, and nowhere else, what it asks for was suggested
abbrev pub IsRepaired : List OwnEvent → Type 0
IsRepaired events = IsRepairing untold None events None

-- what all of the events told
abbrev pub told_by : Told → List OwnEvent → Told
told_by t [] = t
told_by t (e ∷ es) = told_by (told_after t e.op e.reply) es
