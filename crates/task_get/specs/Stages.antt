-- Where a GET stands, and how an answer brings it on.
use Rattle.std.specs.Prelude.{ℕ, ◌+◌, ◌*◌, ◌/◌, nat_lt, max, List, [], length, take, Option, Some, None, if◌then◌else◌}
use Rattle.object_words.specs.declared.bucket.Bucket.{Bucket}
use Rattle.rgw_types.specs.Stripes.{ManifestView}
use Rattle.object_words.specs.declared.head.SeenSlot.{SeenSlot}
use Rattle.object_words.specs.declared.head.SeenSlot.TheVariants.{Nothing, Live}
use Rattle.object_words.specs.declared.why.Why.TheVariants.{Gone as is_gone}
use Rattle.realm_model.specs.declared.op.Op.{Op}
use Rattle.realm_model.specs.declared.op.Op.TheVariants.{BucketRead, HeadRead}
use Rattle.realm_model.specs.declared.event.Reply.{Reply}
use Rattle.realm_model.specs.declared.event.Reply.TheVariants.{No, Head, Bytes as bytes_reply}
use Rattle.realm_model.specs.Shown.{row_shown}
use Rattle.swift_auth.specs.declared.policy.Deed.TheVariants.{ReadThing}
use Rattle.task_words.specs.declared.asker.Asker.{Asker}
use Rattle.task_words.specs.declared.command.GetCommand.{GetCommand}
use Rattle.task_words.specs.declared.span.ByteRange.{ByteRange}
use Rattle.task_words.specs.declared.reply.MapReply.{MapReply}
use Rattle.task_words.specs.declared.reply.MapReply.TheVariants.{Shown, Same, Refused}
use Rattle.task_words.specs.declared.reply.Refusal.{Refusal}
use Rattle.task_words.specs.declared.reply.Refusal.TheVariants.{Unauthorized, Denied, NoContainer, NoObject, OtherEtag}
use Rattle.task_words.specs.declared.outcome.Outcome.{Outcome}
use Rattle.task_words.specs.declared.outcome.Outcome.TheVariants.{Done, LateRead}
use Rattle.task_words.specs.Outcomes.{IsShown}
use Rattle.task_words.specs.Rows.{row_refusal}
use Rattle.task_get.specs.declared.request.GetRequest.{GetRequest}
use Rattle.task_get.specs.declared.stage.Stage.{Stage}
use Rattle.task_get.specs.declared.stage.Stage.TheVariants.{Look, Open, Tails, Ended, Late}
use Rattle.task_get.specs.declared.stage.TailShown.{TailShown}
use Rattle.task_get.specs.declared.stage.TailShown.TheVariants.{Bytes, Gone}
use Rattle.task_get.specs.Replies.{reply_of, range_of}
use Rattle.task_get.specs.Pieces.{first_bytes, read_of}
use Rattle.task_get.specs.Readings.{ReadingView, next_piece}

-- the outcome is there
abbrev pub IsOver : Stage → Type 0
IsOver (Ended outcome given) = Unit {0}
IsOver (Late x outcome) = Unit {0}
IsOver stage = ⊥

-- an operation comes next
abbrev pub IsOpen : Stage → Type 0
IsOpen (Ended outcome given) = ⊥
IsOpen (Late x outcome) = ⊥
IsOpen stage = Unit {0}

-- the row was read, and nothing else: the head comes next, or the row refused it
abbrev pub IsBehindRow : Stage → Type 0
IsBehindRow (Open container) = Unit {0}
IsBehindRow (Ended (Done (Refused Unauthorized)) given) = Unit {0}
IsBehindRow (Ended (Done (Refused (Denied rule))) given) = Unit {0}
IsBehindRow (Ended (Done (Refused NoContainer)) given) = Unit {0}
IsBehindRow stage = ⊥

-- the outcome, once it is there
abbrev pub ended_in : Stage → Option Outcome
ended_in (Ended outcome given) = Some outcome
ended_in (Late x outcome) = Some outcome
ended_in stage = None

-- a GET may reply so
abbrev pub IsGetReply : MapReply → Type 0
IsGetReply (Shown kind meta etag stamp size start count) = Unit {0}
IsGetReply (Same etag stamp) = Unit {0}
IsGetReply (Refused OtherEtag) = ⊥
IsGetReply (Refused refusal) = Unit {0}
IsGetReply reply = ⊥

-- a stage of a GET, whatever a door answered: the reply whose bytes come shows bytes, and a GET may end so
abbrev pub IsSound : Stage → Type 0
IsSound (Tails x) = IsShown x.reply
IsSound (Ended (Done reply) given) = IsGetReply reply
IsSound (Ended outcome given) = ⊥
IsSound (Late x (LateRead read_at clock)) = IsShown x.reply
IsSound (Late x outcome) = ⊥
IsSound stage = Unit {0}

-- how many bytes were given
abbrev pub given_by : Stage → ℕ
given_by (Tails x) = x.given
given_by (Ended outcome given) = given
given_by (Late x outcome) = x.given
given_by stage = 0

-- the operation that comes next
abbrev pub op_of : GetRequest → Stage → Op
op_of r (Open container) = HeadRead r.zone container r.get.name
op_of r (Tails x) = read_of r.zone x.manifest (next_piece x)
op_of r stage = BucketRead r.zone r.get.container

-- ---- the row

-- the row refuses the read, or the head comes next
abbrev pub after_refusal : Option Refusal → Option Bucket → Stage
after_refusal (Some refusal) row = Ended (Done (Refused refusal)) 0
after_refusal None None = Ended (Done (Refused NoContainer)) 0
after_refusal None (Some row) = Open row.id

abbrev pub after_row : Asker → Option Bucket → Stage
after_row asker row = after_refusal (row_refusal asker row ReadThing) row

-- ---- the head

-- the slot that an answer shows
abbrev pub slot_shown : Reply → SeenSlot
slot_shown (Head seen clock) = seen.slot
slot_shown reply = Nothing

-- a tail comes next, or all bytes were given
abbrev pub from_part : MapReply → ManifestView → ByteRange → ℕ → ℕ → ℕ → Stage
from_part reply m range part given clock =
    if nat_lt (part * m.stripe) (range.start + range.count)
    then Tails (record { reply = reply; manifest = m; range = range; part = part; given = given; read_at = clock })
    else Ended (Done reply) given

-- after the reply to an object that is there: the bytes that the head has of the range are given
abbrev pub after_live : MapReply → ManifestView → List ℕ → Option ByteRange → ℕ → Stage × List ℕ
after_live reply m first None clock = (Ended (Done reply) 0, [])
after_live reply m first (Some range) clock =
    let piece = first_bytes m first (Some range) in
    (from_part reply m range (max 1 (range.start / m.stripe)) (length piece) clock, piece)

abbrev pub after_head : GetCommand → SeenSlot → ℕ → Stage × List ℕ
after_head c (Live new stamp) clock = after_live (reply_of c new stamp) new.manifest new.first (range_of c (Live new stamp)) clock
after_head c slot clock = (Ended (Done (Refused NoObject)) 0, [])

-- ---- tails

-- what an answer shows of a tail
abbrev pub tail_shown : Reply → TailShown
tail_shown (bytes_reply bytes) = Bytes bytes
tail_shown (No (is_gone clock)) = Gone clock
tail_shown reply = Gone 0

-- so many bytes of the tail were given, and the next one comes next, if the range has bytes in it
abbrev pub gone_on : ReadingView → ℕ → Stage
gone_on x count =
    if nat_lt ((x.part + 1) * x.manifest.stripe) (x.range.start + x.range.count)
    then Tails (record x { part = x.part + 1; given = x.given + count })
    else Ended (Done x.reply) (x.given + count)

abbrev pub after_tail : ReadingView → TailShown → Stage × List ℕ
after_tail x (Bytes bytes) = let piece = take (next_piece x).count bytes in (gone_on x (length piece), piece)
after_tail x (Gone clock) = (Late x (LateRead x.read_at clock), [])

-- ---- all

-- the stage after an answer at a clock, and the bytes that it gives
abbrev pub step_of : GetRequest → Stage → Reply → ℕ → Stage × List ℕ
step_of r Look reply clock = (after_row r.asker (row_shown reply), [])
step_of r (Open container) reply clock = after_head r.get (slot_shown reply) clock
step_of r (Tails x) reply clock = after_tail x (tail_shown reply)
step_of r stage reply clock = (stage, [])
