-- The object answer: what a command on one name is replied, and the slot that it leaves (OpenStack Object Storage API
-- v1, objects; RFC 9110, sections 13 and 14).
use Rattle.std.specs.Prelude.{ℕ, ◌/◌, not, Bool, false, nat_lt, nat_le, List, [], length, take, drop, Option, Some, None, unwrap_or, bytes_eq, if◌then◌else◌}
use Rattle.hex.specs.Hex.{encode_lower}
use Rattle.md5.specs.Md5.{md5}
use Rattle.rgw_types.specs.declared.stamp.Stamp.{Stamp}
use Rattle.rgw_model.specs.declared.slot.Content.{Content}
use Rattle.rgw_model.specs.declared.slot.Slot.{Slot}
use Rattle.rgw_model.specs.declared.slot.Slot.TheVariants.{Live}
use Rattle.rgw_model.specs.Kinds.{default_kind}
use Rattle.rgw_model.specs.Stamps.{next_stamp}
use Rattle.object_words.specs.declared.head.EtagRule.{EtagRule}
use Rattle.object_words.specs.Conditions.{meets, fails}
use Rattle.swift_auth.specs.declared.policy.Deed.{Deed}
use Rattle.swift_auth.specs.declared.policy.Deed.TheVariants.{ReadThing, ChangeThing}
use Rattle.task_words.specs.declared.command.GetCommand.{GetCommand}
use Rattle.task_words.specs.declared.command.PutCommand.{PutCommand}
use Rattle.task_words.specs.declared.span.Span.{Span}
use Rattle.task_words.specs.declared.span.ByteRange.{ByteRange}
use Rattle.task_words.specs.declared.reply.MapReply.{MapReply}
use Rattle.task_words.specs.declared.reply.MapReply.TheVariants.{Stored, Shown, Same, Refused}
use Rattle.task_words.specs.declared.reply.Refusal.TheVariants.{NoObject, NotMet, NoRange}
use Rattle.task_words.specs.Spans.{bytes_taken}

-- what is asked of one name: to store these bytes, or to show what is stored
pub data Command : Type 0 where
  put : PutCommand → (bytes : List ℕ) → Command
  get : GetCommand → Command

-- the container's name
abbrev pub container_of : Command → List ℕ
container_of (put c bytes) = c.container
container_of (get c) = c.container

-- the object's name
abbrev pub name_of : Command → List ℕ
name_of (put c bytes) = c.name
name_of (get c) = c.name

-- what the policy takes it for
abbrev pub deed_of : Command → Deed
deed_of (put c bytes) = ChangeThing
deed_of (get c) = ReadThing

-- the reply, the bytes that it shows, and the slot after it
pub record Answer : Type 0 where
  pub reply : MapReply
  pub shown : List ℕ
  pub after : Slot

-- a refusal leaves the slot as it was
abbrev pub answered : MapReply → Slot → Answer
answered reply slot = record { reply = reply; shown = []; after = slot }

-- ---- PUT

-- the digest of the object that is there
abbrev pub etag_in : Slot → Option (List ℕ)
etag_in (Live content stamp) = Some content.etag
etag_in slot = None

-- what a PUT stores
abbrev pub content_of : PutCommand → List ℕ → Content
content_of c bytes = record { bytes = bytes; kind = unwrap_or c.kind default_kind; meta = c.meta; etag = md5 bytes }

-- the content is stored under the next stamp
abbrev pub stored : PutCommand → List ℕ → Stamp → Answer
stored c bytes stamp =
    record { reply = Stored (md5 bytes) stamp; shown = []; after = Live (content_of c bytes) stamp }

-- nothing is stored where If-Match or If-None-Match fails
abbrev pub put_answer : PutCommand → List ℕ → Slot → ℕ → ℕ → Answer
put_answer c bytes slot zone clock =
    if fails c.when (etag_in slot) then answered (Refused NotMet) slot else stored c bytes (next_stamp slot clock zone)

-- an ETag was sent, and the bytes have another
abbrev pub is_other_etag : Option (List ℕ) → List ℕ → Bool
is_other_etag None bytes = false
is_other_etag (Some etag) bytes = not (bytes_eq (encode_lower (md5 bytes)) etag)

-- ---- GET and HEAD

-- the whole second of a stamp
abbrev pub second_of : Stamp → ℕ
second_of stamp = stamp.micros / 1000000

-- the object was changed after this second
abbrev pub is_changed_since : Option ℕ → Stamp → Bool
is_changed_since None stamp = false
is_changed_since (Some second) stamp = nat_lt second (second_of stamp)

-- the object was not changed after this second
abbrev pub is_unchanged_since : Option ℕ → Stamp → Bool
is_unchanged_since None stamp = false
is_unchanged_since (Some second) stamp = nat_le (second_of stamp) second

-- If-Match fails or, without it, If-Unmodified-Since
abbrev pub is_unmet : Option EtagRule → Option ℕ → List ℕ → Stamp → Bool
is_unmet (Some rule) unmodified etag stamp = not (meets rule (Some etag))
is_unmet None unmodified etag stamp = is_changed_since unmodified stamp

-- the client has the object, by If-None-Match or, without it, by If-Modified-Since
abbrev pub is_had : Option EtagRule → Option ℕ → List ℕ → Stamp → Bool
is_had (Some rule) modified etag stamp = meets rule (Some etag)
is_had None modified etag stamp = is_unchanged_since modified stamp

-- a range counts only where the bytes are wanted
abbrev pub span_of : GetCommand → Option Span
span_of c = if c.body then c.span else None

-- these bytes of the content are shown; the bytes themselves only where they are wanted
abbrev pub shown : Bool → Content → Stamp → ByteRange → Answer
shown wanted content stamp range = record {
  reply = Shown content.kind content.meta content.etag stamp (length content.bytes) range.start range.count;
  shown = if wanted then take range.count (drop range.start content.bytes) else [];
  after = Live content stamp;
}

-- the range that is asked for is shown, where it can be had
abbrev pub shown_range : Bool → Content → Stamp → Option ByteRange → Answer
shown_range wanted content stamp None = answered (Refused (NoRange (length content.bytes))) (Live content stamp)
shown_range wanted content stamp (Some range) = shown wanted content stamp range

-- an object that is there: a condition fails; then the client has it; then its range
abbrev pub live_answer : GetCommand → Content → Stamp → Answer
live_answer c content stamp =
    if is_unmet c.when.matches c.when.unmodified content.etag stamp
    then answered (Refused NotMet) (Live content stamp)
    else if is_had c.when.none c.when.modified content.etag stamp
    then answered (Same content.etag stamp) (Live content stamp)
    else shown_range c.body content stamp (bytes_taken (span_of c) (length content.bytes))

-- only an object that is there is shown
abbrev pub get_answer : GetCommand → Slot → Answer
get_answer c (Live content stamp) = live_answer c content stamp
get_answer c slot = answered (Refused NoObject) slot

-- ---- both

-- the answer of a zone at a clock
abbrev pub answer : Slot → Command → ℕ → ℕ → Answer
answer slot (put c bytes) zone clock = put_answer c bytes slot zone clock
answer slot (get c) zone clock = get_answer c slot
