-- The reply where an object is there, by what its head says, and the range of bytes of which it speaks.
use Rattle.std.specs.Prelude.{ℕ, Bool, true, false, ◌==◌, List, Option, Some, None, if◌then◌else◌}
use Rattle.rgw_types.specs.declared.stamp.Stamp.{Stamp}
use Rattle.object_words.specs.declared.head.NewHead.{NewHead}
use Rattle.object_words.specs.declared.head.SeenSlot.{SeenSlot}
use Rattle.object_words.specs.declared.head.SeenSlot.TheVariants.{Live}
use Rattle.task_words.specs.declared.command.GetCommand.{GetCommand}
use Rattle.task_words.specs.declared.span.ByteRange.{ByteRange}
use Rattle.task_words.specs.declared.reply.MapReply.{MapReply}
use Rattle.task_words.specs.declared.reply.MapReply.TheVariants.{Shown, Same, Refused}
use Rattle.task_words.specs.declared.reply.Refusal.TheVariants.{NotMet, NoRange}
use Rattle.task_words.specs.Spans.{bytes_taken}
use Rattle.task_words.specs.Answers.{is_unmet, is_had, span_of}

-- a condition fails; then the client has it; then its range
abbrev pub reply_by : Bool → Bool → Option ByteRange → ℕ → List ℕ → List (List ℕ × List ℕ) → List ℕ → Stamp → MapReply
reply_by true had range size kind meta etag stamp = Refused NotMet
reply_by false true range size kind meta etag stamp = Same etag stamp
reply_by false false None size kind meta etag stamp = Refused (NoRange size)
reply_by false false (Some range) size kind meta etag stamp = Shown kind meta etag stamp size range.start range.count

-- the reply to an object of so many bytes
abbrev pub reply_to : GetCommand → ℕ → List ℕ → List (List ℕ × List ℕ) → List ℕ → Stamp → MapReply
reply_to c size kind meta etag stamp =
    reply_by (is_unmet c.when.matches c.when.unmodified etag stamp) (is_had c.when.none c.when.modified etag stamp) (bytes_taken (span_of c) size) size kind meta etag stamp

-- the reply to an object with this head
abbrev pub reply_of : GetCommand → NewHead → Stamp → MapReply
reply_of c new stamp = reply_to c new.manifest.size new.kind new.meta new.etag stamp

-- the range of bytes that a reply shows
abbrev pub range_in : MapReply → Option ByteRange
range_in (Shown kind meta etag stamp size start count) = Some (record { start = start; count = count })
range_in reply = None

-- the range, where it has bytes
abbrev pub some_range : ByteRange → Option ByteRange
some_range range = if range.count == 0 then None else Some range

-- the range, where it has bytes and they are wanted
abbrev pub range_wanted : Bool → Option ByteRange → Option ByteRange
range_wanted true (Some range) = some_range range
range_wanted wanted range = None

-- the bytes that are wanted of what a head shows
abbrev pub range_of : GetCommand → SeenSlot → Option ByteRange
range_of c (Live new stamp) = range_wanted c.body (range_in (reply_of c new stamp))
range_of c slot = None
