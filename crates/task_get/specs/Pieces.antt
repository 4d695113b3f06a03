-- The bytes of a range that reads bring.
use Rattle.std.specs.Prelude.{ℕ, ◌+◌, ◌-◌, min, nat_le, Bool, List, [], Option, Some, None, take, drop, map, filter, flat_map}
use Rattle.rgw_types.specs.Stripes.{ManifestView}
use Rattle.manifest.specs.declared.parts.Part.{Part}
use Rattle.manifest.specs.Ranges.{parts_of}
use Rattle.object_words.specs.declared.head.SeenSlot.{SeenSlot}
use Rattle.object_words.specs.declared.head.SeenSlot.TheVariants.{Live}
use Rattle.realm_model.specs.Owns.{OwnEvent}
use Rattle.realm_model.specs.declared.op.Op.{Op}
use Rattle.realm_model.specs.declared.op.Op.TheVariants.{HeadRead, TailRead}
use Rattle.realm_model.specs.declared.event.Reply.{Reply}
use Rattle.realm_model.specs.declared.event.Reply.TheVariants.{Head, Bytes}
use Rattle.task_words.specs.declared.command.GetCommand.{GetCommand}
use Rattle.task_words.specs.declared.span.ByteRange.{ByteRange}
use Rattle.task_get.specs.Replies.{range_of}

-- the bytes of a piece, if there is one
abbrev pub piece_bytes : Option (List ℕ) → List ℕ
piece_bytes None = []
piece_bytes (Some bytes) = bytes

-- the bytes of the range that a head has
abbrev pub first_bytes : ManifestView → List ℕ → Option ByteRange → List ℕ
first_bytes m first None = []
first_bytes m first (Some range) = take (min m.stripe (range.start + range.count) - range.start) (drop range.start first)

abbrev pub bytes_of_slot : GetCommand → SeenSlot → List ℕ
bytes_of_slot c (Live new stamp) = first_bytes new.manifest new.first (range_of c (Live new stamp))
bytes_of_slot c slot = []

-- what an answer brings of the range
abbrev pub brought_by : GetCommand → Op → Reply → List ℕ
brought_by c (HeadRead zone container name) (Head seen clock) = bytes_of_slot c seen.slot
brought_by c (TailRead zone write part start count) (Bytes bytes) = bytes
brought_by c op reply = []

-- what the answers to an actor's own events bring of the range, one after another
abbrev pub brought : GetCommand → List OwnEvent → List ℕ
brought c events = flat_map (λ e. brought_by c e.op e.reply) events

-- a part behind the head
abbrev pub is_tail : Part → Bool
is_tail p = nat_le 1 p.part

-- the read of a piece of a tail
abbrev pub read_of : ℕ → ManifestView → Part → Op
read_of zone m p = TailRead zone m.write p.part p.start p.count

-- the reads of the parts behind the head that have bytes of the range, by rising number
abbrev pub reads_of : ℕ → ManifestView → Option ByteRange → List Op
reads_of zone m None = []
reads_of zone m (Some range) = map (read_of zone m) (filter is_tail (parts_of m range.start range.count))

-- the reads of tails that a head leads to
abbrev pub tail_reads : ℕ → GetCommand → SeenSlot → List Op
tail_reads zone c (Live new stamp) = reads_of zone new.manifest (range_of c (Live new stamp))
tail_reads zone c slot = []
