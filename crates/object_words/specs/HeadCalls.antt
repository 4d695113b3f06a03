-- What each call does to a head: why it is refused, and what it leaves, which is the head as it was where it is refused.
use Rattle.std.specs.Prelude.{ℕ, ◌-◌, ◌^◌, ◌==◌, min, nat_lt, nat_le, Option, Some, None, unwrap_or, if◌then◌else◌}
use Rattle.rgw_types.specs.declared.stamp.Stamp.{Stamp}
use Rattle.rgw_types.specs.Stamps.{stamp_above}
use Rattle.object_words.specs.declared.entry.Guard.{Guard}
use Rattle.object_words.specs.declared.head.NewHead.{NewHead}
use Rattle.object_words.specs.declared.head.HeadSeen.{HeadSeen}
use Rattle.object_words.specs.declared.head.Changed.{Changed}
use Rattle.object_words.specs.declared.head.Conditions.{Conditions}
use Rattle.object_words.specs.declared.head.SeenSlot.{SeenSlot}
use Rattle.object_words.specs.declared.head.SeenSlot.TheVariants.{Live}
use Rattle.object_words.specs.declared.why.Why.{Why}
use Rattle.object_words.specs.declared.why.Why.TheVariants.{Expired, NotMet, NoSpace}
use Rattle.object_words.specs.Rows.{no_row}
use Rattle.object_words.specs.Conditions.{fails}
use Rattle.object_words.specs.Heads.{Head, seen_stamp, row_of, etag_of, manifest_of, with_tails, frames_for}
use Rattle.object_words.specs.Refusals.{first_refusal, unless_refused}

-- ---- read

-- a head that was never changed is shown with the number of the read
abbrev pub version_seen : Head → ℕ → ℕ
version_seen head number = if head.version == 0 then number else head.version

-- what a read of a head shows, by an event of this number
abbrev pub seen : Head → ℕ → HeadSeen
seen head number = record { version = version_seen head number; slot = head.slot }

-- ---- what refuses a change

-- the tag's life is over
abbrev pub guard_refusal : Guard → ℕ → Option Why
guard_refusal guard clock = if nat_le guard.deadline clock then Some (Expired guard.deadline clock) else None

-- If-Match or If-None-Match fails
abbrev pub condition_refusal : Conditions → SeenSlot → Option Why
condition_refusal when slot = if fails when (etag_of slot) then Some (NotMet (seen_stamp slot)) else None

-- fewer frames are free than the bytes take; how many they take is told up to the greatest number of 32 bits
abbrev pub space_refusal : ℕ → ℕ → Option Why
space_refusal free needed = if nat_lt free needed then Some (NoSpace free (min needed (2 ^ 32 - 1))) else None

-- ---- write

-- the tag's life is over; then a condition fails; then there is no room
abbrev pub write_refusal : Head → Guard → NewHead → Conditions → ℕ → ℕ → ℕ → Option Why
write_refusal head guard new when clock free frame =
    first_refusal (guard_refusal guard clock)
    (first_refusal (condition_refusal when head.slot) (space_refusal free (frames_for frame new.first)))

-- the stamp of a change in a zone
abbrev pub stamp_next : Head → ℕ → ℕ → Stamp
stamp_next head zone clock = stamp_above (seen_stamp head.slot) clock zone

-- the head with the new content, under the next stamp
abbrev pub written : Head → Guard → NewHead → Conditions → ℕ → ℕ → ℕ → ℕ → ℕ → Head
written head guard new when zone number clock free frame =
    unless_refused (write_refusal head guard new when clock free frame) head
    (record { version = number; slot = Live new (stamp_next head zone clock) })

-- what a change answers, from the head before and after it
abbrev pub change_of : Head → Head → Changed
change_of old new = record {
  version = new.version;
  stamp = unwrap_or (seen_stamp new.slot) (no_row).stamp;
  row = row_of new.slot;
  old = with_tails (manifest_of old.slot);
}
