-- The bytes of an object that a range takes (RFC 9110, section 14.1.2).
use Rattle.std.specs.Prelude.{ℕ, ◌+◌, ◌-◌, ◌^◌, min, Bool, true, false, not, ◌==◌, nat_lt, nat_le, Option, Some, None, if◌then◌else◌}
use Rattle.task_words.specs.declared.span.Span.{Span}
use Rattle.task_words.specs.declared.span.Span.TheVariants.{Between, From, Last}
use Rattle.task_words.specs.declared.span.ByteRange.{ByteRange}

-- all bytes
abbrev pub all_bytes : ℕ → ByteRange
all_bytes size = record { start = 0; count = size }

-- from the first up to and with the last, as far as there are such; none where the first is behind the object
abbrev pub range_between : ℕ → ℕ → ℕ → Option ByteRange
range_between first last size =
    if nat_le size first then None else Some (record { start = first; count = min (last + 1) size - first })

-- the bytes that are shown; none where the range cannot be had. A range whose first byte is behind its last is none
abbrev pub bytes_taken : Option Span → ℕ → Option ByteRange
bytes_taken None size = Some (all_bytes size)
bytes_taken (Some (Between first last)) size =
    if nat_lt last first then Some (all_bytes size) else range_between first last size
bytes_taken (Some (From first)) size = range_between first (2 ^ 64 - 1) size
bytes_taken (Some (Last count)) size =
    if count == 0 then None else Some (record { start = size - min count size; count = min count size })

-- a range was asked for and can be had, so that a reply says which bytes it has; the last bytes of an empty object are
-- the whole of it
abbrev pub is_partial : Option Span → ℕ → Bool
is_partial None size = false
is_partial (Some (Between first last)) size = nat_le first last
is_partial (Some (From first)) size = true
is_partial (Some (Last count)) size = not (size == 0)
