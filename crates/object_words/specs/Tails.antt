-- A tail: the bytes of one further stripe of an object (Ceph manual, Data Layout).
use Rattle.std.specs.Prelude.{ℕ, ◌==◌, not, Bool, List, [], take, drop, length, Option, Some, None, if◌then◌else◌}
use Rattle.object_words.specs.declared.why.Why.{Why}
use Rattle.object_words.specs.declared.why.Why.TheVariants.{Gone}
use Rattle.object_words.specs.Heads.{frames_for}
use Rattle.object_words.specs.HeadCalls.{space_refusal}
use Rattle.object_words.specs.Refusals.{unless_refused}

-- the bytes of a stripe
pub record Tail : Type 0 where
  pub bytes : List ℕ

-- a tail that was never made, or was dropped
abbrev pub no_tail : Tail
no_tail = record { bytes = [] }

-- a tail that is there has bytes
abbrev pub is_there : Tail → Bool
is_there tail = not (length tail.bytes == 0)

-- ---- make

-- there is no room for the bytes
abbrev pub tail_refusal : List ℕ → ℕ → ℕ → Option Why
tail_refusal bytes free frame = space_refusal free (frames_for frame bytes)

-- the tail with these bytes
abbrev pub tail_made : Tail → List ℕ → ℕ → ℕ → Tail
tail_made tail bytes free frame = unless_refused (tail_refusal bytes free frame) tail (record { bytes = bytes })

-- ---- read

-- the tail is not there
abbrev pub read_refusal : Tail → ℕ → Option Why
read_refusal tail clock = if is_there tail then None else Some (Gone clock)

-- what is there of the range
abbrev pub bytes_at : Tail → ℕ → ℕ → List ℕ
bytes_at tail start count = take count (drop start tail.bytes)
