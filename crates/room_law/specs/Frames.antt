-- The frames that a body takes (Ceph manual, Data Layout).
use Rattle.std.specs.Prelude.{ℕ, ◌+◌, List, length, sum_by}
use Rattle.std.specs.List.{range_with_len}
use Rattle.object_words.specs.Heads.{frames_for}
use Rattle.task_words.specs.Cuts.{first_bytes, tail_bytes}

-- the frames of so many tails of a body, from this one on; one behind its last byte has no bytes, and takes none
abbrev pub frames_of_tails : ℕ → ℕ → List ℕ → ℕ → ℕ → ℕ
frames_of_tails frame stripe bytes part count = sum_by (λ p. frames_for frame (tail_bytes stripe bytes p)) (range_with_len part count)

-- the frames of the head's bytes and of all tails
abbrev pub frames_of_body : ℕ → ℕ → List ℕ → ℕ
frames_of_body frame stripe bytes = frames_for frame (first_bytes stripe bytes) + frames_of_tails frame stripe bytes 1 (length bytes)
