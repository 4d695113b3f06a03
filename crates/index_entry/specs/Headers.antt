-- How the header of a shard is written: what the bytes are and their layout in two bytes, then its numbers, each with
-- its high byte first, then what holds the shard and what became of it, each as a kind and a number.
use Rattle.std.specs.Prelude.{ℕ, ◌/◌, ◌%◌, ◌^◌, ◌<◌, List, ◌∷◌, ◌++◌}
use Rattle.object_words.specs.declared.shard.Hold.{Hold}
use Rattle.object_words.specs.declared.shard.Hold.TheVariants.{Free, Reshard, Closing}
use Rattle.object_words.specs.declared.shard.Fate.{Fate}
use Rattle.object_words.specs.declared.shard.Fate.TheVariants.{Serving, Moved, Closed}
use Rattle.index_entry.specs.Numbers.{number_bytes}
use Rattle.index_entry.specs.declared.header.ShardHeader.{ShardHeader}

-- a shard that nothing holds has the number 0
abbrev pub hold_kind : Hold → ℕ
hold_kind Free = 0
hold_kind (Reshard n) = 1
hold_kind (Closing n) = 2

abbrev pub hold_number : Hold → ℕ
hold_number Free = 0
hold_number (Reshard n) = n
hold_number (Closing n) = n

-- a shard that did not move has the number 0
abbrev pub fate_kind : Fate → ℕ
fate_kind Serving = 0
fate_kind (Moved n) = 1
fate_kind Closed = 2

abbrev pub fate_number : Fate → ℕ
fate_number Serving = 0
fate_number (Moved n) = n
fate_number Closed = 0

-- the sum of the sizes is two numbers, the high one first
abbrev pub header_bytes : ShardHeader → List ℕ
header_bytes h =
    237 ∷ 1 ∷ (number_bytes h.objects ++ (number_bytes (h.bytes / 2 ^ 64) ++ (number_bytes (h.bytes % 2 ^ 64) ++ (number_bytes h.tags ++ (number_bytes h.last
    ++ (number_bytes h.fence ++ (hold_kind h.hold ∷ (number_bytes (hold_number h.hold) ++ (fate_kind h.fate ∷ number_bytes (fate_number h.fate))))))))))

-- its numbers fit
pub record IsHeader (h : ShardHeader) : Type 0 where
  pub objects_fit : h.objects < 2 ^ 64
  pub bytes_fit : h.bytes < 2 ^ 128
  pub tags_fit : h.tags < 2 ^ 64
  pub last_fits : h.last < 2 ^ 64
  pub fence_fits : h.fence < 2 ^ 64
  pub hold_fits : hold_number h.hold < 2 ^ 64
  pub fate_fits : fate_number h.fate < 2 ^ 64
