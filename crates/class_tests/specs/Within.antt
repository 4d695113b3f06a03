-- How far a shard can be after so many events.
use Rattle.std.specs.Prelude.{ℕ, ◌+◌, ◌*◌, ◌^◌, ◌≤◌}
use Rattle.object_words.specs.Shards.{Shard, byte_count, object_count, sum_over, tag_count}
use Rattle.class_words.specs.Shards.{HasTagsBelow}

-- Each event adds one object, one size, one tag and one row of the log at most, and a tag has the number of its event.
pub record IsWithin (events : ℕ) (s : Shard) : Type 0 where
  pub objects : sum_over object_count s ≤ events
  pub bytes : sum_over byte_count s ≤ events * 2 ^ 64
  pub tags : sum_over tag_count s ≤ events
  pub last : s.log.last ≤ events
  pub below : HasTagsBelow (events + 1) s
