-- How far the bytes of a range were read.
use Rattle.std.specs.Prelude.{ℕ, ◌+◌, ◌*◌, ◌<◌, ◌≤◌}
use Rattle.rgw_types.specs.Stripes.{ManifestView}
use Rattle.manifest.specs.declared.parts.Part.{Part}
use Rattle.manifest.specs.Ranges.{piece_at}
use Rattle.task_words.specs.declared.span.ByteRange.{ByteRange}
use Rattle.task_words.specs.declared.reply.MapReply.{MapReply}

-- the reply that shows the range; the tail that comes next; how many bytes were given; the clock at the read of the head
pub record ReadingView : Type 0 where
  pub reply : MapReply
  pub manifest : ManifestView
  pub range : ByteRange
  pub part : ℕ
  pub given : ℕ
  pub read_at : ℕ

-- the range lies in the object, and has bytes in the tail that comes next; the bytes given are before that tail
pub record IsReading (x : ReadingView) : Type 0 where
  pub inside : x.range.start + x.range.count ≤ x.manifest.size
  pub begins : x.range.start < x.part * x.manifest.stripe + x.manifest.stripe
  pub ends : x.part * x.manifest.stripe < x.range.start + x.range.count
  pub few : x.given ≤ x.part * x.manifest.stripe

-- the bytes of the range in the tail that comes next
abbrev pub next_piece : ReadingView → Part
next_piece x = piece_at x.manifest x.range.start x.range.count x.part
