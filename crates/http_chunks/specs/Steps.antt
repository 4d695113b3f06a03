-- What the plain reader finds at the front of bytes.
use Rattle.std.specs.Prelude.{ℕ, ◌<◌, ◌≤◌, ◌++◌, Bool, List, length, take}
use Rattle.http_chunks.specs.declared.body.BodyEnd.TheVariants as End
use Rattle.http_chunks.specs.declared.body.Opening.{Opening}
use Rattle.http_chunks.specs.declared.body.Opening.TheVariants.{Size, Ended}
use Rattle.http_chunks.specs.declared.body.Step.{Step}
use Rattle.http_chunks.specs.declared.body.Step.TheVariants.{Chunk, Over}
use Rattle.http_chunks.specs.declared.body.TextAt.{TextAt}
use Rattle.http_chunks.specs.declared.body.TextAt.TheVariants.{Text, Long, Open}
use Rattle.http_chunks.specs.declared.place.Place.{Place}
use Rattle.http_chunks.specs.Scans.{BeginsWithText, IsOpen}
use Rattle.http_chunks.specs.Chunks.{OpensChunk, IsCutOpening, IsLongOpening, IsNoOpening, IsLargeChunk, EndsBody}
use Rattle.std.specs.Prelude.{◌⊎◌}

-- the text at the front of the bytes
abbrev pub FindsText : Place → ℕ → List ℕ → TextAt → Type 0
FindsText place limit bytes (Text text rest) = BeginsWithText place limit bytes text.now rest.now
FindsText place limit bytes Long = (limit < length bytes) × IsOpen place (take limit bytes)
FindsText place limit bytes Open = (length bytes ≤ limit) × IsOpen place bytes

-- what opens a chunk at the front of the bytes
abbrev pub IsOpeningOf : Bool → ℕ → List ℕ → Opening → Type 0
IsOpeningOf behind room bytes (Size size rest) = OpensChunk behind bytes size rest.now × (size ≤ room)
IsOpeningOf behind room bytes (Ended End.Whole) = ⊥
IsOpeningOf behind room bytes (Ended End.Cut) = IsCutOpening behind bytes
IsOpeningOf behind room bytes (Ended End.BadChunk) = IsLongOpening behind bytes ⊎ IsNoOpening behind bytes
IsOpeningOf behind room bytes (Ended End.TooLarge) = IsLargeChunk behind room bytes

-- the chunk at the front of the bytes, or the end of the body
abbrev pub IsStepOf : Bool → ℕ → List ℕ → Step → Type 0
IsStepOf behind room bytes (Chunk content next) =
    OpensChunk behind bytes (length content.now) (content.now ++ next.now) × (0 < length content.now) × (length content.now ≤ room)
IsStepOf behind room bytes (Over end rest) = EndsBody behind room bytes end rest.now
