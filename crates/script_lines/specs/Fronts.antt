-- The line that is read so far, in the bytes at hand.
use Rattle.std.specs.Prelude.{◌≡◌, ℕ, ◌+◌, ◌<◌, ◌≤◌, List, [], ◌∷◌, ◌++◌, length, take, drop, Option, Some, None, Result, Ok, Err}
use Rattle.std.specs.declared.alloc.AllocError.{AllocError}
use Rattle.std.specs.Io.KnownBytes.{Consumes, IsAtEnd}
use Rattle.script_lines.specs.declared.fault.LineFault.{LineFault}
use Rattle.script_lines.specs.declared.fault.LineFault.TheVariants.{OutOfMemory, ReadFault}
use Rattle.script_lines.specs.declared.front.Front.{Front}
use Rattle.script_lines.specs.declared.front.Front.TheVariants.{Line, Part, TooLong}
use Rattle.script_lines.specs.declared.reader.TheConstants.{LINE_LIMIT, INPUT_LIMIT}
use Rattle.script_lines.specs.Lines.{IsUnbroken}
use Rattle.script_lines.specs.Reading.{BeginsTooLong}

-- where the first line feed stands
abbrev pub IsLineEnd : List ℕ → Option ℕ → Type 0
IsLineEnd bytes None = IsUnbroken bytes
IsLineEnd bytes (Some at) = (at < length bytes) × IsUnbroken (take at bytes) × (drop at bytes ≡ 10 ∷ drop (at + 1) bytes)

-- a line of so many bytes, with its line feed, is not too long, nor is the input up to there
abbrev pub IsShort : ℕ → ℕ → ℕ → Type 0
IsShort given len feed = (len ≤ LINE_LIMIT) × (given + (len + feed) ≤ INPUT_LIMIT)

-- The bytes at hand are those of the line so far and those that follow; these are what is left of them, and what they come to.
abbrev pub IsFront : ℕ → List ℕ → List ℕ → List ℕ → Front → Type 0
IsFront given all line rest Line = (all ≡ line ++ 10 ∷ rest) × IsUnbroken line × IsShort given (length line) 1
IsFront given all line rest Part = (all ≡ line) × (rest ≡ []) × IsUnbroken line × IsShort given (length line) 0
IsFront given all line rest TooLong = (all ≡ line ++ rest) × IsUnbroken line × (length line ≤ LINE_LIMIT) × BeginsTooLong given all

-- nothing is lost where memory is wanting
abbrev pub TakesFront : ℕ → List ℕ → List ℕ → List ℕ → Result Front AllocError → Type 0
TakesFront given all line rest (Ok front) = IsFront given all line rest front
TakesFront given all line rest (Err fault) = (all ≡ line ++ rest) × IsUnbroken line × (length line ≤ LINE_LIMIT)

-- the same where more is read until a line is there, or the input has ended
abbrev pub FindsFront : ℕ → List ℕ → Type 0 → List ℕ → List ℕ → Result Front LineFault → Type 0
FindsFront given all ended line rest (Ok Line) = IsFront given all line rest Line
FindsFront given all ended line rest (Ok Part) = IsFront given all line rest Part × ended
FindsFront given all ended line rest (Ok TooLong) = IsFront given all line rest TooLong
FindsFront given all ended line rest (Err ReadFault) = IsFront given all line rest Part
FindsFront given all ended line rest (Err OutOfMemory) = (all ≡ line ++ rest) × IsUnbroken line × (length line ≤ LINE_LIMIT)

abbrev pub ReadsFront : Option (List ℕ) → Option (List ℕ) → ℕ → List ℕ → List ℕ → List ℕ → Result Front LineFault → Type 0
ReadsFront before after given waits line rest result =
    (more : List ℕ) × Consumes before after more × FindsFront given (waits ++ more) (IsAtEnd after) line rest result
