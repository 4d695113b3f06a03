-- A body in chunks (RFC 9112, section 7.1): chunk lines, the bytes of the chunks, and trailers, which are read and dropped.
use Rattle.std.specs.Prelude.{◌≡◌, ◌⊎◌, ℕ, ◌+◌, ◌-◌, ◌<◌, ◌≤◌, Bool, true, false, List, [], ◌∷◌, ◌++◌, length, take, if◌then◌else◌}
use Rattle.httparse.specs.Grammar.{ChunkLine, ReadsChunkLine, chunk_size, Field, LineEnd, ReadsSection}
use Rattle.http_chunks.specs.declared.body.BodyEnd.{BodyEnd}
use Rattle.http_chunks.specs.declared.body.BodyEnd.TheVariants as End
use Rattle.http_chunks.specs.declared.place.Place.TheVariants.{Fresh}
use Rattle.http_chunks.specs.declared.chunk_line.TheConstants.{LINE_LIMIT, BREAK_LEN}
use Rattle.http_chunks.specs.declared.trailers.TheConstants.{TRAILER_LIMIT, TRAILER_FIELDS}
use Rattle.http_chunks.specs.Scans.{BeginsWithText, IsOpen, opening_start}

-- ---- the text that opens a chunk

-- the chunk line, all of it, says this size
abbrev pub SaysSize : List ℕ → ℕ → Type 0
SaysSize line size = (l : ChunkLine) × ReadsChunkLine line l [] × (chunk_size l ≡ size)

-- behind the bytes of a chunk comes their line end
abbrev pub break_of : Bool → List ℕ
break_of behind = if behind then 13 ∷ 10 ∷ [] else []

-- the text is the line end behind a chunk, where it stands behind one, and a chunk line that says this size
abbrev pub SaysOpening : Bool → List ℕ → ℕ → Type 0
SaysOpening behind text size = (line : List ℕ) × (text ≡ break_of behind ++ line) × SaysSize line size

abbrev pub opening_limit : Bool → ℕ
opening_limit behind = if behind then BREAK_LEN + LINE_LIMIT else LINE_LIMIT

-- the bytes begin with the text that opens a chunk, and rest follows
abbrev pub BeginsWithOpening : Bool → List ℕ → List ℕ → List ℕ → Type 0
BeginsWithOpening behind bytes text rest = BeginsWithText (opening_start behind) (opening_limit behind) bytes text rest

-- the bytes open a chunk of this size, and rest follows
abbrev pub OpensChunk : Bool → List ℕ → ℕ → List ℕ → Type 0
OpensChunk behind bytes size rest = (text : List ℕ) × BeginsWithOpening behind bytes text rest × SaysOpening behind text size

-- ---- trailers

-- the text, all of it, is field lines and an empty line
abbrev pub AreTrailers : List ℕ → Type 0
AreTrailers text =
    (fields : List Field) × (last : LineEnd) × ReadsSection text fields last [] × (length fields ≤ TRAILER_FIELDS)

-- the bytes begin with the text of trailers, and rest follows
abbrev pub BeginsWithTrailerText : List ℕ → List ℕ → List ℕ → Type 0
BeginsWithTrailerText bytes text rest = BeginsWithText Fresh TRAILER_LIMIT bytes text rest

-- the bytes begin with trailers, and rest follows
abbrev pub BeginsWithTrailers : List ℕ → List ℕ → Type 0
BeginsWithTrailers bytes rest = (text : List ℕ) × BeginsWithTrailerText bytes text rest × AreTrailers text

-- ---- where none goes on

-- no chunk line ends in the bytes, and they may go on
abbrev pub IsCutOpening : Bool → List ℕ → Type 0
IsCutOpening behind bytes = (length bytes ≤ opening_limit behind) × IsOpen (opening_start behind) bytes

-- more bytes than a chunk line may have, and none ends in them
abbrev pub IsLongOpening : Bool → List ℕ → Type 0
IsLongOpening behind bytes =
    (opening_limit behind < length bytes) × IsOpen (opening_start behind) (take (opening_limit behind) bytes)

-- the text up to the end of the line opens no chunk
abbrev pub IsNoOpening : Bool → List ℕ → Type 0
IsNoOpening behind bytes =
    (text : List ℕ) × (rest : List ℕ) × BeginsWithOpening behind bytes text rest × ((size : ℕ) → ¬ (SaysOpening behind text size))

abbrev pub IsCutTrailers : List ℕ → Type 0
IsCutTrailers bytes = (length bytes ≤ TRAILER_LIMIT) × IsOpen Fresh bytes

abbrev pub AreLongTrailers : List ℕ → Type 0
AreLongTrailers bytes = (TRAILER_LIMIT < length bytes) × IsOpen Fresh (take TRAILER_LIMIT bytes)

abbrev pub AreNoTrailers : List ℕ → Type 0
AreNoTrailers bytes = (text : List ℕ) × (rest : List ℕ) × BeginsWithTrailerText bytes text rest × ¬ (AreTrailers text)

-- the bytes may go on to open a chunk, or to end the trailers behind the last one
abbrev pub IsCutChunk : Bool → List ℕ → Type 0
IsCutChunk behind bytes = IsCutOpening behind bytes ⊎ ((after : List ℕ) × OpensChunk behind bytes 0 after × IsCutTrailers after)

-- whatever follows, the bytes open no chunk, or no trailers follow the last one
abbrev pub IsNoChunk : Bool → List ℕ → Type 0
IsNoChunk behind bytes =
    IsLongOpening behind bytes
    ⊎ (IsNoOpening behind bytes ⊎ ((after : List ℕ) × OpensChunk behind bytes 0 after × (AreLongTrailers after ⊎ AreNoTrailers after)))

-- the bytes open a chunk for which there is no room
abbrev pub IsLargeChunk : Bool → ℕ → List ℕ → Type 0
IsLargeChunk behind room bytes = (size : ℕ) × (rest : List ℕ) × OpensChunk behind bytes size rest × (room < size)

-- the bytes open a chunk, and a part of its content follows
abbrev pub IsCutContent : Bool → ℕ → List ℕ → Type 0
IsCutContent behind room bytes =
    (size : ℕ) × (rest : List ℕ) × OpensChunk behind bytes size rest × (size ≤ room) × (length rest < size)

-- ---- a body

-- The bytes end a body there, and rest follows; where it is not whole, these are the bytes that do not go on. The chunk that
-- would be next stands behind another or not, and has room for so many bytes.
abbrev pub EndsBody : Bool → ℕ → List ℕ → BodyEnd → List ℕ → Type 0
EndsBody behind room bytes End.Whole rest = (after : List ℕ) × OpensChunk behind bytes 0 after × BeginsWithTrailers after rest
EndsBody behind room bytes End.Cut rest = (IsCutChunk behind bytes ⊎ IsCutContent behind room bytes) × (rest ≡ bytes)
EndsBody behind room bytes End.BadChunk rest = IsNoChunk behind bytes × (rest ≡ bytes)
EndsBody behind room bytes End.TooLarge rest = IsLargeChunk behind room bytes × (rest ≡ bytes)

-- The bytes are chunks of these contents and then that end, and rest follows. The first of them stands behind another or
-- not, and all have room for so many bytes.
abbrev pub AreChunks : Bool → ℕ → List ℕ → List (List ℕ) → BodyEnd → List ℕ → Type 0
AreChunks behind room bytes [] end rest = EndsBody behind room bytes end rest
AreChunks behind room bytes (content ∷ contents) end rest =
    (next : List ℕ) × OpensChunk behind bytes (length content) (content ++ next) × (0 < length content) × (length content ≤ room)
    × AreChunks true (room - length content) next contents end rest

-- what all chunks hold
abbrev pub content_of : List (List ℕ) → List ℕ
content_of [] = []
content_of (content ∷ contents) = content ++ content_of contents

-- the bytes are a body in chunks of at most so many bytes together, as far as that end, and rest follows
abbrev pub IsChunkedBody : ℕ → List ℕ → List ℕ → BodyEnd → List ℕ → Type 0
IsChunkedBody largest bytes body end rest =
    (contents : List (List ℕ)) × AreChunks false largest bytes contents end rest × (body ≡ content_of contents)
