-- What a reader of requests is at a moment, and what its calls do.
use Rattle.std.specs.Prelude.{◌≡◌, ◌⊎◌, ℕ, ◌+◌, ◌-◌, ◌<◌, ◌≤◌, ◌==◌, nat_lt, min, Bool, true, false, ◌&&◌, List, [], ◌++◌, length, take, Option, Some, None, Result, Ok, Err}
use Rattle.std.specs.Io.KnownBytes.{Consumes, IsAtEnd}
use Rattle.http_model.specs.declared.head.Framing.{Framing}
use Rattle.http_model.specs.declared.head.Framing.TheVariants.{Empty, Length, Chunked}
use Rattle.http_model.specs.declared.head.Head.{Head}
use Rattle.http_model.specs.Forms.{content_length}
use Rattle.http_model.specs.Heads.{BeginsWith}
use Rattle.http_model.specs.Streams.{IsBlank}
use Rattle.http_intake.specs.declared.fault.IntakeFault.{IntakeFault}
use Rattle.http_intake.specs.declared.fault.IntakeFault.TheVariants.{OutOfMemory, ReadFault, Cut, BadHead, HeadTooLarge, BadFraming, BadChunk, BodyTooLarge}
use Rattle.http_chunks.specs.Chunks.{OpensChunk, BeginsWithTrailers}
use Rattle.http_intake.specs.Chunks.{HasNoChunk}
use Rattle.http_intake.specs.Reading.{HasNoNext}

-- The bytes that were read and not yet given out; how many bytes of the present body are still to be given, or, where that
-- body is in chunks, of its present chunk; whether it is in chunks, whether one of them was begun, and how many bytes the
-- further ones may have together; the fault that was answered; and how many bytes the chunks of a body may have together.
pub record IntakeState : Type 0 where
  pub buffer : List ℕ
  pub body_left : ℕ
  pub chunked : Bool
  pub behind : Bool
  pub room : ℕ
  pub failed : Option IntakeFault
  pub largest : ℕ

-- before the first byte of a connection
abbrev pub fresh : ℕ → IntakeState
fresh largest = record { buffer = []; body_left = 0; chunked = false; behind = false; room = largest; failed = None; largest = largest }

-- the present body is not in chunks
abbrev pub IsUnchunked : IntakeState → Type 0
IsUnchunked intake = intake.chunked ≡ false

-- the present body was given whole
abbrev pub IsBetween : IntakeState → Type 0
IsBetween intake = (intake.body_left ≡ 0) × IsUnchunked intake

-- and no fault was answered
abbrev pub IsWhole : IntakeState → Type 0
IsWhole intake = (intake.failed ≡ None) × IsBetween intake

abbrev pub is_in_chunks : Framing → Bool
is_in_chunks Empty = false
is_in_chunks (Length n) = false
is_in_chunks Chunked = true

-- ---- the next head

-- all the bytes begin with this head, and the intake keeps what follows it
pub record GivesHead (all : List ℕ) (old new : IntakeState) (head : Head) : Type 0 where
  pub begins : BeginsWith all head new.buffer
  pub body_left : new.body_left ≡ content_length head.framing
  pub chunked : new.chunked ≡ is_in_chunks head.framing
  pub behind : new.behind ≡ false
  pub room : new.room ≡ old.largest
  pub failed : new.failed ≡ None
  pub largest : new.largest ≡ old.largest

-- the head at the front of all the bytes, the end of the input, or why neither is there
abbrev pub FindsNext : List ℕ → Type 0 → IntakeState → IntakeState → Result (Option Head) IntakeFault → Type 0
FindsNext all ended old new (Ok (Some head)) = GivesHead all old new head
FindsNext all ended old new (Ok None) = IsBlank all × ended × (new ≡ record old { buffer = all })
FindsNext all ended old new (Err fault) =
    HasNoNext all ended fault × (new ≡ record old { buffer = all; failed = Some fault })

-- bytes were read, and with those that waited they are that
abbrev pub GivesNext : Option (List ℕ) → Option (List ℕ) → IntakeState → IntakeState → Result (Option Head) IntakeFault → Type 0
GivesNext before after old new result =
    (more : List ℕ) × Consumes before after more × FindsNext (old.buffer ++ more) (IsAtEnd after) old new result

-- ---- the next bytes of a body

-- Bytes were read, and with those that waited they are the first n bytes of out and what the intake keeps. None comes only
-- where the body was given whole or out is empty.
pub record GivesBytes (before after : Option (List ℕ)) (old new : IntakeState) (out : List ℕ) (n : ℕ) : Type 0 where
  pub more : List ℕ
  pub read : Consumes before after more
  pub bytes : old.buffer ++ more ≡ take n out ++ new.buffer
  pub fits : n ≤ length out
  pub due : n + new.body_left ≡ old.body_left
  pub zero : n ≡ 0 → min old.body_left (length out) ≡ 0
  pub chunked : new.chunked ≡ old.chunked
  pub behind : new.behind ≡ old.behind
  pub room : new.room ≡ old.room
  pub failed : new.failed ≡ None
  pub largest : new.largest ≡ old.largest

-- the next bytes of the body, or why there are none: no byte waits and more are due, and the input ended or reading failed
abbrev pub GivesBody : Option (List ℕ) → Option (List ℕ) → IntakeState → IntakeState → List ℕ → Result ℕ IntakeFault → Type 0
GivesBody before after old new out (Ok n) = GivesBytes before after old new out n
GivesBody before after old new out (Err Cut) =
    (old.buffer ≡ []) × (0 < old.body_left) × Consumes before after [] × IsAtEnd after × (new ≡ record old { failed = Some Cut })
GivesBody before after old new out (Err ReadFault) =
    (old.buffer ≡ []) × (0 < old.body_left) × Consumes before after [] × (new ≡ record old { failed = Some ReadFault })
GivesBody before after old new out (Err OutOfMemory) = ⊥
GivesBody before after old new out (Err BadHead) = ⊥
GivesBody before after old new out (Err HeadTooLarge) = ⊥
GivesBody before after old new out (Err (BadFraming bodiless)) = ⊥
GivesBody before after old new out (Err BadChunk) = ⊥
GivesBody before after old new out (Err BodyTooLarge) = ⊥

-- ---- the next chunk of a body

-- the next chunk has to be opened before more bytes can be given
abbrev pub is_line_due : IntakeState → List ℕ → Bool
is_line_due intake out = intake.chunked && ((intake.body_left == 0) && nat_lt 0 (length out))

-- behind the text that opens a chunk of this size
abbrev pub opened : IntakeState → List ℕ → ℕ → IntakeState
opened old left size = record old { buffer = left; body_left = size; behind = true; room = old.room - size }

-- behind the trailers
abbrev pub finished : IntakeState → List ℕ → IntakeState
finished old left = record old { buffer = left; chunked = false }

-- all the bytes open the next chunk, or end the body
abbrev pub OpensNext : List ℕ → IntakeState → IntakeState → ℕ → Type 0
OpensNext all old new size =
    ((0 < size) × (size ≤ old.room) × OpensChunk old.behind all size new.buffer × (new ≡ opened old new.buffer size))
    ⊎ ((size ≡ 0) × ((after : List ℕ) × OpensChunk old.behind all 0 after × BeginsWithTrailers after new.buffer) × (new ≡ finished old new.buffer))

-- bytes were read, and with those that waited they go on like that, or do not go on for that cause
abbrev pub OpensBody : Option (List ℕ) → Option (List ℕ) → IntakeState → IntakeState → Result ℕ IntakeFault → Type 0
OpensBody before after old new (Ok size) =
    (more : List ℕ) × Consumes before after more × OpensNext (old.buffer ++ more) old new size
OpensBody before after old new (Err fault) =
    (more : List ℕ) × Consumes before after more × HasNoChunk old.behind old.room (old.buffer ++ more) (IsAtEnd after) fault
    × (new ≡ record old { buffer = new.buffer; failed = Some fault })

-- the next chunk was opened and its first bytes were given, or the body was read whole, or it does not go on
abbrev pub GivesChunk : Option (List ℕ) → Option (List ℕ) → IntakeState → IntakeState → List ℕ → Result ℕ IntakeFault → Type 0
GivesChunk before after old new out result =
    ((size : ℕ) × (middle : Option (List ℕ)) × (between : IntakeState) × (0 < size)
    × OpensBody before middle old between (Ok size) × GivesBody middle after between new out result)
    ⊎ (((result ≡ Ok 0) × OpensBody before after old new (Ok 0))
    ⊎ ((fault : IntakeFault) × (result ≡ Err fault) × OpensBody before after old new (Err fault)))
