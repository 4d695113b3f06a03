-- The requests that the bytes of a connection are, with bodies in any framing, and what is left of a body that is being read
-- (RFC 9112, sections 2, 6 and 7).
use Rattle.std.specs.Prelude.{◌≡◌, ◌≢◌, ◌⊎◌, ℕ, ◌+◌, ◌<◌, Bool, true, false, List, [], ◌∷◌, ◌++◌, length, take, Option, Some, None, Result, Ok, Err}
use Rattle.std.specs.Io.KnownBytes.{Consumes, IsAtEnd}
use Rattle.http_chunks.specs.declared.body.BodyEnd.{BodyEnd}
use Rattle.http_chunks.specs.declared.body.BodyEnd.TheVariants as End
use Rattle.http_chunks.specs.Chunks.{AreChunks, content_of, IsChunkedBody}
use Rattle.http_model.specs.declared.head.Framing.{Framing}
use Rattle.http_model.specs.declared.head.Framing.TheVariants.{Empty, Length, Chunked}
use Rattle.http_model.specs.declared.head.Head.{Head}
use Rattle.http_model.specs.declared.head.Request.{Request}
use Rattle.http_model.specs.Heads.{skip_breaks, BeginsWith}
use Rattle.http_model.specs.Streams.{IsBlank, IsCutHead, IsNoHead, IsUnframed, IsOversized}
use Rattle.http_intake.specs.declared.fault.IntakeFault.{IntakeFault}
use Rattle.http_intake.specs.declared.fault.IntakeFault.TheVariants.{OutOfMemory, ReadFault, Cut, BadHead, HeadTooLarge, BadFraming, BadChunk, BodyTooLarge}
use Rattle.http_intake.specs.Intake.{IntakeState}

-- ---- requests

-- what follows a head with this framing is that body, whose chunks have at most so many bytes, and then rest
abbrev pub IsBodyOf : ℕ → Framing → List ℕ → List ℕ → List ℕ → Type 0
IsBodyOf largest Empty after body rest = (body ≡ []) × (rest ≡ after)
IsBodyOf largest (Length n) after body rest = (after ≡ body ++ rest) × (length body ≡ n)
IsBodyOf largest Chunked after body rest = IsChunkedBody largest after body End.Whole rest

-- what follows such a head is no whole body, for that cause
abbrev pub HasNoBody : ℕ → Framing → List ℕ → BodyEnd → Type 0
HasNoBody largest Empty after why = ⊥
HasNoBody largest (Length n) after why = (why ≡ End.Cut) × (length after < n)
HasNoBody largest Chunked after why =
    (why ≢ End.Whole) × (contents : List (List ℕ)) × (rest : List ℕ) × AreChunks false largest after contents why rest

-- a chunk is none, or there is no room for it
abbrev pub IsWrong : BodyEnd → Type 0
IsWrong End.Whole = ⊥
IsWrong End.Cut = ⊥
IsWrong End.BadChunk = Unit {0}
IsWrong End.TooLarge = Unit {0}

-- what follows a head with this framing is chunks that go wrong for that cause, behind these bytes of the body
abbrev pub HasWrongBody : ℕ → Framing → List ℕ → BodyEnd → List ℕ → Type 0
HasWrongBody largest Empty after why came = ⊥
HasWrongBody largest (Length n) after why came = ⊥
HasWrongBody largest Chunked after why came =
    IsWrong why × (contents : List (List ℕ)) × (rest : List ℕ) × AreChunks false largest after contents why rest × (came ≡ content_of contents)

-- the bytes begin with that request, and rest follows
pub record TakesWhole (largest : ℕ) (bytes : List ℕ) (request : Request) (rest : List ℕ) : Type 0 where
  pub after : List ℕ
  pub head : BeginsWith bytes request.head after
  pub body : IsBodyOf largest request.head.framing after request.body rest

-- the bytes begin with a head, and what follows it is no whole body
abbrev pub BeginsBroken : ℕ → List ℕ → BodyEnd → Type 0
BeginsBroken largest bytes why = (head : Head) × (after : List ℕ) × BeginsWith bytes head after × HasNoBody largest head.framing after why

-- no request follows: nothing does, or this is wrong
abbrev pub HasNoRequest : ℕ → List ℕ → Option IntakeFault → Type 0
HasNoRequest largest bytes None = IsBlank bytes
HasNoRequest largest bytes (Some OutOfMemory) = ⊥
HasNoRequest largest bytes (Some ReadFault) = ⊥
HasNoRequest largest bytes (Some Cut) = ((skip_breaks bytes ≢ []) × IsCutHead bytes) ⊎ BeginsBroken largest bytes End.Cut
HasNoRequest largest bytes (Some BadHead) = IsNoHead bytes
HasNoRequest largest bytes (Some HeadTooLarge) = IsOversized bytes
HasNoRequest largest bytes (Some (BadFraming bodiless)) = IsUnframed bytes bodiless
HasNoRequest largest bytes (Some BadChunk) = BeginsBroken largest bytes End.BadChunk
HasNoRequest largest bytes (Some BodyTooLarge) = BeginsBroken largest bytes End.TooLarge

-- The bytes are these requests, and behind them there is no further one for that cause.
abbrev pub AreRequests : ℕ → List ℕ → List Request → Option IntakeFault → Type 0
AreRequests largest bytes [] why = HasNoRequest largest bytes why
AreRequests largest bytes (request ∷ requests) why =
    (rest : List ℕ) × TakesWhole largest bytes request rest × AreRequests largest rest requests why

-- ---- what is left of a body

-- the bytes are what is left of the body, which comes in chunks or not, and then rest
abbrev pub IsLeftBy : Bool → IntakeState → List ℕ → List ℕ → List ℕ → Type 0
IsLeftBy false intake bytes body rest = (bytes ≡ body ++ rest) × (length body ≡ intake.body_left)
IsLeftBy true intake bytes body rest =
    (piece : List ℕ) × (next : List ℕ) × (contents : List (List ℕ)) × (bytes ≡ piece ++ next) × (length piece ≡ intake.body_left)
    × AreChunks intake.behind intake.room next contents End.Whole rest × (body ≡ piece ++ content_of contents)

abbrev pub IsLeft : IntakeState → List ℕ → List ℕ → List ℕ → Type 0
IsLeft intake bytes body rest = IsLeftBy intake.chunked intake bytes body rest

-- the bytes are not all that is left of the body, for that cause
abbrev pub IsBrokenBy : Bool → IntakeState → List ℕ → BodyEnd → Type 0
IsBrokenBy false intake bytes why = (why ≡ End.Cut) × (length bytes < intake.body_left)
IsBrokenBy true intake bytes why =
    ((why ≡ End.Cut) × (length bytes < intake.body_left))
    ⊎ ((piece : List ℕ) × (next : List ℕ) × (contents : List (List ℕ)) × (rest : List ℕ) × (bytes ≡ piece ++ next)
    × (length piece ≡ intake.body_left) × AreChunks intake.behind intake.room next contents why rest × (why ≢ End.Whole))

abbrev pub IsBroken : IntakeState → List ℕ → BodyEnd → Type 0
IsBroken intake bytes why = IsBrokenBy intake.chunked intake bytes why

-- what is left of the body, which comes in chunks or not, goes wrong for that cause, behind these bytes of it
abbrev pub GoesWrongBy : Bool → IntakeState → List ℕ → BodyEnd → List ℕ → Type 0
GoesWrongBy false intake bytes why came = ⊥
GoesWrongBy true intake bytes why came =
    IsWrong why × (piece : List ℕ) × (next : List ℕ) × (contents : List (List ℕ)) × (rest : List ℕ) × (bytes ≡ piece ++ next)
    × (length piece ≡ intake.body_left) × AreChunks intake.behind intake.room next contents why rest × (came ≡ piece ++ content_of contents)

abbrev pub GoesWrong : IntakeState → List ℕ → BodyEnd → List ℕ → Type 0
GoesWrong intake bytes why came = GoesWrongBy intake.chunked intake bytes why came

-- The bytes went in and that was given: whatever follows, it and what is left now are what was left, and where that is broken,
-- this was. Where that goes wrong behind some bytes, this did behind what was given and them.
pub record Gives (old new : IntakeState) (bytes given : List ℕ) : Type 0 where
  pub whole : (later body rest : List ℕ) → IsLeft new (new.buffer ++ later) body rest → IsLeft old (bytes ++ later) (given ++ body) rest
  pub broken : (later : List ℕ) (why : BodyEnd) → IsBroken new (new.buffer ++ later) why → IsBroken old (bytes ++ later) why
  pub wrong : (later : List ℕ) (why : BodyEnd) (came : List ℕ) → GoesWrong new (new.buffer ++ later) why came → GoesWrong old (bytes ++ later) why (given ++ came)

-- Why the bytes, the last of an input that has ended, if it has, are not all that is left. Where chunks go wrong, all that came
-- before was given by then.
abbrev pub BreaksBody : IntakeState → List ℕ → Type 0 → IntakeFault → Type 0
BreaksBody intake bytes ended OutOfMemory = ⊥
BreaksBody intake bytes ended ReadFault = IsBroken intake bytes End.Cut
BreaksBody intake bytes ended Cut = IsBroken intake bytes End.Cut × ended
BreaksBody intake bytes ended BadHead = ⊥
BreaksBody intake bytes ended HeadTooLarge = ⊥
BreaksBody intake bytes ended (BadFraming bodiless) = ⊥
BreaksBody intake bytes ended BadChunk = GoesWrong intake bytes End.BadChunk []
BreaksBody intake bytes ended BodyTooLarge = GoesWrong intake bytes End.TooLarge []

-- bytes were read, and they and those that waited are the next of the body, which stand in out now; or they break it
abbrev pub ReadsBody : Option (List ℕ) → Option (List ℕ) → IntakeState → IntakeState → List ℕ → Result ℕ IntakeFault → Type 0
ReadsBody before after old new out (Ok n) =
    (more : List ℕ) × Consumes before after more × Gives old new (old.buffer ++ more) (take n out)
    × (n + (new.body_left + new.room) ≡ old.body_left + old.room) × (new.largest ≡ old.largest)
ReadsBody before after old new out (Err fault) =
    (more : List ℕ) × Consumes before after more × BreaksBody old (old.buffer ++ more) (IsAtEnd after) fault
