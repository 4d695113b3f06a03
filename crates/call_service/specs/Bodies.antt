-- The body of a request, as it is read.
use Rattle.std.specs.Prelude.{◌≡◌, ◌≢◌, ℕ, ◌+◌, ◌<◌, ◌≤◌, Bool, true, false, List, [], ◌++◌, length, take, Option, Some, None, Result, Err}
use Rattle.std.specs.Io.KnownBytes.{Consumes, IsAtEnd}
use Rattle.gw_io.specs.Outside.{Rose}
use Rattle.http_chunks.specs.declared.body.BodyEnd.{BodyEnd}
use Rattle.http_chunks.specs.declared.body.BodyEnd.TheVariants as End
use Rattle.http_intake.specs.Grammar.{IsBroken, Gives, GoesWrong}
use Rattle.http_intake.specs.Intake.{IntakeState, IsBetween}
use Rattle.swift_requests.specs.declared.body.BodyUse.{BodyUse}
use Rattle.swift_requests.specs.declared.body.BodyUse.TheVariants.{Dropped, Unread}
use Rattle.task_words.specs.declared.command.BodyEnd.{BodyEnd as TaskBodyEnd}
use Rattle.task_words.specs.declared.command.BodyEnd.TheVariants.{Whole, Failed}
use Rattle.task_words.specs.Outcomes.{Body}
use Rattle.call_words.specs.Bodies.{Fate, read_whole, broken_off, unread}
use Rattle.call_service.specs.declared.body.Piece.{Piece}
use Rattle.call_service.specs.declared.body.Piece.TheVariants as Pieces
use Rattle.call_service.specs.declared.fault.ServeFault.{ServeFault}
use Rattle.call_service.specs.declared.fault.ServeFault.TheVariants.{ReadFault}

-- ---- how much may come

-- the most bytes that the present body may still have
abbrev pub most_due_by : Bool → IntakeState → ℕ
most_due_by false intake = intake.body_left
most_due_by true intake = intake.body_left + intake.room

abbrev pub most_due : IntakeState → ℕ
most_due intake = most_due_by intake.chunked intake

-- ---- what was read

-- these bytes of the present body were given, and the rest of it is due
pub record HasGiven (old now : IntakeState) (before after : Option (List ℕ)) (given : List ℕ) : Type 0 where
  pub more : List ℕ
  pub read : Consumes before after more
  pub gives : Gives old now (old.buffer ++ more) given
  pub due : length given + most_due now ≤ most_due old
  pub failed : now.failed ≡ None
  pub largest : now.largest ≡ old.largest

-- the body was given whole
pub record HasGivenAll (old now : IntakeState) (before after : Option (List ℕ)) (given : List ℕ) : Type 0 where
  pub has_given : HasGiven old now before after given
  pub whole : IsBetween now

-- bytes were read, and what there is then is chunks that go wrong, behind these bytes of the body
pub record BreaksIn (old : IntakeState) (before after : Option (List ℕ)) (why : BodyEnd) (came : List ℕ) : Type 0 where
  pub more : List ℕ
  pub read : Consumes before after more
  pub wrong : GoesWrong old (old.buffer ++ more) why came

-- bytes were read, and what there is then is not all of the body
pub record FallsShort (old : IntakeState) (before after : Option (List ℕ)) : Type 0 where
  pub more : List ℕ
  pub read : Consumes before after more
  pub broken : IsBroken old (old.buffer ++ more) End.Cut

-- the input ended inside the body
abbrev pub IsCutIn : IntakeState → Option (List ℕ) → Option (List ℕ) → Type 0
IsCutIn old before after = FallsShort old before after × IsAtEnd after

-- a read failed inside the body
abbrev pub FailsIn : IntakeState → Option (List ℕ) → Option (List ℕ) → Type 0
FailsIn old before after = FallsShort old before after

-- these bytes of the body were given, and it fell short behind them
pub record FallsBehind (old : IntakeState) (before after : Option (List ℕ)) (given : List ℕ) : Type 0 where
  pub between : IntakeState
  pub left : Option (List ℕ)
  pub has_given : HasGiven old between before left given
  pub falls : FallsShort between left after

-- the body had that fate, and these are its bytes; of one that broke off, those that came before
abbrev pub HasFate : Fate → IntakeState → IntakeState → Option (List ℕ) → Option (List ℕ) → List ℕ → Type 0
HasFate read_whole old new before after body = HasGivenAll old new before after body
HasFate (broken_off why) old new before after body = BreaksIn old before after why body
HasFate unread old new before after body = (body ≡ []) × (new ≡ old) × Consumes before after []

-- so much of a body that is read came: some bytes; all of them; or those before its chunks went wrong
abbrev pub HasComeTo : Option TaskBodyEnd → IntakeState → IntakeState → Option (List ℕ) → Option (List ℕ) → List ℕ → Type 0
HasComeTo None old new before after bytes = HasGiven old new before after bytes
HasComeTo (Some Whole) old new before after bytes = HasGivenAll old new before after bytes
HasComeTo (Some Failed) old new before after bytes = (why : BodyEnd) × BreaksIn old before after why bytes

-- so much of a body of that use came; nothing of one that is left
abbrev pub HasCome : BodyUse → IntakeState → IntakeState → Option (List ℕ) → Option (List ℕ) → Body → Type 0
HasCome Unread old new before after body = HasFate unread old new before after body.bytes × (body.end ≡ None)
HasCome plan old new before after body = HasComeTo body.end old new before after body.bytes

-- what becomes of a body that is not wanted, where it is read
abbrev pub dropped_if : Bool → BodyUse
dropped_if true = Dropped
dropped_if false = Unread

-- the source's count of faults rose where a read failed, and stayed at every other end
pub record ReadsAtFault {T : Type 0} (before now : ℕ) (result : Result T ServeFault) : Type 0 where
  pub rose : result ≡ Err ReadFault → Rose before now
  pub kept : result ≢ Err ReadFault → now ≡ before

-- ---- one call

-- the body ended so behind these bytes: it was given whole; or the input ended inside it; or its chunks went wrong
abbrev pub ReadsTo : IntakeState → IntakeState → Option (List ℕ) → Option (List ℕ) → List ℕ → BodyEnd → Type 0
ReadsTo old new before after given End.Whole = HasGivenAll old new before after given
ReadsTo old new before after given End.Cut = FallsBehind old before after given × IsAtEnd after
ReadsTo old new before after given End.BadChunk = BreaksIn old before after End.BadChunk given
ReadsTo old new before after given End.TooLarge = BreaksIn old before after End.TooLarge given

-- what a call for the next bytes came to: bytes at the front of the buffer, at least one; the end of the body; or a read that
-- failed
abbrev pub GivesPiece : IntakeState → IntakeState → Option (List ℕ) → Option (List ℕ) → List ℕ → Piece → Type 0
GivesPiece old new before after out (Pieces.Bytes n) = HasGiven old new before after (take n out) × (0 < n) × (n ≤ length out)
GivesPiece old new before after out (Pieces.Ended end) = ReadsTo old new before after [] end
GivesPiece old new before after out Pieces.Failed = FailsIn old before after

-- the source's count of faults rose where the read failed, and stayed at every other end
abbrev pub CountsPiece : ℕ → ℕ → Piece → Type 0
CountsPiece before now (Pieces.Bytes n) = now ≡ before
CountsPiece before now (Pieces.Ended end) = now ≡ before
CountsPiece before now Pieces.Failed = Rose before now

-- ---- the rest of a body

-- it was read, to where it ended so
abbrev pub DropsBody : IntakeState → IntakeState → Option (List ℕ) → Option (List ℕ) → BodyEnd → Type 0
DropsBody old new before after end = (given : List ℕ) × ReadsTo old new before after given end

-- a read failed inside the body; nothing else ends it early
abbrev pub LeavesBody : IntakeState → Option (List ℕ) → Option (List ℕ) → ServeFault → Type 0
LeavesBody old before after ReadFault = FailsIn old before after
LeavesBody old before after fault = ⊥
