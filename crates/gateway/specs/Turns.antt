-- What one turn of a connection comes to.
use Rattle.std.specs.Prelude.{◌≡◌, ◌≢◌, ℕ, ◌≤◌, Bool, false, List, [], ◌++◌, Option, Some, None, ⊤, Result, Ok, Err, IfOk}
use Rattle.std.specs.Io.KnownBytes.{Consumes, Appends}
use Rattle.http_intake.specs.declared.fault.IntakeFault.{IntakeFault}
use Rattle.http_intake.specs.declared.fault.IntakeFault.TheVariants as intake
use Rattle.http_model.specs.declared.reply.BadRequest.{BadRequest}
use Rattle.http_model.specs.declared.reply.BadRequest.TheVariants as Word
use Rattle.http_model.specs.Replies.{bad_request_text}
use Rattle.gw_io.specs.Ends.{EndsState}
use Rattle.realm_model.specs.Doors.{DoorView}
use Rattle.realm_model.specs.declared.event.Event.{Event}
use Rattle.swift_requests.specs.Asks.{asked_of}
use Rattle.call_words.specs.Calls.{Call}
use Rattle.call_words.specs.Requests.{taken_of}
use Rattle.call_words.specs.Streams.{form_of, CallsEnd, at_cut, at_bad, TakesCall}
use Rattle.call_service.specs.Serving.{Side, Around, AppendsFront, HasServeCause}
use Rattle.call_service.specs.declared.fault.ServeFault.{ServeFault}
use Rattle.call_service.specs.declared.fault.ServeFault.TheVariants as faults
use Rattle.gateway.specs.Calls.{Place, site_in}
use Rattle.gateway.specs.declared.turn.Turn.{Turn}
use Rattle.gateway.specs.declared.turn.Turn.TheVariants.{Further, Over}
use Rattle.gateway.specs.Requests.{IsReady, IsAnswered}
use Rattle.gateway.specs.Texts.{closing, end_text, end_replies, connection_end}
use Rattle.gateway.specs.Serving.{ServesFrom, LeavesAt}

-- one request was taken from the bytes and replied
pub record TakesReply (tells alone : Type 0) (place : Place) (k : ℕ) (buffer left : List ℕ) (d e : DoorView) (old new : EndsState) (call : Call) : Type 0 where
  pub read : List ℕ
  pub consumed : Consumes old.left new.left read
  pub asked : call.asked ≡ asked_of place.settings.largest place.users call.request.head
  pub takes : TakesCall place.settings.largest place.users (buffer ++ read) (taken_of call) left
  pub answered : IsAnswered tells alone (site_in place) (form_of k call.request.head call.fate) d e old.taken new.taken old.told new.told call

-- and the connection goes on
pub record GoesOn (tells alone : Type 0) (place : Place) (k : ℕ) (buffer left : List ℕ) (d e : DoorView) (old new : EndsState) : Type 0 where
  pub call : Call
  pub replied : TakesReply tells alone place k buffer left d e old new call
  pub stays_open : (form_of k call.request.head call.fate).close ≡ false

abbrev pub ComesTo : Type 0 → Type 0 → Place → ℕ → List Event → Side → Side → Result Turn ServeFault → Type 0
ComesTo tells alone place k found x y (Ok Further) = GoesOn tells alone place k x.intake.buffer y.intake.buffer x.door y.door x.ends y.ends × IsReady place.settings.largest y.intake
ComesTo tells alone place k found x y (Ok (Over replies end)) = ServesFrom tells alone place k x.intake.buffer x.door y.door x.ends y.ends replies end
ComesTo tells alone place k found x y (Err fault) = LeavesAt tells alone place k found x y fault

-- the door's settings and home, how long the buffer for pieces is, and the borrows that the connection is made of stay
pub record KeepsPlace (old new : Around) : Type 0 where
  pub settings : new.settings ≡ old.settings
  pub home : new.home ≡ old.home
  pub kept : new.buffer ≡ old.buffer
  pub names : new.names ≡ old.names

-- a turn writes one reply at most
abbrev pub WritesFew : Turn → Type 0
WritesFew Further = ⊤
WritesFew (Over replies end) = replies ≤ 1

pub record TakesTurn (tells alone : Type 0) (place : Place) (k : ℕ) (found : List Event) (x y : Side) (result : Result Turn ServeFault) : Type 0 where
  pub turn : ComesTo tells alone place k found x y result
  pub few : IfOk result WritesFew
  pub cause : HasServeCause x.ends y.ends result

-- ---- heads that were not read

-- the causes for which a head is not read
abbrev pub EndsHeads : IntakeFault → Type 0
EndsHeads intake.BadChunk = ⊥
EndsHeads intake.BodyTooLarge = ⊥
EndsHeads fault = ⊤

-- how the requests end for such a cause; none where it is a fault of the connection
abbrev pub end_for : IntakeFault → Option CallsEnd
end_for intake.Cut = Some (at_cut false)
end_for intake.BadHead = Some (at_bad Word.Head false)
end_for intake.HeadTooLarge = Some (at_bad Word.Size false)
end_for (intake.BadFraming bodiless) = Some (at_bad Word.Framing bodiless)
end_for fault = None

-- the text for that end was written, and with it the connection is over
abbrev pub EndsSo : Option (List ℕ) → Option (List ℕ) → IntakeFault → Turn → Type 0
EndsSo taken taken' fault turn =
    (end : CallsEnd) × (end_for fault ≡ Some end) × (turn ≡ Over (end_replies end) (connection_end [] end))
    × Appends taken taken' (end_text end)

-- or it was not: memory was wanting, or a read or a write failed
abbrev pub LeavesSo : Option (List ℕ) → Option (List ℕ) → IntakeFault → ServeFault → Type 0
LeavesSo taken taken' fault faults.ReadFault = (fault ≡ intake.ReadFault) × Appends taken taken' []
LeavesSo taken taken' fault faults.OutOfMemory = (fault ≢ intake.ReadFault) × Appends taken taken' []
LeavesSo taken taken' fault faults.WriteFault =
    (word : BadRequest) × (bodiless : Bool) × (end_for fault ≡ Some (at_bad word bodiless))
    × AppendsFront taken taken' (bad_request_text (closing bodiless) word)
LeavesSo taken taken' fault other = ⊥
