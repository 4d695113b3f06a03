-- What serving the requests of a connection comes to, from the kth of them on: the reply texts of calls that the one history of
-- the realm bears out (OpenStack Object Storage API v1; RFC 9112).
use Rattle.std.specs.Prelude.{◌≡◌, ◌⊎◌, ℕ, ◌+◌, Bool, false, List, [], ◌++◌, length, ⊤, Option, Result, Err, IfOk}
use Rattle.std.specs.Io.KnownBytes.{IsAtEnd, Consumes, Appends}
use Rattle.gw_io.specs.Ends.{EndsState}
use Rattle.http_intake.specs.Intake.{IntakeState, fresh}
use Rattle.http_model.specs.declared.head.Head.{Head}
use Rattle.http_model.specs.declared.reply.BadRequest.{BadRequest}
use Rattle.http_model.specs.Heads.{BeginsWith}
use Rattle.http_model.specs.Replies.{bad_request_text}
use Rattle.http_model.specs.Streams.{IsCutHead, BreaksGrammar}
use Rattle.realm_model.specs.Doors.{DoorView}
use Rattle.realm_model.specs.Owns.{own_events}
use Rattle.realm_model.specs.declared.event.Event.{Event}
use Rattle.realm_door.specs.Steps.{next_count, actor_of_pass}
use Rattle.swift_requests.specs.Asks.{asked_of}
use Rattle.swift_requests.specs.Bodies.{is_unread}
use Rattle.call_words.specs.Calls.{Call}
use Rattle.call_words.specs.Requests.{requests_of, AreAsked}
use Rattle.call_words.specs.Streams.{use_of, CallsEnd, at_clean, at_close, at_cut, at_bad, Taken, IsStreamFrom, IsFrontFrom}
use Rattle.call_service.specs.Bodies.{FallsBehind}
use Rattle.call_service.specs.Serving.{Side, side, AppendsFront, body_of, HasServeCause}
use Rattle.door_moments.specs.Acts.{own_moments}
use Rattle.call_service.specs.declared.fault.ServeFault.{ServeFault}
use Rattle.call_service.specs.declared.fault.ServeFault.TheVariants as faults
use Rattle.gateway.specs.declared.serve.ConnEnd.{ConnEnd}
use Rattle.gateway.specs.declared.serve.Served.{Served}
use Rattle.gateway.specs.Moments.{AreTold}
use Rattle.gateway.specs.Texts.{form_before, texts_from, place_after, closing, end_text, end_replies, connection_end}
use Rattle.gateway.specs.Calls.{Place, site_in, DoesSoFar, Advances, AreSettled}
use Rattle.gateway.specs.Requests.{IsBehindHead, IsIdle, IsLetIn, LeavesRequest}

-- ---- ends

-- where the requests end with the input, the input was read to its end
abbrev pub ReadsOut : CallsEnd → Option (List ℕ) → Type 0
ReadsOut at_clean left = IsAtEnd left
ReadsOut at_close left = ⊤
ReadsOut (at_cut continued) left = IsAtEnd left
ReadsOut (at_bad word bodiless) left = ⊤

-- the requests end there only if the input does
abbrev pub IsOpen : CallsEnd → Type 0
IsOpen at_clean = ⊤
IsOpen at_close = ⊥
IsOpen (at_cut continued) = ⊤
IsOpen (at_bad word bodiless) = ⊥

-- no moment was told behind the calls, and no actor began
abbrev pub IsDone : Type 0 → DoorView → ℕ → List ℕ → Type 0
IsDone tells e last later = (later ≡ []) × (tells → next_count e ≡ last)

-- what was told behind the calls: only a request that was cut off has an actor of its own, the moments of whose events were told
abbrev pub IsTidy : Type 0 → DoorView → ℕ → ℕ → List ℕ → CallsEnd → Type 0
IsTidy tells e pass last later at_clean = IsDone tells e last later
IsTidy tells e pass last later at_close = IsDone tells e last later
IsTidy tells e pass last later (at_cut continued) = tells → later ≡ own_moments e.seen (actor_of_pass pass last)
IsTidy tells e pass last later (at_bad word bodiless) = IsDone tells e last later

-- ---- where the requests break off

-- the input ended inside the body of this request, or a read failed there: the actor behind the calls does what it asks so far,
-- and a row that it read first let a body in that is waited for
pub record EndsInside (tells : Type 0) (place : Place) (e : DoorView) (pass last : ℕ) (rest : List ℕ) (left : Option (List ℕ)) : Type 0 where
  pub head : Head
  pub after : List ℕ
  pub begins : BeginsWith rest head after
  pub is_read : is_unread (use_of place.settings.largest place.users head) ≡ false
  pub intake : IntakeState
  pub before : Option (List ℕ)
  pub behind : IsBehindHead place.settings.largest intake head
  pub given : List ℕ
  pub falls : FallsBehind intake before left given
  pub is_after : after ≡ intake.buffer ++ (falls.has_given.more ++ falls.falls.more)
  pub so_far : tells → DoesSoFar (site_in place) (asked_of place.settings.largest place.users head) (body_of given) pass last e.seen
  pub let_in : tells → IsLetIn (site_in place) (asked_of place.settings.largest place.users head) (use_of place.settings.largest place.users head) pass last e.seen

-- or inside a head, and no actor did anything for it
abbrev pub EndsAmid : Type 0 → Place → DoorView → ℕ → ℕ → List ℕ → Option (List ℕ) → Type 0
EndsAmid tells place e pass last rest left =
    (IsCutHead rest × (tells → own_events e.seen (actor_of_pass pass last) ≡ [])) ⊎ EndsInside tells place e pass last rest left

-- what is left behind the requests that were replied, the first of which is the kth of its connection, where the last one is not
-- there whole
abbrev pub BreaksOff : Type 0 → Place → ℕ → List ℕ → List Taken → DoorView → ℕ → ℕ → Option (List ℕ) → CallsEnd → Type 0
BreaksOff tells place k bytes requests e pass last left (at_cut continued) =
    (rest : List ℕ) × IsFrontFrom place.settings.largest place.users k bytes requests rest × EndsAmid tells place e pass last rest left
BreaksOff tells place k bytes requests e pass last left end = Unit {0}

-- ---- served to an end

-- What waited and what was read are the requests of these calls and that end; what was written are the texts of their replies;
-- each moment was told for an event, or for the end of a body; and the history bears the replies out.
pub record RepliesTo (tells alone : Type 0) (place : Place) (k : ℕ) (buffer : List ℕ) (d e : DoorView) (old new : EndsState) (calls : List Call) (stream_end : CallsEnd) : Type 0 where
  pub read : List ℕ
  pub consumed : Consumes old.left new.left read
  pub asked : AreAsked place.settings.largest place.users calls
  pub stream : IsStreamFrom place.settings.largest place.users k (buffer ++ read) (requests_of calls) stream_end
  pub written : Appends old.taken new.taken (texts_from k calls ++ end_text stream_end)
  pub last : ℕ
  pub moments : List ℕ
  pub later : List ℕ
  pub asked_clock : Appends old.told new.told moments
  pub told : AreTold tells e.seen d.pass calls moments later
  pub tidy : IsTidy tells e d.pass last later stream_end
  pub amid : BreaksOff tells place k (buffer ++ read) (requests_of calls) e d.pass last new.left stream_end
  pub settled : tells → AreSettled alone (site_in place) d e calls last

-- the requests were served to their end
pub record ServesFrom (tells alone : Type 0) (place : Place) (k : ℕ) (buffer : List ℕ) (d e : DoorView) (old new : EndsState) (replies : ℕ) (ended_so : ConnEnd) : Type 0 where
  pub calls : List Call
  pub stream_end : CallsEnd
  pub replied : RepliesTo tells alone place k buffer d e old new calls stream_end
  pub read_out : ReadsOut stream_end new.left
  pub counted : replies ≡ length calls + end_replies stream_end
  pub ended : ended_so ≡ connection_end calls stream_end

-- ---- left at a fault

-- A read failed: all is as if the input ended there.
pub record FailsReading (tells alone : Type 0) (place : Place) (k : ℕ) (buffer : List ℕ) (d e : DoorView) (old new : EndsState) : Type 0 where
  pub calls : List Call
  pub stream_end : CallsEnd
  pub replied : RepliesTo tells alone place k buffer d e old new calls stream_end
  pub waits : IsOpen stream_end

-- the next head was read, and nothing behind it
pub record ReadsHead (largest : ℕ) (x z : Side) (head : Head) : Type 0 where
  pub more : List ℕ
  pub read : Consumes x.ends.left z.ends.left more
  pub begins : BeginsWith (x.intake.buffer ++ more) head z.intake.buffer
  pub behind : IsBehindHead largest z.intake head
  pub door : z.door ≡ x.door
  pub taken : z.ends.taken ≡ x.ends.taken
  pub told : z.ends.told ≡ x.ends.told

-- no request was begun: no head was read, or the 400 for what is none was not written whole
abbrev pub LeavesHead : Side → Side → ServeFault → Type 0
LeavesHead x y faults.OutOfMemory =
    (more : List ℕ) × Consumes x.ends.left y.ends.left more × IsIdle x y × Appends x.ends.taken y.ends.taken []
LeavesHead x y faults.WriteFault =
    (more : List ℕ) × Consumes x.ends.left y.ends.left more × IsIdle x y
    × (word : BadRequest) × (bodiless : Bool) × BreaksGrammar (x.intake.buffer ++ more) word bodiless
    × AppendsFront x.ends.taken y.ends.taken (bad_request_text (closing bodiless) word)
LeavesHead x y faults.ReadFault = ⊥
LeavesHead x y faults.Worn = ⊥
LeavesHead x y (faults.Late read_at clock) = ⊥

-- at most one request was begun, the kth of its connection
abbrev pub LeavesNext : Type 0 → Type 0 → Place → ℕ → List Event → Side → Side → ServeFault → Type 0
LeavesNext tells alone place k found x y fault =
    LeavesHead x y fault
    ⊎ ((head : Head) × (z : Side) × ReadsHead place.settings.largest x z head
    × LeavesRequest tells alone (site_in place) (form_before place.settings.largest place.users k head) (asked_of place.settings.largest place.users head) (use_of place.settings.largest place.users head) found z y fault)

-- Some requests were replied whole, and behind them at most one was begun. The history bears the replies out, also where it
-- grew since.
pub record StopsFrom (tells alone : Type 0) (place : Place) (k : ℕ) (found : List Event) (x y : Side) (fault : ServeFault) : Type 0 where
  pub calls : List Call
  pub between : Side
  pub read : List ℕ
  pub consumed : Consumes x.ends.left between.ends.left read
  pub asked : AreAsked place.settings.largest place.users calls
  pub front : IsFrontFrom place.settings.largest place.users k (x.intake.buffer ++ read) (requests_of calls) between.intake.buffer
  pub written : Appends x.ends.taken between.ends.taken (texts_from k calls)
  pub moments : List ℕ
  pub asked_clock : Appends x.ends.told between.ends.told moments
  pub told : AreTold tells y.door.seen x.door.pass calls moments []
  pub reached : tells → Advances place.settings x.door between.door
  pub settled : tells → AreSettled alone (site_in place) x.door y.door calls (next_count between.door)
  pub left : LeavesNext tells alone place (place_after k calls) found between y fault

-- what a fault leaves
abbrev pub LeavesAt : Type 0 → Type 0 → Place → ℕ → List Event → Side → Side → ServeFault → Type 0
LeavesAt tells alone place k found x y faults.ReadFault = FailsReading tells alone place k x.intake.buffer x.door y.door x.ends y.ends
LeavesAt tells alone place k found x y faults.OutOfMemory = StopsFrom tells alone place k found x y faults.OutOfMemory
LeavesAt tells alone place k found x y faults.WriteFault = StopsFrom tells alone place k found x y faults.WriteFault
LeavesAt tells alone place k found x y faults.Worn = StopsFrom tells alone place k found x y faults.Worn
LeavesAt tells alone place k found x y (faults.Late read_at clock) = StopsFrom tells alone place k found x y (faults.Late read_at clock)

-- ---- a whole connection

-- a connection of which no byte waited was served to its end
abbrev pub IsServed : Type 0 → Type 0 → Place → DoorView → DoorView → EndsState → EndsState → Served → Type 0
IsServed tells alone place d e old new served = ServesFrom tells alone place 1 [] d e old new served.requests served.end

-- or left at a fault
abbrev pub IsLeft : Type 0 → Type 0 → Place → List Event → DoorView → DoorView → EndsState → EndsState → ServeFault → Type 0
IsLeft tells alone place found d e old new fault =
    (intake : IntakeState) × LeavesAt tells alone place 1 found (side d (fresh place.settings.largest) old) (side e intake new) fault

-- what serving a connection comes to, where the door's last step found this history
pub record ServesConnection (tells alone : Type 0) (place : Place) (found : List Event) (d e : DoorView) (old new : EndsState) (result : Result Served ServeFault) : Type 0 where
  pub served : IfOk result (IsServed tells alone place d e old new)
  pub left : (fault : ServeFault) → result ≡ Err fault → IsLeft tells alone place found d e old new fault
  pub cause : HasServeCause old new result
