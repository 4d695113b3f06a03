-- What a fault leaves of a reply.
use Rattle.std.proofs.Common.{◌≡◌, inl, ℕ, Bool, true, false, List, [], ◌++◌, Option, Some, subst}
use Rattle.std.specs.Prelude.{IsSome}
use Rattle.std.proofs.KnownBytes.{Appends-trans}
use Rattle.http_model.specs.declared.reply.ReplyForm.{ReplyForm}
use Rattle.realm_model.specs.Doors.{DoorView}
use Rattle.realm_model.specs.declared.event.Event.{Event}
use Rattle.swift_requests.specs.declared.asked.Asked.{Asked}
use Rattle.task_words.specs.declared.outcome.Outcome.TheVariants.{LateRead}
use Rattle.task_words.specs.declared.reply.MapReply.{MapReply}
use Rattle.call_words.specs.Ends.{TaskEnd, on_object}
use Rattle.call_service.specs.declared.fault.ServeFault.{ServeFault}
use Rattle.call_service.specs.declared.fault.ServeFault.TheVariants as faults
use Rattle.task_words.specs.Outcomes.{Body}
use Rattle.call_service.specs.Serving.{Site, AppendsFront, BearsOutSoFar, IsLateIn}
use Rattle.call_service.specs.Replying.{StopsEvent, Stand, stand, AsksFrom, IsPartly, StopsReply}
use Rattle.request_service.specs.Requests.{HasBytes, MayEnd, EndsSo, ShowsFront}
use Rattle.request_service.specs.Writing.{HasWritten, StopsPiece, StopsEnd, end_text}
use Rattle.request_service.proofs.Writing.{partly, partly_at, written_still, piece_in_part, ended_in_part}

module _ (tells alone : Type 0) (site : Site) (form : ReplyForm) (asked : Asked) (found : List Event) (x : Stand) where
  at_event : (fault : ServeFault) (y : Stand) → StopsEvent tells found fault → AsksFrom tells alone site.settings true x y → IsPartly tells site form asked y.door x.taken y.taken → StopsReply tells alone site form asked found x y fault
  at_event faults.OutOfMemory y stops asks part = ((true, asks), part)
  at_event faults.Worn y stops asks part = (stops, (true, asks), part)
  at_event fault y stops asks part = absurd stops

  -- the event did not come
  pub event_stops : (d e : DoorView) (shown : Option MapReply) (brought whole : List ℕ) (begun : Bool) (fault : ServeFault) (now told : Option (List ℕ)) → StopsEvent tells found fault → AsksFrom tells alone site.settings true x (stand e now told) → (tells → e ≡ d)
      → (tells → (body : Body) → BearsOutSoFar site asked body d) → (tells → (reply : MapReply) → shown ≡ Some reply → ShowsFront site asked reply brought whole d) → HasWritten tells form asked shown brought begun x.taken now → StopsReply tells alone site form asked found x (stand e now told) fault
  event_stops d e shown brought whole begun fault now told stops asks same so_far fronts w =
      at_event fault (stand e now told) stops asks (partly_at tells site form asked d e x.taken now same (partly tells site form asked d shown brought whole begun x.taken now so_far fronts w))

  -- its piece was not written whole
  module _ (shown next : Option MapReply) (brought now_brought piece : List ℕ) (stays : (reply : MapReply) → shown ≡ Some reply → next ≡ Some reply)
      (follows : tells → now_brought ≡ brought ++ piece) (there : IsSome next) (has : (reply : MapReply) → next ≡ Some reply → HasBytes asked reply) where
    pub piece_stops : (e : DoorView) (whole : List ℕ) (begun : Bool) (fault : ServeFault) (mid now told : Option (List ℕ)) → AsksFrom tells alone site.settings false x (stand e now told) → (tells → (body : Body) → BearsOutSoFar site asked body e) → (tells → (reply : MapReply) → next ≡ Some reply → ShowsFront site asked reply now_brought whole e)
        → HasWritten tells form asked shown brought begun x.taken mid → StopsPiece form asked begun next piece mid now fault → StopsReply tells alone site form asked found x (stand e now told) fault
    piece_stops e whole begun faults.OutOfMemory mid now told asks so_far fronts w stops =
        let unbegun = subst (λ b. HasWritten tells form asked shown brought b x.taken mid) stops.0 w in
        ((false, asks), inl (Appends-trans x.taken mid now [] [] unbegun.0 stops.1, so_far))
    piece_stops e whole begun faults.WriteFault mid now told asks so_far fronts w stops =
        (asks, piece_in_part tells site form asked shown next brought now_brought piece stays follows there has e whole begun x.taken mid now fronts w stops)
    piece_stops e whole begun fault mid now told asks so_far fronts w stops = absurd stops

  late_told : (brought : List ℕ) (d : DoorView) (read_at clock : ℕ) (outcome : TaskEnd) → outcome ≡ on_object (LateRead read_at clock) → EndsSo site asked brought d outcome → IsLateIn site asked d read_at clock
  late_told brought d read_at clock outcome is so = subst (EndsSo site asked brought d) is so

  -- the rest of the reply was not written whole
  pub end_stops : (d : DoorView) (shown : Option MapReply) (brought whole : List ℕ) (outcome : TaskEnd) → MayEnd asked shown outcome → (tells → (body : Body) → BearsOutSoFar site asked body d) → (tells → EndsSo site asked brought d outcome) → (tells → (reply : MapReply) → shown ≡ Some reply → ShowsFront site asked reply brought whole d)
      → (begun : Bool) (fault : ServeFault) (mid now told : Option (List ℕ)) → AsksFrom tells alone site.settings false x (stand d now told) → HasWritten tells form asked shown brought begun x.taken mid → StopsEnd form asked begun outcome mid now fault → StopsReply tells alone site form asked found x (stand d now told) fault
  end_stops d shown brought whole outcome may so_far so fronts begun faults.OutOfMemory mid now told asks w stops =
      let unbegun = subst (λ b. HasWritten tells form asked shown brought b x.taken mid) stops.0 w in
      ((false, asks), inl (Appends-trans x.taken mid now [] [] unbegun.0 stops.1, so_far))
  end_stops d shown brought whole outcome may so_far so fronts begun faults.WriteFault mid now told asks w stops =
      let unbegun = subst (λ b. HasWritten tells form asked shown brought b x.taken mid) stops.0 w in
      let front = subst (λ b. AppendsFront mid now (end_text form asked b outcome)) stops.0 stops.2 in
      (asks, ended_in_part tells site form asked d shown brought outcome may so stops.1 x.taken mid now unbegun front)
  end_stops d shown brought whole outcome may so_far so fronts begun (faults.Late read_at clock) mid now told asks w stops =
      (asks, (λ is. late_told brought d read_at clock outcome stops.0 (so is)), partly tells site form asked d shown brought whole begun x.taken now so_far fronts (written_still tells site form asked shown brought begun x.taken mid now w stops.1))
  end_stops d shown brought whole outcome may so_far so fronts begun fault mid now told asks w stops = absurd stops
