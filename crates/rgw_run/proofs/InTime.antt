-- In a run that nobody else's events come into no reply breaks off: no stripe is gone.
use Rattle.std.proofs.Common.{◌≡◌, inl, inr, ℕ, Bool, true, false, List, [], ◌∷◌, Result, Ok, Err, refl, sym, subst}
use Rattle.gw_io.specs.Ends.{EndsState}
use Rattle.http_model.specs.declared.reply.ReplyForm.{ReplyForm}
use Rattle.realm_model.specs.Doors.{DoorView, actor_at}
use Rattle.realm_model.specs.Histories.{Legal}
use Rattle.realm_model.specs.declared.event.Event.{Event}
use Rattle.swift_requests.specs.declared.asked.Asked.{Asked}
use Rattle.swift_requests.specs.declared.asked.Asked.TheVariants.{Put, Unfed}
use Rattle.swift_requests.specs.declared.asked.UnfedCommand.TheVariants.{Get}
use Rattle.swift_requests.specs.declared.body.BodyUse.{BodyUse}
use Rattle.swift_requests.specs.Bodies.{is_awaited}
use Rattle.task_words.specs.declared.asker.Asker.{Asker}
use Rattle.task_words.specs.declared.command.PutCommand.{PutCommand}
use Rattle.call_service.specs.Serving.{Site, Side, side}
use Rattle.call_service.specs.Waiting.{IsPutStopped}
use Rattle.call_service.specs.declared.fault.ServeFault.{ServeFault}
use Rattle.call_service.specs.declared.fault.ServeFault.TheVariants as faults
use Rattle.gateway.specs.Calls.{Place, site_in}
use Rattle.gateway.specs.Requests.{LeavesAsked, LeavesRequest}
use Rattle.gateway.specs.Serving.{LeavesNext, ServesConnection}
use Rattle.gateway.specs.declared.serve.Served.{Served}
use Rattle.once_law.proofs.Missing.{misses_none}
use Rattle.rgw_run.specs.declared.once_end.OnceEnd.{OnceEnd}
use Rattle.rgw_run.specs.Runs.{IsInTime, end_of}

module _ (site : Site) (found : List Event) (read_at clock : ℕ) where
  -- no stripe is read for a PUT, whether its client waits for a 100 or not
  put_in_time : (form : ReplyForm) (waits : Bool) (asker : Asker) (c : PutCommand) (x y : Side) → IsPutStopped waits (Unit {0}) (Unit {0}) site form asker c found x y (faults.Late read_at clock) → ⊥
  put_in_time form false asker c x y stopped = absurd (stopped.0 tt)
  put_in_time form true asker c x y (inl stopped) = absurd (stopped.0 tt)
  put_in_time form true asker c x y (inr (inl (write, front))) = let e : faults.Late read_at clock ≡ faults.WriteFault = write in cc
  put_in_time form true asker c x y (inr (inr behind)) = absurd (behind.goes.0 tt)

  asked_in_time : (asked : Asked) (form : ReplyForm) (plan : BodyUse) (z y : Side) → Legal site.settings y.door.seen
      → LeavesAsked (Unit {0}) (Unit {0}) site form asked plan found z y (faults.Late read_at clock) → ⊥
  asked_in_time (Put asker c) form plan z y legal leaves = put_in_time form (is_awaited plan) asker c (side leaves.0 z.intake z.ends) y leaves.2
  asked_in_time (Unfed asker (Get c)) form plan z y legal leaves =
      let missed = (leaves.2.0 tt).1 in
      misses_none site.settings y.door.seen (actor_at y.door) (missed.begins.look ∷ missed.head ∷ missed.tails) [] missed.last clock legal missed.begins.stands missed.missed
  asked_in_time (Unfed asker u) form plan z y legal leaves = absurd (leaves.2.0 tt)
  asked_in_time asked form plan z y legal leaves = absurd leaves.0

  request_in_time : (asked : Asked) (form : ReplyForm) (plan : BodyUse) (z y : Side) → Legal site.settings y.door.seen
      → LeavesRequest (Unit {0}) (Unit {0}) site form asked plan found z y (faults.Late read_at clock) → ⊥
  request_in_time asked form plan z y legal (inl memory) = let e : faults.Late read_at clock ≡ faults.OutOfMemory = memory.0 in cc
  request_in_time asked form plan z y legal (inr leaves) = asked_in_time asked form plan z y legal leaves

module _ (place : Place) (found : List Event) (read_at clock : ℕ) where
  next_in_time : (k : ℕ) (x y : Side) → Legal place.settings y.door.seen → LeavesNext (Unit {0}) (Unit {0}) place k found x y (faults.Late read_at clock) → ⊥
  next_in_time k x y legal (inl head) = absurd head
  next_in_time k x y legal (inr begun) = request_in_time (site_in place) found read_at clock _ _ _ begun.1 y legal begun.3

  never_late : (d e : DoorView) (old new : EndsState) → ServesConnection (Unit {0}) (Unit {0}) place found d e old new (Err (faults.Late read_at clock)) → ⊥
  never_late d e old new serves =
      let stops = (serves.left (faults.Late read_at clock) refl).1 in
      next_in_time _ _ _ (stops.settled tt).advances.may_begin.legal stops.left

served_in_time : (place : Place) (found : List Event) (d e : DoorView) (old new : EndsState) (result : Result Served ServeFault) → ServesConnection (Unit {0}) (Unit {0}) place found d e old new result → IsInTime (end_of result)
served_in_time place found d e old new (Ok served) serves = tt
served_in_time place found d e old new (Err (faults.Late read_at clock)) serves = never_late place found read_at clock d e old new serves
served_in_time place found d e old new (Err fault) serves = tt

-- whatever a connection came to
pub in_time : (place : Place) (found : List Event) (d e : DoorView) (old new : EndsState) (result : Result Served ServeFault) (end : OnceEnd) → end ≡ end_of result
    → ServesConnection (Unit {0}) (Unit {0}) place found d e old new result → IsInTime end
in_time place found d e old new result end is serves = subst IsInTime (sym is) (served_in_time place found d e old new result serves)
