-- A whole connection, from its turns.
use Rattle.std.proofs.Common.{◌≡◌, ℕ, suc, ◌+◌, ◌<◌, Bool, true, false, ◌||◌, ◌==◌, List, [], Ok, Err, Result, inl, refl, sym, subst, add-one, arith}
use Rattle.std.specs.Prelude.{nat_le}
use Rattle.std.proofs.lemmas.Bool.Decides.{nat_tests}
use Rattle.std.proofs.KnownBytes.{Consumes-nil, Appends-nil}
use Rattle.gw_io.specs.Ends.{EndsState}
use Rattle.http_intake.specs.Intake.{fresh}
use Rattle.http_model.specs.declared.head.Head.{Head}
use Rattle.http_model.specs.declared.head.TheConstants.{REQUEST_LIMIT}
use Rattle.http_model.specs.Forms.{wants_close}
use Rattle.realm_model.specs.Doors.{DoorView}
use Rattle.realm_model.specs.declared.event.Event.{Event}
use Rattle.swift_requests.specs.Bodies.{closes}
use Rattle.call_service.specs.Serving.{Side, side, HasServeCause}
use Rattle.call_service.specs.declared.fault.ServeFault.{ServeFault}
use Rattle.call_service.specs.declared.fault.ServeFault.TheVariants as faults
use Rattle.gateway.specs.declared.serve.ConnEnd.{ConnEnd}
use Rattle.gateway.specs.declared.serve.Served.{Served}
use Rattle.gateway.specs.Calls.{Place, site_in, MayBegin}
use Rattle.gateway.specs.Serving.{ServesFrom, LeavesAt, IsLeft, ServesConnection}
use Rattle.gateway.specs.Turns.{GoesOn}
use Rattle.gateway.proofs.Causes.{later_cause, good_cause, fault_cause}
use Rattle.gateway.proofs.Growing.{advances_none}
use Rattle.gateway.proofs.Turning.{none_settled, same_left}
use Rattle.gateway.proofs.Prefixing.{goes_serves, goes_leaves}

neither : (a b : Bool) → (a || b) ≡ false → b ≡ false
neither true b e = absurd (cc)
neither false b e = e

below : (k : ℕ) → nat_le REQUEST_LIMIT k ≡ false → k < REQUEST_LIMIT
below k e = grind (arith, nat_tests)

-- a connection that goes on has had fewer requests than it may have
pub goes_below : (k : ℕ) (head : Head) (left : Bool) → closes k head left ≡ false → k < REQUEST_LIMIT
unfolding closes
goes_below k head left e =
    below k (neither (wants_close head) (nat_le REQUEST_LIMIT k)
    (neither (head.minor == 0) _ (neither left _ e)))

-- what is Ok is no fault
pub ok_no_fault : {T : Type 0} (value : T) (fault : ServeFault) → ◌≡◌ {A = Result T ServeFault} (Ok value) (Err fault) → ⊥
ok_no_fault value fault e = cc

-- no count of faults rose so far, and the clock kept its plan
pub record IsQuiet (old now : EndsState) : Type 0 where
  pub plan : now.plan ≡ old.plan
  pub read_faults : now.read_faults ≡ old.read_faults
  pub write_faults : now.write_faults ≡ old.write_faults

module _ (tells alone : Type 0) (place : Place) where
  -- so many requests were served, and what follows completes them
  pub record HasServed (done : ℕ) (start now : Side) : Type 0 where
    pub serves : (e : DoorView) (new : EndsState) (replies : ℕ) (end_is : ConnEnd) → ServesFrom tells alone place (done + 1) now.intake.buffer now.door e now.ends new replies end_is
        → ServesFrom tells alone place 1 start.intake.buffer start.door e start.ends new (done + replies) end_is
    pub leaves : (found : List Event) (y : Side) (fault : ServeFault) → LeavesAt tells alone place (done + 1) found now y fault → LeavesAt tells alone place 1 found start y fault

  pub none_served : (start : Side) → HasServed 0 start start
  none_served start = record {
    serves = λ e new replies end_is x. subst (λ n. ServesFrom tells alone place 1 start.intake.buffer start.door e start.ends new n end_is) (omega arith) x;
    leaves = λ found y fault x. x;
  }

  pub one_more_served : (done : ℕ) (start now next : Side) → HasServed done start now
      → GoesOn tells alone place (done + 1) now.intake.buffer next.intake.buffer now.door next.door now.ends next.ends → HasServed (done + 1) start next
  one_more_served done start now next h g = record {
    serves = λ e new replies end_is x.
        subst (λ n. ServesFrom tells alone place 1 start.intake.buffer start.door e start.ends new n end_is) (omega arith)
        (h.serves e new (suc replies) end_is
        (goes_serves tells alone place (done + 1) now next g e new replies end_is
        (subst (λ k. ServesFrom tells alone place k next.intake.buffer next.door e next.ends new replies end_is) (add-one (done + 1)) x)));
    leaves = λ found y fault x.
        h.leaves found y fault (goes_leaves tells alone place (done + 1) now next g found y fault (subst (λ k. LeavesAt tells alone place k found next y fault) (add-one (done + 1)) x));
  }

  module _ (done : ℕ) (start now y : Side) (found : List Event) (so_far : HasServed done start now) (quiet : IsQuiet start.ends now.ends)
      (unread : start ≡ side start.door (fresh place.settings.largest) start.ends) where
    left_at : (fault : ServeFault) → LeavesAt tells alone place (done + 1) found now y fault → (other : ServeFault) → ◌≡◌ {A = Result Served ServeFault} (Err fault) (Err other)
        → IsLeft tells alone place found start.door y.door start.ends y.ends other
    left_at fault x other e =
        let is : fault ≡ other = cc in
        subst (IsLeft tells alone place found start.door y.door start.ends y.ends) is
        (y.intake, subst (λ (s : Side). LeavesAt tells alone place 1 found s y fault) unread (so_far.leaves found y fault x))

    pub served_to_fault : {T : Type 0} (fault : ServeFault) → LeavesAt tells alone place (done + 1) found now y fault → HasServeCause {T = T} now.ends y.ends (Err fault)
        → ServesConnection tells alone place found start.door y.door start.ends y.ends (Err fault)
    served_to_fault fault x cause = record {
      served = tt;
      left = left_at fault x;
      cause = later_cause start.ends now.ends y.ends (Err fault) quiet.plan quiet.read_faults quiet.write_faults (fault_cause now.ends y.ends fault cause);
    }

    pub served_to_end : {T : Type 0} (value : T) (replies : ℕ) (end_is : ConnEnd) → ServesFrom tells alone place (done + 1) now.intake.buffer now.door y.door now.ends y.ends replies end_is
        → HasServeCause now.ends y.ends (Ok value)
        → ServesConnection tells alone place found start.door y.door start.ends y.ends (Ok (record { requests = done + replies; end = end_is }))
    served_to_end value replies end_is x cause = record {
      served = subst (λ (s : Side). ServesFrom tells alone place 1 s.intake.buffer start.door y.door start.ends y.ends (done + replies) end_is) unread
          (so_far.serves y.door y.ends replies end_is x);
      left = λ fault e. absurd (cc);
      cause = later_cause start.ends now.ends y.ends (Ok (record { requests = done + replies; end = end_is })) quiet.plan quiet.read_faults quiet.write_faults (good_cause now.ends y.ends value _ cause);
    }

  -- a connection that is left before anything was read
  at_once : (found : List Event) (d : DoorView) (now : EndsState) → (tells → MayBegin place.settings d) → IsLeft tells alone place found d d now now faults.OutOfMemory
  at_once found d now may = (
    fresh place.settings.largest,
    record {
      calls = [];
      between = side d (fresh place.settings.largest) now;
      read = [];
      consumed = Consumes-nil now.left;
      asked = tt;
      front = refl;
      written = Appends-nil now.taken;
      moments = [];
      asked_clock = Appends-nil now.told;
      told = refl;
      reached = λ is. advances_none place.settings d (may is);
      settled = λ is. none_settled alone (site_in place) d d (same_left alone (site_in place) d d (may is) refl);
      left = inl ([], Consumes-nil now.left, record { door = refl; untold = Appends-nil now.told }, Appends-nil now.taken);
    },
  )

  pub nothing_served : (found : List Event) (d : DoorView) (now : EndsState) (fault : ServeFault) → (tells → MayBegin place.settings d) → fault ≡ faults.OutOfMemory
      → ServesConnection tells alone place found d d now now (Err fault)
  nothing_served found d now fault may is =
      subst (λ f. ServesConnection tells alone place found d d now now (Err f)) (sym is) (record {
        served = tt;
        left = λ other e.
            let same : faults.OutOfMemory ≡ other = cc in
            subst (IsLeft tells alone place found d d now now) same (at_once found d now may);
        cause = record {
          plan = refl;
          read_rose = λ e. absurd (cc);
          read_kept = λ other. refl;
          write_rose = λ e. absurd (cc);
          write_kept = λ other. refl;
        };
      })
