-- A door is ready for a connection and for a round of jobs: at first, and behind each one.
use Rattle.std.proofs.Common.{◌≡◌, ℕ, false, [], List, refl, sym, subst, arith}
use Rattle.std.specs.Prelude.{Ok, Err, Result}
use Rattle.admin_api.specs.Jobs.{IsNew}
use Rattle.call_service.specs.declared.fault.ServeFault.{ServeFault}
use Rattle.call_service.specs.declared.fault.ServeFault.TheVariants as faults
use Rattle.door_moments.specs.Acts.{Acts}
use Rattle.gateway.proofs.Growing.{new_actor, advances_none, advances_both, advances_one}
use Rattle.gateway.specs.Calls.{Place, Advances, MayBegin}
use Rattle.gateway.specs.Serving.{IsLeft, ServesConnection}
use Rattle.gateway.specs.declared.serve.Served.{Served}
use Rattle.gw_io.specs.Ends.{EndsState}
use Rattle.realm_door.specs.Steps.{begun}
use Rattle.realm_model.specs.Doors.{DoorView}
use Rattle.realm_model.specs.Settings.{SettingsView}
use Rattle.realm_model.specs.declared.event.Event.{Event}

-- ---- behind a connection

left_advances : (tells alone : Type 0) (place : Place) (found : List Event) (d e : DoorView) (old new : EndsState) (fault : ServeFault)
    → IsLeft tells alone place found d e old new fault → tells → Advances place.settings d e
left_advances tells alone place found d e old new faults.ReadFault left t = (left.1.replied.settled t).advances
left_advances tells alone place found d e old new faults.OutOfMemory left t = (left.1.settled t).advances
left_advances tells alone place found d e old new faults.WriteFault left t = (left.1.settled t).advances
left_advances tells alone place found d e old new faults.Worn left t = (left.1.settled t).advances
left_advances tells alone place found d e old new (faults.Late read_at clock) left t = (left.1.settled t).advances

-- the pass went on, whatever the connection came to
pub advances_behind : (tells alone : Type 0) (place : Place) (found : List Event) (d e : DoorView) (old new : EndsState) (result : Result Served ServeFault)
    → ServesConnection tells alone place found d e old new result → tells → Advances place.settings d e
advances_behind tells alone place found d e old new (Ok served) serves t = (serves.served.replied.settled t).advances
advances_behind tells alone place found d e old new (Err fault) serves t = left_advances tells alone place found d e old new fault (serves.left fault refl) t

-- ---- a round of jobs

pub job_is_new : (tells : Type 0) (settings now : SettingsView) (d e : DoorView) → (tells → MayBegin settings d) → now ≡ settings → (tells → e ≡ begun d) → tells → IsNew now e
job_is_new tells settings now d e ready same begins t =
    let new = new_actor settings d (ready t) in
    let there : IsNew settings (begun d) = record { legal = new.legal; account = new.account; events = new.events } in
    subst (λ (s : SettingsView). IsNew s e) (sym same) (subst (IsNew settings) (sym (begins t)) there)

pub advances_by_job : (alone : Type 0) (settings : SettingsView) (d e : DoorView) (moments : List ℕ) → MayBegin settings d → Acts alone settings (begun d) e moments → Advances settings d e
advances_by_job alone settings d e moments may acts = advances_one settings d e may acts.legal acts.grows

-- ---- one after another

pub nothing_yet : (tells : Type 0) (settings : SettingsView) (d : DoorView) → (tells → MayBegin settings d) → tells → Advances settings d d
nothing_yet tells settings d ready t = advances_none settings d (ready t)

pub one_more : (tells : Type 0) (settings : SettingsView) (d e f : DoorView) → (tells → Advances settings d e) → (tells → Advances settings e f) → tells → Advances settings d f
one_more tells settings d e f before next t = advances_both settings d e f (before t) (next t)

-- ---- at first

-- a door that has seen no event, and whose actor is the first of its pass
at_first : (settings : SettingsView) (pass : ℕ) → MayBegin settings (record { pass = pass; count = 0; used = false; seen = [] })
at_first settings pass = record {
  legal = tt;
  counted = record { few = omega arith; room = omega arith };
  unused = λ count later. refl;
}

pub ready_at_first : (settings : SettingsView) (pass : ℕ) (seen : List Event) → seen ≡ []
    → MayBegin settings (record { pass = pass; count = 0; used = false; seen = seen })
ready_at_first settings pass seen none =
    subst (λ (s : List Event). MayBegin settings (record { pass = pass; count = 0; used = false; seen = s })) (sym none) (at_first settings pass)
