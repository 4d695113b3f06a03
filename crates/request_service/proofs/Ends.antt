-- Where a request is served, and tasks without a fault.
use Rattle.std.proofs.Common.{◌≡◌, Option, None, sym, subst}
use Rattle.realm_door.specs.Waiting.{UnlessFaulted}
use Rattle.realm_model.specs.Doors.{DoorView}
use Rattle.realm_model.specs.Settings.{SettingsView}
use Rattle.swift_requests.specs.declared.asked.Asked.{Asked}
use Rattle.turn_cell.specs.declared.machine.DoorFault.{DoorFault}
use Rattle.door_moments.specs.Acts.{IsUpTo}
use Rattle.call_service.specs.Serving.{Site}
use Rattle.request_service.specs.Requests.{Question, site_of}

-- what holds under the same settings, of the same command, holds
pub at_site : {Command : Type 0} (question : Command → Question) (Holds : Site → Asked → Type 0) (settings now : SettingsView) (k l : Command) → now ≡ settings → l ≡ k
    → Holds (site_of now (question l)) (question l).asked → Holds (site_of settings (question k)) (question k).asked
at_site question Holds settings now k l same command holds =
    subst (λ s. Holds (site_of s (question k)) (question k).asked) same
    (subst (λ k. Holds (site_of now (question k)) (question k).asked) command holds)

pub unfaulted : (fault : Option DoorFault) (Stands : Type 0) → fault ≡ None → Stands → UnlessFaulted fault Stands
unfaulted fault Stands sound stands = subst (λ f. UnlessFaulted f Stands) (sym sound) stands

pub stands_so : (fault : Option DoorFault) (Stands : Type 0) → fault ≡ None → UnlessFaulted fault Stands → Stands
stands_so fault Stands sound stands = subst (λ f. UnlessFaulted f Stands) sound stands

-- behind an event a task without a fault stands where its events bring it
pub up_after : {Task : Type 0} (fits : Task → SettingsView → DoorView → Type 0) (tells : Type 0) (settings now : SettingsView) (fault : Option DoorFault) (u : Task) (e : DoorView) → now ≡ settings → fault ≡ None
    → IsUpTo (λ u settings e. UnlessFaulted fault (fits u settings e)) tells now u e → IsUpTo fits tells settings u e
up_after fits tells settings now fault u e same sound up =
    subst (λ (s : SettingsView). IsUpTo fits tells s u e) same (λ is. ((up is).0, stands_so fault (fits u now e) sound (up is).1))
