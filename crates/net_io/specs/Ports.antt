-- What ports and nets are at a moment, and what their calls leave.
use Rattle.std.specs.Prelude.{◌≡◌, ℕ, Bool, true, false, if◌then◌else◌, ◌==◌, List, [], ◌∷◌, ◌++◌, None, Some, Ok, Err, Result}
use Rattle.std.specs.declared.option.Option.{Option}
use Rattle.gw_io.specs.Outside.{raised, Rose}
use Rattle.net_io.specs.declared.outside.AcceptFault.{AcceptFault}
use Rattle.net_io.specs.declared.outside.AcceptFault.TheVariants.{OutOfMemory, Failed}

-- a port: its number, how many connections it gave, whether it is shut, and how often it failed
pub record PortState : Type 0 where
  pub number : ℕ
  pub given : ℕ
  pub is_shut : Bool
  pub faults : ℕ

-- a port that was just opened
abbrev pub opened : ℕ → PortState
opened number = record { number = number; given = 0; is_shut = false; faults = 0 }

-- What an `accept` leaves: one connection more from a port that is not shut, a port that is shut, a port as it was, or a fault that was counted.
abbrev pub Accepts : {C : Type 0} → PortState → PortState → Result (Option C) AcceptFault → Type 0
Accepts before now (Ok (Some connection)) = now ≡ record before { given = raised before.given; is_shut = false }
Accepts before now (Ok None) = now ≡ record before { is_shut = true }
Accepts before now (Err OutOfMemory) = now ≡ before
Accepts before now (Err Failed) = (now ≡ record before { faults = now.faults }) × Rose before.faults now.faults

-- the faults of a net after it took a port back
abbrev pub faults_with : ℕ → PortState → ℕ
faults_with faults port = if port.faults == 0 then faults else raised faults

-- a port in numbers
abbrev pub numbers_of : PortState → List ℕ
numbers_of port = port.number ∷ port.given ∷ (if port.is_shut then 1 else 0) ∷ port.faults ∷ []

-- the ports that were taken back, in numbers, where a net tells them, and one more
abbrev pub told_with : Option (List ℕ) → PortState → Option (List ℕ)
told_with None port = None
told_with (Some told) port = Some (told ++ numbers_of port)
