-- How ports and servers end.
use Rattle.std.specs.Prelude.{◌≡◌, ℕ, ◌⊎◌, true, List, Some}
use Rattle.std.specs.declared.option.Option.{Option}
use Rattle.gw_io.specs.Outside.{Rose}
use Rattle.net_io.specs.Ports.{PortState, told_with}
use Rattle.rgw_server.specs.declared.accepting.ServeEnd.{ServeEnd}
use Rattle.rgw_server.specs.declared.accepting.ServeEnd.TheVariants.{Ended, OutOfMemory, Failed}

-- a port gave as many connections as were wanted, or is shut
abbrev pub IsDone : Option ℕ → PortState → Type 0
IsDone accepts port = (accepts ≡ Some port.given) ⊎ (port.is_shut ≡ true)

-- what an end says of the port of this number: that it is done, that it did not fail, or that it did
abbrev pub EndsSo : ℕ → Option ℕ → PortState → ServeEnd → Type 0
EndsSo number accepts port Ended = (port.number ≡ number) × (port.faults ≡ 0) × IsDone accepts port
EndsSo number accepts port OutOfMemory = (port.number ≡ number) × (port.faults ≡ 0)
EndsSo number accepts port Failed = (port.number ≡ number) × Rose 0 port.faults

-- a port that ended so was taken back: where a net tells of its ports, it tells of one more
abbrev pub TakesBack : ℕ → Option ℕ → Option (List ℕ) → Option (List ℕ) → ServeEnd → Type 0
TakesBack number accepts told later end = (port : PortState) × EndsSo number accepts port end × (later ≡ told_with told port)

-- the port was not opened
abbrev pub IsUnopened : Option (List ℕ) → Option (List ℕ) → Type 0
IsUnopened told later = later ≡ told

-- What an end says of the net. Only where it failed did the net's count of faults rise; in every other case the port was taken
-- back without a fault, and where the server ended it had given its connections or is shut.
abbrev pub EndsServing : ℕ → Option ℕ → ℕ → ℕ → Option (List ℕ) → Option (List ℕ) → ServeEnd → Type 0
EndsServing number accepts before now told later Ended = (now ≡ before) × TakesBack number accepts told later Ended
EndsServing number accepts before now told later OutOfMemory = (now ≡ before) × TakesBack number accepts told later OutOfMemory
EndsServing number accepts before now told later Failed = Rose before now × (IsUnopened told later ⊎ TakesBack number accepts told later Failed)
