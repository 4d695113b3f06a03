-- Why a connection is not served to its end.
use Rattle.std.specs.Prelude.{ℕ, List, codes}
use Rattle.turn_cell.specs.declared.machine.DoorFault.{DoorFault}
use Rattle.turn_cell.specs.declared.machine.DoorFault.TheVariants as doors
use Rattle.call_service.specs.declared.fault.ServeFault.{ServeFault}
use Rattle.call_service.specs.declared.fault.ServeFault.TheVariants.{OutOfMemory, ReadFault, WriteFault, Worn, Late}

-- how a fault is printed
abbrev pub fault_text : ServeFault → List ℕ
fault_text OutOfMemory = codes "out of memory"
fault_text ReadFault = codes "reading failed"
fault_text WriteFault = codes "writing failed"
fault_text Worn = codes "the realm has all the events that it may have"
fault_text (Late read_at clock) = codes "a stripe was gone"

-- the fault of a connection that a door's fault is
abbrev pub fault_by_door : DoorFault → ServeFault
fault_by_door doors.OutOfMemory = OutOfMemory
fault_by_door doors.Worn = Worn
