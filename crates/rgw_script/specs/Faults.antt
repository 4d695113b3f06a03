-- Why a script ended before its input did.
use Rattle.std.specs.Prelude.{ℕ, List, ◌++◌, codes, decimal}
use Rattle.turn_cell.specs.declared.machine.DoorFault.{DoorFault}
use Rattle.turn_cell.specs.declared.machine.DoorFault.TheVariants as doors
use Rattle.script_lines.specs.declared.fault.LineFault.{LineFault}
use Rattle.script_lines.specs.declared.fault.LineFault.TheVariants as lines
use Rattle.rgw_script.specs.declared.fault.ScriptFault.{ScriptFault}
use Rattle.rgw_script.specs.declared.fault.ScriptFault.TheVariants.{OutOfMemory, ReadFault, WriteFault, Worn, BadLine}

abbrev pub fault_text : ScriptFault → List ℕ
fault_text OutOfMemory = codes "out of memory"
fault_text ReadFault = codes "reading failed"
fault_text WriteFault = codes "writing failed"
fault_text Worn = codes "the realm has all the events that it may have"
fault_text (BadLine line) = codes "bad line " ++ decimal line

-- what a door's fault is to a script
abbrev pub door_fault : DoorFault → ScriptFault
door_fault doors.OutOfMemory = OutOfMemory
door_fault doors.Worn = Worn

-- what a fault in reading lines is to a script
abbrev pub line_fault : LineFault → ScriptFault
line_fault lines.OutOfMemory = OutOfMemory
line_fault lines.ReadFault = ReadFault
