-- The texts of faults.
use Rattle.std.specs.Prelude.{ℕ, List, codes}
use Rattle.turn_cell.specs.declared.machine.DoorFault.{DoorFault}
use Rattle.turn_cell.specs.declared.machine.DoorFault.TheVariants.{OutOfMemory, Worn}

abbrev pub text_of : DoorFault → List ℕ
text_of OutOfMemory = codes "out of memory"
text_of Worn = codes "the history is full"
