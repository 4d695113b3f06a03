-- What writing a text leaves, and how the lines go on.
use Rattle.std.specs.Prelude.{◌≡◌, ℕ, List, [], Option}
use Rattle.std.specs.Io.KnownBytes.{Appends}
use Rattle.gw_io.specs.Outside.{Rose, AppendsProperPrefix}
use Rattle.script_words.specs.Replies.{bad_line}
use Rattle.rgw_script.specs.declared.fault.ScriptFault.{ScriptFault}
use Rattle.rgw_script.specs.declared.fault.ScriptFault.TheVariants.{OutOfMemory, ReadFault, WriteFault, Worn, BadLine}

-- a count of faults rose where a write failed, and stayed at every other end
abbrev pub CountsWrite : ℕ → ℕ → ScriptFault → Type 0
CountsWrite before now WriteFault = Rose before now
CountsWrite before now fault = now ≡ before

-- that a line is bad was written, or not whole
abbrev pub Refuses : Option (List ℕ) → Option (List ℕ) → ℕ → ScriptFault → Type 0
Refuses taken taken' number (BadLine line) = (line ≡ number) × Appends taken taken' (bad_line number)
Refuses taken taken' number WriteFault = AppendsProperPrefix taken taken' (bad_line number)
Refuses taken taken' number OutOfMemory = Appends taken taken' []
Refuses taken taken' number Worn = ⊥
Refuses taken taken' number ReadFault = ⊥
