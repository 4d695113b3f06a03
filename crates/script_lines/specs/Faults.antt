-- Why no line was read, and what the source's count of faults says of it.
use Rattle.std.specs.Prelude.{◌≡◌, ◌≢◌, ℕ, List, codes, Result, Err}
use Rattle.gw_io.specs.Outside.{Rose}
use Rattle.script_lines.specs.declared.fault.LineFault.{LineFault}
use Rattle.script_lines.specs.declared.fault.LineFault.TheVariants.{OutOfMemory, ReadFault}

abbrev pub fault_text : LineFault → List ℕ
fault_text OutOfMemory = codes "out of memory"
fault_text ReadFault = codes "reading failed"

-- A source's count of faults rose where reading failed, and stayed at every other end.
pub record CountsFaults {T : Type 0} (before now : ℕ) (result : Result T LineFault) : Type 0 where
  pub rose : result ≡ Err ReadFault → Rose before now
  pub kept : result ≢ Err ReadFault → now ≡ before
