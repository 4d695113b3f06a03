-- Why reading stops.
use Rattle.std.specs.Prelude.{◌≡◌, ◌≢◌, ℕ, List, Option, MatchResult, None, Some, Err, codes}
use Rattle.std.specs.declared.result.Result.{Result}
use Rattle.gw_io.specs.Outside.{Rose}
use Rattle.http_model.specs.declared.reading.HeadFault.{HeadFault}
use Rattle.http_model.specs.declared.reading.HeadFault.TheVariants as Head
use Rattle.http_intake.specs.declared.fault.IntakeFault.{IntakeFault}
use Rattle.http_intake.specs.declared.fault.IntakeFault.TheVariants as Fault

abbrev pub fault_of_head : HeadFault → IntakeFault
fault_of_head Head.OutOfMemory = Fault.OutOfMemory
fault_of_head Head.BadHead = Fault.BadHead
fault_of_head (Head.BadFraming bodiless) = Fault.BadFraming bodiless

-- how a fault is printed
abbrev pub fault_text : IntakeFault → List ℕ
fault_text Fault.OutOfMemory = codes "out of memory"
fault_text Fault.ReadFault = codes "reading failed"
fault_text Fault.Cut = codes "the input ended inside a request"
fault_text Fault.BadHead = codes "no head of a request"
fault_text Fault.HeadTooLarge = codes "the head is too large"
fault_text (Fault.BadFraming bodiless) = codes "the body is not framed"
fault_text Fault.BadChunk = codes "no chunk of a body"
fault_text Fault.BodyTooLarge = codes "the body is too large"

-- A source's count of faults rose where reading failed, and stayed at every other end.
pub record CountsFaults {T : Type 0} (before now : ℕ) (result : Result T IntakeFault) : Type 0 where
  pub rose : result ≡ Err Fault.ReadFault → Rose before now
  pub kept : result ≢ Err Fault.ReadFault → now ≡ before

-- An intake that had not failed has the fault that it answers, and that fault has its cause.
pub record KeepsFault {T : Type 0} (before now : ℕ) (failed : Option IntakeFault) (result : Result T IntakeFault) : Type 0 where
  pub state : MatchResult result (λ _. failed ≡ None) (λ fault. failed ≡ Some fault)
  pub cause : CountsFaults before now result

-- The same of an intake, unless it had failed before: then it answers that fault again, and the count stays.
abbrev pub HasFaultCause : {T : Type 0} → Option IntakeFault → ℕ → ℕ → Result T IntakeFault → Type 0
HasFaultCause None before now result = CountsFaults before now result
HasFaultCause (Some fault) before now result = now ≡ before
