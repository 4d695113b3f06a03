-- The counts of faults of a PUT whose client waits for a 100, from those of its parts.
use Rattle.std.proofs.Common.{◌≡◌, ℕ, List, Result, Ok, Err, ap, ◌∙◌, subst}
use Rattle.std.specs.Prelude.{IfErr}
use Rattle.gw_io.specs.Ends.{EndsState}
use Rattle.gw_io.specs.Outside.{Rose}
use Rattle.realm_model.specs.declared.event.Event.{Event}
use Rattle.call_service.specs.Replying.{StopsEvent}
use Rattle.call_service.specs.Serving.{WritesAtFault, HasServeCause, LeavesText}
use Rattle.call_service.specs.declared.fault.ServeFault.{ServeFault}
use Rattle.call_service.specs.declared.fault.ServeFault.TheVariants as faults

-- an event was refused, and nothing was read or written
pub event_cause : {T : Type 0} (tells : Type 0) (found : List Event) (old new : EndsState) (fault : ServeFault) → StopsEvent tells found fault
    → new.plan ≡ old.plan → new.read_faults ≡ old.read_faults → new.write_faults ≡ old.write_faults → HasServeCause {T = T} old new (Err fault)
event_cause tells found old new fault stops plan reads writes = record {
  plan = plan;
  read_rose = λ is. let same : fault ≡ faults.ReadFault = cc in absurd (subst (StopsEvent tells found) same stops);
  read_kept = λ other. reads;
  write_rose = λ is. let same : fault ≡ faults.WriteFault = cc in absurd (subst (StopsEvent tells found) same stops);
  write_kept = λ other. writes;
}

-- a text was written, or a front of it, and nothing was read
pub text_cause : {T : Type 0} (old new : EndsState) (text : List ℕ) (result : Result T ServeFault) → IfErr result (LeavesText old.taken new.taken text)
    → new.plan ≡ old.plan → new.read_faults ≡ old.read_faults → WritesAtFault old.write_faults new.write_faults result → HasServeCause old new result
text_cause old new text (Ok value) leaves plan reads writes = record {
  plan = plan;
  read_rose = λ is. absurd (cc);
  read_kept = λ other. reads;
  write_rose = writes.rose;
  write_kept = writes.kept;
}
text_cause old new text (Err fault) leaves plan reads writes = record {
  plan = plan;
  read_rose = λ is. let same : fault ≡ faults.ReadFault = cc in absurd (subst (LeavesText old.taken new.taken text) same leaves);
  read_kept = λ other. reads;
  write_rose = writes.rose;
  write_kept = writes.kept;
}

module _ {T U : Type 0} where
  -- the 100 was not written whole
  pub halted_cause : (old new : EndsState) (fault : ServeFault) → fault ≡ faults.WriteFault → new.plan ≡ old.plan → new.read_faults ≡ old.read_faults
      → WritesAtFault {T = U} old.write_faults new.write_faults (Err fault) → HasServeCause {T = T} old new (Err fault)
  halted_cause old new fault is plan reads writes = record {
    plan = plan;
    read_rose = λ r. absurd (cc);
    read_kept = λ other. reads;
    write_rose = λ w. writes.rose (ap Err is);
    write_kept = λ other. absurd (other (ap Err is));
  }

  -- behind the 100 the counts rise as those of what follows it
  pub behind_cause : (old mid new : EndsState) (value : U) (result : Result T ServeFault) → mid.plan ≡ old.plan → mid.read_faults ≡ old.read_faults
      → WritesAtFault {T = U} old.write_faults mid.write_faults (Ok value) → HasServeCause mid new result → HasServeCause old new result
  behind_cause old mid new value result plan reads writes x =
      let kept : mid.write_faults ≡ old.write_faults = writes.kept (λ e. absurd (cc)) in
      record {
        plan = x.plan ∙ plan;
        read_rose = λ is. subst (λ n. Rose n new.read_faults) reads (x.read_rose is);
        read_kept = λ other. x.read_kept other ∙ reads;
        write_rose = λ is. subst (λ n. Rose n new.write_faults) kept (x.write_rose is);
        write_kept = λ other. x.write_kept other ∙ kept;
      }
