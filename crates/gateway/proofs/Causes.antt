-- The counts of faults of a connection, from those of its parts.
use Rattle.std.proofs.Common.{◌≡◌, Result, Ok, Err, ◌∙◌, subst}
use Rattle.gw_io.specs.Ends.{EndsState}
use Rattle.gw_io.specs.Outside.{Rose}
use Rattle.call_service.specs.Serving.{HasServeCause}
use Rattle.call_service.specs.declared.fault.ServeFault.{ServeFault}

-- the causes of a later part are those of the whole, where no count rose before
pub later_cause : {T : Type 0} (old mid new : EndsState) (result : Result T ServeFault) → mid.plan ≡ old.plan → mid.read_faults ≡ old.read_faults → mid.write_faults ≡ old.write_faults
    → HasServeCause mid new result → HasServeCause old new result
later_cause old mid new result plan reads writes x = record {
  plan = x.plan ∙ plan;
  read_rose = λ is. subst (λ n. Rose n new.read_faults) reads (x.read_rose is);
  read_kept = λ other. x.read_kept other ∙ reads;
  write_rose = λ is. subst (λ n. Rose n new.write_faults) writes (x.write_rose is);
  write_kept = λ other. x.write_kept other ∙ writes;
}

module _ {T U : Type 0} (old new : EndsState) where
  -- a good end has the causes of a good end
  pub good_cause : (value : T) (last : U) → HasServeCause {T = T} old new (Ok value) → HasServeCause {T = U} old new (Ok last)
  good_cause value last x = record {
    plan = x.plan;
    read_rose = λ is. absurd (cc);
    read_kept = λ other. x.read_kept (λ is. absurd (cc));
    write_rose = λ is. absurd (cc);
    write_kept = λ other. x.write_kept (λ is. absurd (cc));
  }

  -- and a fault those of the same fault
  pub fault_cause : (fault : ServeFault) → HasServeCause {T = T} old new (Err fault) → HasServeCause {T = U} old new (Err fault)
  fault_cause fault x = record {
    plan = x.plan;
    read_rose = λ is. x.read_rose (cc);
    read_kept = λ other. x.read_kept (λ is. other (cc));
    write_rose = λ is. x.write_rose (cc);
    write_kept = λ other. x.write_kept (λ is. other (cc));
  }
