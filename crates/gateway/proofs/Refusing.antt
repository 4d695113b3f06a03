-- What is no request, refused.
use Rattle.std.proofs.Common.{◌≡◌, ℕ, Bool, List, Option, None, Some, Result, Ok, Err, sym, ap, ◌∙◌}
use Rattle.std.specs.Prelude.{IfOk, IfErr}
use Rattle.std.specs.Io.KnownBytes.{Appends}
use Rattle.http_intake.specs.declared.fault.IntakeFault.{IntakeFault}
use Rattle.http_model.specs.declared.reply.BadRequest.{BadRequest}
use Rattle.http_model.specs.Replies.{bad_request_text}
use Rattle.call_service.specs.declared.fault.ServeFault.{ServeFault}
use Rattle.call_service.specs.declared.fault.ServeFault.TheVariants as faults
use Rattle.gateway.specs.declared.serve.ConnEnd.TheVariants as conn
use Rattle.gateway.specs.declared.turn.Turn.{Turn}
use Rattle.gateway.specs.declared.turn.Turn.TheVariants.{Over}
use Rattle.call_words.specs.Streams.{at_bad}
use Rattle.gateway.specs.Texts.{closing}
use Rattle.call_service.specs.Serving.{LeavesText}
use Rattle.gateway.specs.Turns.{end_for, EndsSo, LeavesSo}

module _ (cause : IntakeFault) (word : BadRequest) (bodiless : Bool) (taken taken' : Option (List ℕ)) where
  pub refused_ended : (result : Result Turn ServeFault) → end_for cause ≡ Some (at_bad word bodiless)
      → IfOk result (λ turn. (turn ≡ Over 1 conn.Refused) × Appends taken taken' (bad_request_text (closing bodiless) word))
      → IfOk result (EndsSo taken taken' cause)
  refused_ended (Ok turn) is (same, text) = (at_bad word bodiless, is, same, text)
  refused_ended (Err fault) is x = tt

  left_so : (fault : ServeFault) → end_for cause ≡ Some (at_bad word bodiless) → LeavesText taken taken' (bad_request_text (closing bodiless) word) fault → LeavesSo taken taken' cause fault
  left_so faults.OutOfMemory is x = (λ read. let none : None ≡ Some (at_bad word bodiless) = ap end_for (sym read) ∙ is in absurd (cc), x)
  left_so faults.WriteFault is x = (word, bodiless, is, x)
  left_so faults.ReadFault is x = absurd x
  left_so faults.Worn is x = x
  left_so (faults.Late read_at clock) is x = x

  pub refused_left : (result : Result Turn ServeFault) → end_for cause ≡ Some (at_bad word bodiless)
      → IfErr result (LeavesText taken taken' (bad_request_text (closing bodiless) word)) → IfErr result (LeavesSo taken taken' cause)
  refused_left (Ok turn) is x = tt
  refused_left (Err fault) is x = left_so fault is x
