use Rattle.std.proofs.Common.{Some, sym, ap, ◌∙◌}
use Rattle.http_intake.specs.contracts.intake.Intake.{the_view}
use Rattle.http_intake.specs.Intake.{IntakeState}
use Rattle.http_intake.proofs.intake.Intake.open_next.Goals as goal

pub returns-in-Err-clause-opens : goal.returns-in-Err-clause-opens
returns-in-Err-clause-opens g c =
    let found = c.in-Err.ensures.chunk in
    let old = c.self.inside in
    let left = sym (ap (λ (i : IntakeState). i.buffer) c.fail.ensures.kept) in
    let failed = c.fail.ensures.kept ∙ ap (λ bytes. record (the_view old) { buffer = bytes; failed = Some c.in-Err.fault }) left in
    rw (c.fail.ensures.same, ← c.self.view_is) (found.0, found.1, found.2, failed)
