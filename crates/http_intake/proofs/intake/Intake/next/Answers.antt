use Rattle.std.proofs.Common.{Some, ap, ◌∙◌}
use Rattle.http_intake.specs.contracts.intake.Intake.{the_view}
use Rattle.http_intake.proofs.intake.Intake.next.Goals as goal

pub returns-in-Ok-None-clause-found : goal.returns-in-Ok-None-clause-found
returns-in-Ok-None-clause-found g c = λ none.
    let found = rw c.in-Ok-None.field-0-is at c.in-Ok-None.ensures.head in
    let old = c.self.inside in
    rw (← c.self.view_is)
    (found.0, found.1, (found.2.1, found.2.2, ap (λ bytes. record (the_view old) { buffer = bytes }) found.2.0))

pub returns-in-Err-clause-found : goal.returns-in-Err-clause-found
returns-in-Err-clause-found g c = λ none.
    let found = c.in-Err.ensures.head in
    let old = c.self.inside in
    let failed = c.fail.ensures.kept ∙ ap (λ bytes. record (the_view old) { buffer = bytes; failed = Some c.in-Err.fault }) found.2.0 in
    rw (c.fail.ensures.same, ← c.self.view_is) (found.0, found.1, (found.2.1, failed))
