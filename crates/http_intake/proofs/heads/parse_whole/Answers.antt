use Rattle.std.proofs.Common.{◌≤◌, sym, subst}
use Rattle.http_model.specs.declared.reading.TheConstants.{FIELD_LIMIT}
use Rattle.http_intake.proofs.Places.{covers_in}
use Rattle.http_intake.proofs.heads.parse_whole.Goals as goal

pub returns-in-Ok-Complete : goal.returns-in-Ok-Complete
returns-in-Ok-Complete c =
    let complete = rw c.in-Ok-Complete.field-0-is at c.in-Ok-Complete.ensures.complete in
    let within = rw c.in-Ok-Complete.field-0-is at c.in-Ok-Complete.ensures.within in
    covers_in c.args.text.now c.parse_request.new.headers c.in-Ok-Complete.found complete.0
    (subst (λ n. n ≤ FIELD_LIMIT) (sym c.parse_request.auto.headers) c.requires) within complete.1 c.if-found-text.true
