use Rattle.std.proofs.Common.{◌∙◌}
use Rattle.http_model.proofs.ReadingLemmas.{covers}
use Rattle.http_model.proofs.reading.parse_whole.Goals as goal

pub returns-in-Ok-Complete-clause-found : goal.returns-in-Ok-Complete-clause-found
returns-in-Ok-Complete-clause-found c =
    let complete = rw c.in-Ok-Complete.field-0-is at c.in-Ok-Complete.ensures.complete in
    let within = rw c.in-Ok-Complete.field-0-is at c.in-Ok-Complete.ensures.within in
    covers c.args.text.now c.parse_request.new.headers c.in-Ok-Complete.found complete.0
    (c.parse_request.auto.headers ∙ c.requires) within complete.1 c.if-found-text.true
