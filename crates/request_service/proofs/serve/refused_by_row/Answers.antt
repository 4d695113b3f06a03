use Rattle.std.proofs.Common.{Some, refl, ◌∙◌}
use Rattle.request_service.proofs.Early.{other_ended}
use Rattle.request_service.proofs.Texts.{other_ending}
use Rattle.request_service.proofs.serve.refused_by_row.Goals as goal

pub returns-in_default : goal.returns-in_default
returns-in_default g c =
    let outcome = c.in_ok-outcome.outcome.now in
    let end = g.T.Request.end_by outcome in
    record {
      row = tt;
      other = (Some outcome, c.in_ok-outcome.ensures.with, other_ended (Some end) end refl (other_ending end (λ is. c.in_default.not-ByRow (c.ending.ensures ∙ is))));
    }
