use Rattle.std.proofs.Common.{ap}
use Rattle.std.proofs.lemmas.Result.{err_from_is_err_and}
use Rattle.realm_model.specs.declared.event.Reply.TheVariants.{Names}
use Rattle.zone_core.proofs.steps.bucket_page.Goals as goal

pub returns-in_err-names : goal.returns-in_err-names
returns-in_err-names c settings zone st ready =
    let p = err_from_is_err_and c.from_residual.result c.from_residual.ensures.1 in
    rw p.1 (c.in_err-names.ensures.stays settings zone st ready.stands)

pub returns : goal.returns
returns c settings zone st ready = (ap Names (c.in_ok-names.ensures.found settings zone st ready.stands), c.in_ok-names.ensures.stays settings zone st ready.stands)
