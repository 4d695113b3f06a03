use Rattle.std.proofs.Common.{rules, inr, Some, refl}
use Rattle.std.specs.Prelude.{option_map}
use Rattle.std.proofs.lemmas.Result.{err_from_is_err_and}
use Rattle.request_service.proofs.Early.{closed_so, closed_stops, over_so, over_stops}
use Rattle.request_service.proofs.Texts.{row_has_reply}
use Rattle.request_service.proofs.serve.end_early.Goals as goal

-- ---- the row refused it

pub send_outcome-requires-clause-replied : goal.send_outcome-requires-clause-replied
send_outcome-requires-clause-replied g c =
    let r = c.args.request.now in
    let outcome = c.in-Some.outcome.now in
    row_has_reply (g.T.Request.question (g.T.Staged.command r)).asked (g.T.Request.shown r) (g.T.Request.end_by outcome) (c.in-Some.ensures.row.1) (g.met.T.Request.may_end r outcome c.requires.sound (c.in-Some.ensures.row.0))

pub returns-in-Some-clause-ended : goal.returns-in-Some-clause-ended
returns-in-Some-clause-ended g c =
    let r = c.args.request.now in
    let outcome = c.in-Some.outcome.now in
    let end = g.T.Request.end_by outcome in
    let by = c.in-Some.ensures.row in (
      Some outcome,
      by.0,
      closed_so c.args.form (g.T.Request.question (g.T.Staged.command r)).asked c.args.why (g.T.Request.is_broken r) (Some end) _ _ (search rules) end _ refl by.1 (search rules),
    )

pub returns-in_err-send_outcome-clause-left : goal.returns-in_err-send_outcome-clause-left
returns-in_err-send_outcome-clause-left g c =
    let r = c.args.request.now in
    let outcome = c.in-Some.outcome.now in
    let end = g.T.Request.end_by outcome in
    let by = c.in-Some.ensures.row in
    let p = err_from_is_err_and c.from_residual.result c.from_residual.ensures.1 in
    rw (p.1, p.2)
    (inr (
      Some outcome,
      by.0,
      closed_stops c.args.form (g.T.Request.question (g.T.Staged.command r)).asked c.args.why (g.T.Request.is_broken r) (Some end) _ _ (search rules) end _ refl by.1 c.in_err-send_outcome.field-0.0 (search rules),
    ))

-- ---- the body broke off

pub returns-clause-ended : goal.returns-clause-ended
returns-clause-ended g c =
    let r = c.args.request.now in
    let by = c.in_default.ensures.other in (
      by.0,
      by.1,
      over_so c.args.form (g.T.Request.question (g.T.Staged.command r)).asked c.args.why (g.T.Request.is_broken r) (option_map g.T.Request.end_by by.0) _ _ (search rules) (g.met.T.Request.unfed (g.T.Staged.command r)) _ _ by.2 (search rules) (search rules),
    )

pub returns-in_err-send_broken_body-clause-left : goal.returns-in_err-send_broken_body-clause-left
returns-in_err-send_broken_body-clause-left g c =
    let r = c.args.request.now in
    let by = c.in_default.ensures.other in
    let p = err_from_is_err_and c.from_residual-in_err-send_broken_body.result c.from_residual-in_err-send_broken_body.ensures.1 in
    rw (p.1, p.2)
    (inr (
      by.0,
      by.1,
      over_stops c.args.form (g.T.Request.question (g.T.Staged.command r)).asked c.args.why (g.T.Request.is_broken r) (option_map g.T.Request.end_by by.0) _ _ (search rules) (g.met.T.Request.unfed (g.T.Staged.command r)) _ _ by.2 (search rules) c.in_err-send_broken_body.field-0.0 (search rules),
    ))
