use Rattle.std.proofs.Common.{rules, ◌≡◌, true, false}
use Rattle.swift_requests.specs.Bodies.{is_unread}
use Rattle.std.proofs.lemmas.Result.{err_from_is_err_and}
use Rattle.gateway.proofs.Unwanted.{used, not_used, left}
use Rattle.gateway.proofs.by_head.use_body.Goals as goal

pub returns-then-is_unread-clause-used : goal.returns-then-is_unread-clause-used
returns-then-is_unread-clause-used g c =
    let unread : is_unread c.args.plan ≡ true = search rules in
    not_used c.args.plan c.args.intake.now (g.S.Source.left c.args.source.now) unread

pub returns-in_err-end-clause-err : goal.returns-in_err-end-clause-err
returns-in_err-end-clause-err g c =
    let read : is_unread c.args.plan ≡ false = search rules in
    let p = err_from_is_err_and c.from_residual.result c.from_residual.ensures.1 in
    rw (p.1, p.2) (left c.args.plan c.args.intake.now (g.S.Source.left c.args.source.now) (g.S.Source.left c.drop_body.new.source) c.in_err-end.field-0.0 read c.requires.sound c.in_err-end.ensures.err)

pub returns-clause-used : goal.returns-clause-used
returns-clause-used g c =
    let read : is_unread c.args.plan ≡ false = search rules in
    used c.args.plan c.args.intake.now c.drop_body.new.intake (g.S.Source.left c.args.source.now) (g.S.Source.left c.drop_body.new.source) c.in_ok-end.end read c.in_ok-end.ensures.dropped
