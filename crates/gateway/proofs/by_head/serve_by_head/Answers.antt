use Rattle.std.proofs.Common.{rules, ◌≡◌, true, false}
use Rattle.std.proofs.lemmas.Result.{err_from_is_err_and}
use Rattle.call_words.specs.Bodies.{is_broken}
use Rattle.gateway.specs.Requests.{is_cut, fate_by}
use Rattle.gateway.proofs.Unwanted.{whole_left, broken_left}
use Rattle.gateway.proofs.by_head.serve_by_head.Goals as goal

pub returns-in_err-send_by_head-clause-left : goal.returns-in_err-send_by_head-clause-left
returns-in_err-send_by_head-clause-left g c =
    let whole : is_cut c.in_ok-end.end ≡ false = search rules in
    let went : is_broken (fate_by c.in_ok-end.end) ≡ true = search rules in
    let p = err_from_is_err_and c.from_residual-in_err-send_by_head.result c.from_residual-in_err-send_by_head.ensures.1 in
    rw (p.1, p.2) (broken_left c.args.plan c.args.intake.now c.use_body.new.intake (g.S.Source.left c.args.source.now) (g.S.Source.left c.use_body.new.source) c.args.form c.args.asked.now c.requires.by_head c.requires.quiet c.requires.shut (g.K.Sink.taken c.args.sink.now) (g.K.Sink.taken c.send_by_head.new.sink)
    c.in_ok-end.end c.closing.result c.in_err-send_by_head.field-0.0 c.closing.ensures whole went c.in_ok-end.ensures.used c.in_err-send_by_head.ensures.err)

pub returns-in_err-send_by_head-2-clause-left : goal.returns-in_err-send_by_head-2-clause-left
returns-in_err-send_by_head-2-clause-left g c =
    let whole : is_cut c.in_ok-end.end ≡ false = search rules in
    let went : is_broken (fate_by c.in_ok-end.end) ≡ false = search rules in
    let p = err_from_is_err_and c.from_residual-in_err-send_by_head-2.result c.from_residual-in_err-send_by_head-2.ensures.1 in
    rw (p.1, p.2) (whole_left c.args.plan c.args.intake.now c.use_body.new.intake (g.S.Source.left c.args.source.now) (g.S.Source.left c.use_body.new.source) c.args.form c.args.asked.now c.requires.by_head c.requires.quiet c.requires.shut (g.K.Sink.taken c.args.sink.now) (g.K.Sink.taken c.send_by_head-2.new.sink)
    c.in_ok-end.end c.in_err-send_by_head-2.field-0.0 whole went c.in_ok-end.ensures.used c.in_err-send_by_head-2.ensures.err)
