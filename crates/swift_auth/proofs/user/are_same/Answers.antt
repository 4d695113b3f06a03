use Rattle.std.proofs.Common.{◌&&◌, eqb, get_or, sym, ap, ◌∙◌, arith}
use Rattle.swift_auth.proofs.Comparing.{bytes_eq_more}
use Rattle.swift_auth.proofs.user.are_same.Goals as goal

pub loop-at-preserved : goal.loop-at-preserved
loop-at-preserved c =
    let xs = c.args.secret.now in
    let ys = c.args.sent.now in
    let at = c.loop-at.at in
    ap (λ b. b && eqb (get_or xs at 0) (get_or ys at 0)) c.loop-at.invariant ∙ sym (bytes_eq_more xs ys at (omega arith) (omega arith))
