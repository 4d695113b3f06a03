use Rattle.std.proofs.Common.{◌≡◌, ◌+◌, ◌-◌, ap, ◌∙◌, arith, rules}
use Rattle.turn_cell.specs.Histories.{numbers_of}
use Rattle.turn_cell.proofs.Events.{numbers_of_fresh}
use Rattle.turn_cell.proofs.cell.Turn.split.Goals as goal

pub returns-clause-mine : goal.returns-clause-mine
returns-clause-mine g c =
    let by = g.M.Machine.by in
    let p = c.pass.inside in
    let room : p.room ≡ c.args.pass.now.room = ap (λ v. v.room) c.pass.view_is in
    let seen : c.cut-seat.result.me.0.seen ≡ p.seat.me.0.seen = search rules in
    ap (λ l. numbers_of by (p.number + (p.room - c.args.share)) l) seen
    ∙ numbers_of_fresh by (p.number + 1) (p.number + p.room) (p.number + (p.room - c.args.share)) p.seat.me.0.seen (omega arith) (omega arith) c.pass.invariant.unused
