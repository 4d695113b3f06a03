use Rattle.std.proofs.Common.{◌≡◌, ◌∙◌, ◌++◌, ◌∷◌, [], length, sym, subst, rules}
use Rattle.turn_cell.specs.Histories.{NoneBy, numbers_of}
use Rattle.turn_cell.proofs.Events.{numbers_grow}
use Rattle.turn_cell.proofs.cell.Turn.step.Goals as goal

pub returns-in-Ok-clause-mine : goal.returns-in-Ok-clause-mine
returns-in-Ok-clause-mine g c =
    let by = g.M.Machine.by in
    let h = c.take-number.ensures.taken.2 in
    let e = g.M.Machine.event c.args.actor.now c.args.op c.args.moment c.in-Ok.answer in
    let number : c.pass.inside.seat.me.0.number ≡ c.args.pass.now.number = search rules in
    let now : c.give_next.new.seat.me.0.seen ≡ (c.args.pass.now.seen ++ h.between) ++ e ∷ [] = search rules in
    let own : by e ≡ c.args.pass.now.number = g.met.M.Machine.by_actor c.args.actor.now c.args.op c.args.moment c.in-Ok.answer ∙ c.requires.actor in
    subst (λ l. numbers_of by c.args.pass.now.number l ≡ numbers_of by c.args.pass.now.number c.args.pass.now.seen ++ length l ∷ []) (sym now)
    (numbers_grow by c.args.pass.now.number c.args.pass.now.seen h.between e (subst (λ n. NoneBy by n h.between) number h.others) own)
