use Rattle.std.proofs.Common.{◌≡◌, [], ◌∷◌, ◌++◌, ap, ◌∙◌, arith, rules}
use Rattle.turn_cell.specs.Histories.{numbers_of}
use Rattle.turn_cell.proofs.Events.{none_between_from, numbers_of_fresh}
use Rattle.turn_cell.proofs.Opening.{opens_with}
use Rattle.turn_cell.proofs.cell.Turn.new.Goals as goal

pub new-requires : goal.new-requires
new-requires g c =
    opens_with g.M.Machine.history g.M.Machine.fixed g.M.Machine.by g.M.Machine.lawful c.of-about.result.value c.args.state c.push.new.self.items c.of-about.ensures
    (c.in_ok-push.ensures.items ∙ ap (λ l. l ++ c.args.state ∷ []) c.new-slots.ensures.items) c.requires.legal c.requires.unnumbered

pub returns-in-Ok-clause-mine : goal.returns-in-Ok-clause-mine
returns-in-Ok-clause-mine g c =
    let by = g.M.Machine.by in
    let seen : c.in-Ok.seat.me.0.seen ≡ g.M.Machine.history c.args.state = search rules in
    ap (λ l. numbers_of by 1 l) seen ∙ numbers_of_fresh by 1 2 1 (g.M.Machine.history c.args.state) (omega arith) (omega arith) (none_between_from by 1 2 (g.M.Machine.history c.args.state) c.requires.unnumbered)
