use Rattle.std.proofs.Common.{◌∙◌, ap, sym, arith}
use Rattle.turn_cell.proofs.Giving.{next_allows}
use Rattle.turn_cell.proofs.cell.Turn.give_next.Goals as goal

pub fetch_add-requires : goal.fetch_add-requires
fetch_add-requires g c = (
  c.requires.cell ∙ sym (ap (λ v. v.id) c.self.view_is),
  omega (arith, c.self.invariant.0),
  next_allows g.M.Machine.history g.M.Machine.fixed g.M.Machine.by g.M.Machine.lawful c.self.inside.table.shared.key.value c.self.inside.table.shared.table_id.slots c.args.seat.now.id c.args.seat.now.me c.requires.changed,
)
