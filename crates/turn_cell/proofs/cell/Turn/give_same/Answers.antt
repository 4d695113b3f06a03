use Rattle.std.proofs.Common.{◌∙◌, ap, sym, arith}
use Rattle.turn_cell.proofs.Giving.{same_allows}
use Rattle.turn_cell.proofs.cell.Turn.give_same.Goals as goal

pub fetch_sub-requires : goal.fetch_sub-requires
fetch_sub-requires g c = (
  c.requires.cell ∙ sym (ap (λ v. v.id) c.self.view_is),
  omega (arith, c.self.invariant.0),
  same_allows g.M.Machine.history g.M.Machine.fixed g.M.Machine.by g.M.Machine.lawful c.self.inside.table.shared.key.value c.self.inside.table.shared.table_id.slots c.args.seat.now.id c.args.seat.now.me c.requires.unchanged,
)
