use Rattle.std.proofs.Common.{◌∙◌, ap, sym, arith}
use Rattle.turn_cell.proofs.Taking.{take_allows}
use Rattle.turn_cell.proofs.cell.Turn.try_take.Goals as goal

pub compare_exchange-found-requires : goal.compare_exchange-found-requires
compare_exchange-found-requires g c = (
  c.requires ∙ sym (ap (λ v. v.id) c.self.view_is),
  omega (arith, c.self.invariant.0),
  take_allows g.M.Machine.history g.M.Machine.fixed g.M.Machine.by g.M.Machine.lawful c.self.inside.table.shared.key.value c.self.inside.table.shared.table_id.slots c.args.seat.now.id c.args.seat.now.me c.args.number (omega arith),
)
