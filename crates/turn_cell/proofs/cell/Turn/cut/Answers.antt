use Rattle.std.proofs.Common.{◌<◌, ◌∙◌, ap, sym, arith}
use Rattle.turn_cell.proofs.Splitting.{split_allows}
use Rattle.turn_cell.proofs.cell.Turn.cut.Goals as goal

pub split_seat-requires : goal.split_seat-requires
split_seat-requires g c =
    let some_share : 0 < g.B.Share.share = omega (arith, c.requires.share.0, c.requires.share.1) in
    let less : g.B.Share.share < c.args.seat.now.me.0.room = omega (arith, c.requires.share.0, c.requires.share.2) in (
      c.requires.cell ∙ sym (ap (λ v. v.id) c.self.view_is),
      omega (arith, c.self.invariant.0),
      split_allows g.M.Machine.history g.M.Machine.fixed g.M.Machine.by g.M.Machine.lawful c.self.inside.table.shared.key.value c.args.seat.now.id c.args.seat.now.me.0 g.B.Share.share some_share less,
    )
