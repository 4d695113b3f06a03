use Rattle.std.proofs.Common.{◌<◌, ◌^◌, length, arith}
use Rattle.event_scroll.proofs.Noting.{note_keeps}
use Rattle.event_scroll.proofs.Scroll.note.Goals as goal

pub fetch_add-found-requires : goal.fetch_add-found-requires
fetch_add-found-requires g c =
    let room : length c.self.inside.seat.me.0 < 2 ^ 62 = rw c.self.view_is c.requires in (
      c.self.invariant.1,
      omega (arith, c.self.invariant.2),
      note_keeps c.self.inside.table.shared.table_id.slots c.self.inside.seat.id c.self.inside.seat.me g.B.Noted.event c.self.invariant.3 room,
    )
