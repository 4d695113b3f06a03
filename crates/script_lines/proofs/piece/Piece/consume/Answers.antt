use Rattle.std.proofs.Common.{◌∙◌, ap, drop}
use Rattle.script_lines.proofs.Pieces.{range_behind}
use Rattle.script_lines.proofs.piece.Piece.consume.Goals as goal

pub returns : goal.returns
returns c =
    let held = c.self.inside in
    range_behind held.bytes.items held.start held.end c.args.count ∙ ap (drop c.args.count) c.self.view_is
