use Rattle.std.proofs.Common.{◌+◌, ◌*◌, ◌<◌, length, take, drop, ap, ◌∙◌, arith}
use Rattle.frame_region.specs.Held.{bytes_in}
use Rattle.frame_region.proofs.Blocks.{place_fits, bytes_read}
use Rattle.frame_region.proofs.Filled.{length-links_in}
use Rattle.frame_region.proofs.cells.Cells.copy_out.Goals as goal

pub copy_out-requires : goal.copy_out-requires
copy_out-requires c =
    let cells = c.args.self.now in
    let here : c.args.cell < cells.count = omega (arith, length-links_in cells, c.requires.cell) in
    omega (arith, ap length c.as_slice.ensures.value, place_fits cells.frame cells.count cells.block.items cells.whole c.args.cell here (c.args.offset + length c.args.out.now) c.requires.range)

pub returns : goal.returns
unfolding bytes_in
returns c =
    let cells = c.args.self.now in
    let here : c.args.cell < cells.count = omega (arith, length-links_in cells, c.requires.cell) in
    let start = c.args.cell * (cells.frame + 4) + 4 + c.args.offset in
    c.copy_out.ensures ∙ ap (λ b. take (length c.args.out.now) (drop start b)) c.as_slice.ensures.value
    ∙ bytes_read cells.frame cells.count cells.block.items cells.whole c.args.cell here c.args.offset (length c.args.out.now) c.requires.range
