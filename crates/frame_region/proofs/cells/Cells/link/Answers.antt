use Rattle.std.proofs.Common.{◌+◌, ◌*◌, ◌<◌, length, take, drop, ap, ◌∙◌, arith}
use Rattle.std.specs.Int.{w32, from_le_bytes}
use Rattle.frame_region.specs.Held.{links_in}
use Rattle.frame_region.proofs.Blocks.{place_fits, link_read}
use Rattle.frame_region.proofs.Filled.{length-links_in}
use Rattle.frame_region.proofs.cells.Cells.link.Goals as goal

pub read_link-requires : goal.read_link-requires
read_link-requires c =
    let cells = c.args.self.now in
    let here : c.args.cell < cells.count = omega (arith, length-links_in cells, c.requires) in
    omega (arith, ap length c.as_slice.ensures.value, place_fits cells.frame cells.count cells.block.items cells.whole c.args.cell here 0 (omega arith))

pub returns : goal.returns
unfolding links_in
returns c =
    let cells = c.args.self.now in
    let here : c.args.cell < cells.count = omega (arith, length-links_in cells, c.requires) in
    c.read_link.ensures ∙ ap (λ b. from_le_bytes w32 (take 4 (drop (c.args.cell * (cells.frame + 4)) b))) c.as_slice.ensures.value
    ∙ link_read cells.frame cells.count cells.block.items cells.whole c.args.cell here
