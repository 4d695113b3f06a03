use Rattle.std.proofs.Common.{◌≡◌, ◌+◌, ◌*◌, ◌<◌, length, ap, ◌∙◌, arith, rules}
use Rattle.std.proofs.lemmas.List.{with_items_is}
use Rattle.std.specs.Vec.{with_items}
use Rattle.frame_region.specs.Held.{links_in, bytes_in, links_of, frames_of}
use Rattle.frame_region.specs.Region.{overwritten}
use Rattle.frame_region.proofs.Blocks.{place_fits, links_kept, bytes_written}
use Rattle.frame_region.proofs.Filled.{length-links_in}
use Rattle.frame_region.proofs.cells.Cells.copy_in.Goals as goal

pub copy_in-requires : goal.copy_in-requires
copy_in-requires c =
    let cells = c.args.self.now in
    let here : c.args.cell < cells.count = omega (arith, length-links_in cells, c.requires.cell) in
    omega (arith, ap length c.as_mut_slice.ensures.value, place_fits cells.frame cells.count cells.block.items cells.whole c.args.cell here (c.args.offset + length c.args.source.now) c.requires.range)

pub returns-clause-bytes : goal.returns-clause-bytes
unfolding bytes_in
returns-clause-bytes c =
    let cells = c.args.self.now in
    let here : c.args.cell < cells.count = omega (arith, length-links_in cells, c.requires.cell) in
    let at = c.args.cell * (cells.frame + 4) + 4 + c.args.offset in
    let block : (with_items cells.block c.copy_in.new.block).items ≡ overwritten cells.block.items at c.args.source.now =
    with_items_is cells.block c.copy_in.new.block (search rules)
    ∙ c.copy_in.ensures ∙ ap (λ b. overwritten b at c.args.source.now) c.as_mut_slice.ensures.value in
    ap (λ b. frames_of cells.frame b cells.count) block ∙ bytes_written cells.frame cells.count cells.block.items cells.whole c.args.cell here c.args.offset c.args.source.now c.requires.range

pub returns-clause-links : goal.returns-clause-links
unfolding links_in
returns-clause-links c =
    let cells = c.args.self.now in
    let here : c.args.cell < cells.count = omega (arith, length-links_in cells, c.requires.cell) in
    let at = c.args.cell * (cells.frame + 4) + 4 + c.args.offset in
    let block : (with_items cells.block c.copy_in.new.block).items ≡ overwritten cells.block.items at c.args.source.now =
    with_items_is cells.block c.copy_in.new.block (search rules)
    ∙ c.copy_in.ensures ∙ ap (λ b. overwritten b at c.args.source.now) c.as_mut_slice.ensures.value in
    ap (λ b. links_of cells.frame b cells.count) block ∙ links_kept cells.frame cells.count cells.block.items cells.whole c.args.cell here c.args.offset c.args.source.now c.requires.range
