use Rattle.std.proofs.Common.{◌≡◌, ◌+◌, ◌*◌, ◌<◌, length, ap, ◌∙◌, arith, rules}
use Rattle.std.proofs.lemmas.List.{with_items_is}
use Rattle.std.specs.Int.{w32, to_le_bytes}
use Rattle.std.specs.Vec.{with_items}
use Rattle.frame_region.specs.Held.{links_in, bytes_in, links_of, frames_of}
use Rattle.frame_region.specs.Region.{overwritten}
use Rattle.frame_region.proofs.Blocks.{place_fits, links_linked, bytes_kept}
use Rattle.frame_region.proofs.Filled.{length-links_in}
use Rattle.frame_region.proofs.cells.Cells.set_link.Goals as goal

pub write_link-requires : goal.write_link-requires
write_link-requires c =
    let cells = c.args.self.now in
    let here : c.args.cell < cells.count = omega (arith, length-links_in cells, c.requires) in
    omega (arith, ap length c.as_mut_slice.ensures.value, place_fits cells.frame cells.count cells.block.items cells.whole c.args.cell here 0 (omega arith))

pub returns-clause-links : goal.returns-clause-links
unfolding links_in
returns-clause-links c =
    let cells = c.args.self.now in
    let here : c.args.cell < cells.count = omega (arith, length-links_in cells, c.requires) in
    let at = c.args.cell * (cells.frame + 4) in
    let block : (with_items cells.block c.write_link.new.block).items ≡ overwritten cells.block.items at (to_le_bytes w32 c.args.next) =
    with_items_is cells.block c.write_link.new.block (search rules)
    ∙ c.write_link.ensures ∙ ap (λ b. overwritten b at (to_le_bytes w32 c.args.next)) c.as_mut_slice.ensures.value in
    ap (λ b. links_of cells.frame b cells.count) block ∙ links_linked cells.frame cells.count cells.block.items cells.whole c.args.cell here c.args.next (omega arith)

pub returns-clause-bytes : goal.returns-clause-bytes
unfolding bytes_in
returns-clause-bytes c =
    let cells = c.args.self.now in
    let here : c.args.cell < cells.count = omega (arith, length-links_in cells, c.requires) in
    let at = c.args.cell * (cells.frame + 4) in
    let block : (with_items cells.block c.write_link.new.block).items ≡ overwritten cells.block.items at (to_le_bytes w32 c.args.next) =
    with_items_is cells.block c.write_link.new.block (search rules)
    ∙ c.write_link.ensures ∙ ap (λ b. overwritten b at (to_le_bytes w32 c.args.next)) c.as_mut_slice.ensures.value in
    ap (λ b. frames_of cells.frame b cells.count) block ∙ bytes_kept cells.frame cells.count cells.block.items cells.whole c.args.cell here c.args.next (omega arith)
