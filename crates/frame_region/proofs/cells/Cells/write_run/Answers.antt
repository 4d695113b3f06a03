use Rattle.std.proofs.Common.{◌≡◌, ◌+◌, ◌-◌, ◌*◌, ◌≤◌, ◌<◌, length, take, drop, slice_index, ap, ◌∙◌, arith, ap₂, List, ℕ}
use Rattle.frame_region.specs.Held.{links_in, bytes_in}
use Rattle.frame_region.proofs.Filled.{filled_in}
use Rattle.frame_region.specs.Region.{overwritten}
use Rattle.frame_region.specs.Cells.{bytes_along}
use Rattle.frame_region.proofs.PathLemmas.{length-bytes_along}
use Rattle.frame_region.proofs.Places.{IsPlace_next}
use Rattle.frame_region.proofs.Transfers.{cell_within, written_more, beside_written}
use Rattle.frame_region.proofs.cells.Cells.write_run.Goals as goal

pub copy_in-requires-clause-cell : goal.copy_in-requires-clause-cell
copy_in-requires-clause-cell c =
    let cells = c.args.self.now in
    let run = c.args.run.now in
    let links = c.loop-done.invariant.links in
    let inside : c.args.start + c.loop-done.done < run.count * cells.frame = omega arith in
    rw links (cell_within cells.frame cells.not_empty (links_in cells) (bytes_in cells) (filled_in cells) run.first run.count c.args.start c.loop-done.done 0 c.loop-done.cell c.loop-done.offset inside (c.loop-done.invariant.place c.loop-done-test.true) (omega arith) c.requires.path.within)

pub link-cell-requires : goal.link-cell-requires
link-cell-requires c =
    let cells = c.args.self.now in
    let run = c.args.run.now in
    let links : links_in c.copy_in.new.self ≡ links_in cells = c.copy_in.ensures.links ∙ c.loop-done.invariant.links in
    let inside : c.args.start + c.loop-done.done < run.count * cells.frame = omega arith in
    rw links (cell_within cells.frame cells.not_empty (links_in cells) (bytes_in cells) (filled_in cells) run.first run.count c.args.start c.loop-done.done 0 c.loop-done.cell c.loop-done.offset inside (c.loop-done.invariant.place c.loop-done-test.true) (omega arith) c.requires.path.within)

pub loop-done-preserved : goal.loop-done-preserved
loop-done-preserved c =
    let cells = c.args.self.now in
    let now = c.loop-done.self in
    let run = c.args.run.now in
    let done = c.loop-done.done in
    let part = c.min-part.result in
    let here = c.loop-done.invariant.place c.loop-done-test.true in
    let inside : c.args.start + done < run.count * cells.frame = omega arith in
    let fits : c.loop-done.offset + part ≤ cells.frame = omega arith in
    let links : (links_in c.copy_in.new.self) ≡ (links_in cells) = c.copy_in.ensures.links ∙ c.loop-done.invariant.links in
    let filled : length (bytes_in now) ≡ length (links_in cells) * cells.frame = filled_in now ∙ ap₂ (λ (l : List ℕ) f. length l * f) c.loop-done.invariant.links c.loop-done.invariant.frame in
    let size : done + part - done ≡ part = omega arith in
    let piece = take (done + part - done) (drop done c.args.source.now) in
    let piece_is : piece ≡ take part (drop done c.args.source.now) = ap (λ n. take n (drop done c.args.source.now)) size in
    let written : (bytes_in c.copy_in.new.self) ≡ overwritten (bytes_in now) (c.loop-done.cell * cells.frame + c.loop-done.offset) piece = c.copy_in.ensures.bytes ∙ ap (λ f. overwritten (bytes_in now) (c.loop-done.cell * f + c.loop-done.offset) piece) c.loop-done.invariant.frame in
    record {
      within = omega arith;
      offset = cells.not_empty;
      place = λ more. IsPlace_next cells.frame (links_in cells) run.first (c.args.start + done) c.loop-done.cell c.loop-done.offset c.link-cell.result (c.args.start + (done + part)) cells.not_empty here (c.link-cell.ensures ∙ ap (λ ls. slice_index ls c.loop-done.cell) links) (omega (arith, more));
      written = written_more cells.frame cells.not_empty (links_in cells) (bytes_in now) filled run.first run.count c.args.start done part c.loop-done.cell c.loop-done.offset inside here fits c.requires.path c.args.source.now piece (bytes_in c.copy_in.new.self) (omega arith) piece_is written (bytes_along cells.frame (links_in cells) (bytes_in cells) run.first run.count) (length-bytes_along cells.frame (links_in cells) (bytes_in cells) (filled_in cells) run.first run.count c.requires.path.within) c.requires.range c.loop-done.invariant.written;
      others = beside_written cells.frame cells.not_empty (links_in cells) (bytes_in now) filled run.first run.count c.args.start done part c.loop-done.cell c.loop-done.offset inside here fits c.requires.path c.args.source.now piece (bytes_in c.copy_in.new.self) (omega arith) piece_is written (bytes_in cells) c.loop-done.invariant.others;
      frame = c.copy_in.ensures.frame ∙ c.loop-done.invariant.frame;
      links = links;
    }
