use Rattle.std.proofs.Common.{◌≡◌, ◌+◌, ◌-◌, ◌*◌, ◌≤◌, ◌<◌, length, take, drop, ap, ◌∙◌, arith, rules}
use Rattle.std.proofs.lemmas.List.{length-take-le, length-drop, places}
use borrow.Rule.Slice.PartMut.{put_mid}
use Rattle.frame_region.specs.Held.{links_in, bytes_in}
use Rattle.frame_region.proofs.Filled.{filled_in}
use Rattle.frame_region.specs.Region.{Run}
use Rattle.frame_region.proofs.Places.{IsPlace_next, place_cell-le}
use Rattle.frame_region.proofs.Transfers.{copied_more}
use Rattle.frame_region.proofs.cells.Cells.read_run.Goals as goal

pub cell_after-cell-requires : goal.cell_after-cell-requires
cell_after-cell-requires c =
    let cells = c.args.self.now in
    let run = c.args.run.now in
    let first : c.run.inside.first ≡ run.first = ap (λ (r : Run). r.first) c.run.view_is in
    λ i below. rw first (c.requires.walk i (omega (arith, place_cell-le cells.frame run.count c.args.start cells.not_empty (omega arith))))

pub loop-done-preserved : goal.loop-done-preserved
loop-done-preserved c =
    let cells = c.args.self.now in
    let run = c.args.run.now in
    let done = c.loop-done.done in
    let part = c.min-part.result in
    let here = c.loop-done.invariant.place c.loop-done-test.true in
    let same = c.loop-done.auto.out in
    let inside : c.args.start + done < run.count * cells.frame = omega arith in
    let fits : c.loop-done.offset + part ≤ cells.frame = omega arith in
    let size : length (take (done + part - done) (drop done c.loop-done.out)) ≡ part = length-take-le (done + part - done) (drop done c.loop-done.out) (omega (arith, length-drop done c.loop-done.out)) ∙ omega arith in
    let piece : length c.copy_out.new.out ≡ part = c.copy_out.auto.out ∙ size in
    let read : c.copy_out.new.out ≡ take part (drop (c.loop-done.cell * cells.frame + c.loop-done.offset) (bytes_in cells)) = c.copy_out.ensures ∙ ap (λ n. take n (drop (c.loop-done.cell * cells.frame + c.loop-done.offset) (bytes_in cells))) size in
    let whole : length (put_mid done (done + part - done) c.loop-done.out c.copy_out.new.out) ≡ length c.loop-done.out = search (rules, places) in
    record {
      within = omega arith;
      offset = cells.not_empty;
      place = λ more. IsPlace_next cells.frame (links_in cells) run.first (c.args.start + done) c.loop-done.cell c.loop-done.offset c.link-cell.result (c.args.start + (done + part)) cells.not_empty here c.link-cell.ensures (omega (arith, more));
      copied = copied_more cells.frame cells.not_empty (links_in cells) (bytes_in cells) (filled_in cells) run.first run.count c.args.start done part c.loop-done.cell c.loop-done.offset inside here fits c.requires.walk c.loop-done.out c.copy_out.new.out (done + part - done) piece c.loop-done.invariant.within read c.loop-done.invariant.copied;
    }
