-- One piece more is read from the cells of a path, or written into them.
use Rattle.std.proofs.Common.{◌≡◌, ℕ, ◌+◌, ◌*◌, ◌/◌, ◌≤◌, ◌<◌, List, ◌++◌, length, take, drop, arith, sym, ◌∙◌, ap, ap₂}
use Rattle.std.proofs.Math.Seq.{take-add}
use Rattle.std.proofs.lemmas.List.{drop-drop, length-take-le, length-drop}
use Rattle.std.proofs.lemmas.Slice.{take-put_mid}
use borrow.Rule.Slice.PartMut.{put_mid}
use Rattle.frame_region.specs.Region.{overwritten}
use Rattle.frame_region.specs.Cells.{bytes_along, IsWalk, IsPath, KeepsOffPath}
use Rattle.frame_region.proofs.Overwrites.{overwritten-overwritten}
use Rattle.frame_region.proofs.Contents.{content-overwritten_other}
use Rattle.frame_region.proofs.PathLemmas.{take-drop-bytes_along, bytes_along-overwritten}
use Rattle.frame_region.proofs.Places.{IsPlace, IsPlace-split, place_cell-lt}

module _ (frame : ℕ) (positive : 0 < frame) (links bytes : List ℕ) (filled : length bytes ≡ length links * frame) (first count start done part cell offset : ℕ) (inside : start + done < count * frame) (here : IsPlace frame links first (start + done) cell offset) (fits : offset + part ≤ frame) where
  index_below : (start + done) / frame < count
  index_below = place_cell-lt frame count (start + done) positive inside

  split : (start + done) / frame * frame + offset ≡ start + done
  split = IsPlace-split frame links first (start + done) cell offset here

  pub cell_within : IsWalk links first count → cell < length links
  cell_within within = rw here.cell_is (within ((start + done) / frame) index_below)

  pub copied_more : IsWalk links first count → (out piece : List ℕ) (size : ℕ) → length piece ≡ part → done ≤ length out → piece ≡ take part (drop (cell * frame + offset) bytes) → take done out ≡ take done (drop start (bytes_along frame links bytes first count)) → take (done + part) (put_mid done size out piece) ≡ take (done + part) (drop start (bytes_along frame links bytes first count))
  copied_more within out piece size sized room read so_far =
      let all = bytes_along frame links bytes first count in
      let piece_of_cell = take-drop-bytes_along frame links bytes filled first count ((start + done) / frame) offset part within index_below fits in
      let piece_of_all : piece ≡ take part (drop done (drop start all)) =
      read ∙ rw (here.cell_is, ← piece_of_cell, split) (ap (take part) (sym (drop-drop done start all))) in
      take-put_mid done size out piece (done + part) (omega arith) room
      ∙ ap₂ ◌++◌ so_far piece_of_all
      ∙ sym (take-add done part (drop start all))

  module _ (path : IsPath links first count) (source piece new : List ℕ) (enough : done + part ≤ length source) (piece_is : piece ≡ take part (drop done source)) (written : new ≡ overwritten bytes (cell * frame + offset) piece) where
    length-piece : length piece ≡ part
    length-piece = ap length piece_is ∙ length-take-le part (drop done source) (omega (arith, length-drop done source))

    pub written_more : (old : List ℕ) → length old ≡ count * frame → start + length source ≤ count * frame → bytes_along frame links bytes first count ≡ overwritten old start (take done source) → bytes_along frame links new first count ≡ overwritten old start (take (done + part) source)
    written_more old sized range so_far =
        let sized_piece = length-piece in
        let i = (start + done) / frame in
        let front : length (take done source) ≡ done = length-take-le done source (omega arith) in
        let one_cell = bytes_along-overwritten frame links bytes filled first count i offset piece path index_below (omega arith) in
        let at_place : i * frame + offset ≡ start + length (take done source) = omega (arith, split) in
        let at_cell : bytes_along frame links new first count ≡ overwritten (bytes_along frame links bytes first count) (i * frame + offset) piece = rw (written, here.cell_is) one_cell in
        at_cell ∙ rw (so_far, at_place) (overwritten-overwritten old start (take done source) piece (omega (arith, sized)))
        ∙ ap (overwritten old start) (ap (λ ys. take done source ++ ys) piece_is ∙ sym (take-add done part source))

    pub beside_written : (old : List ℕ) → KeepsOffPath frame links first count old bytes → KeepsOffPath frame links first count old new
    beside_written old so_far other apart =
        let sized_piece = length-piece in
        rw written (content-overwritten_other frame (length links) bytes filled cell (cell_within path.within) offset piece (omega arith) other (λ same. apart ((start + done) / frame) index_below (sym here.cell_is ∙ sym same))) ∙ so_far other apart
