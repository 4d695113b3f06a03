-- The links and the bytes of a block of cells, after a read and after a write of one of them.
use Rattle.std.proofs.Common.{◌≡◌, ◌≢◌, ℕ, ◌+◌, ◌-◌, ◌*◌, ◌^◌, ◌≤◌, ◌<◌, List, length, take, drop, set, get_or, replicate, arith, rules, inl, inr, refl, sym, ◌∙◌, ap, length-drop, length-set}
use Rattle.std.proofs.lemmas.List.{same_lists, places, drop-drop, drop-replicate, take-replicate, get_or-set_same, get_or-set_other, set-get_or}
use Rattle.std.proofs.lemmas.List.FromFn.{get_or-map-range_with_len, length-map-range_with_len}
use Rattle.std.proofs.lemmas.Nat.{row_fits, from_le_bytes-to_le_bytes_4}
use Rattle.std.proofs.lemmas.Bool.{cases_eq}
use Rattle.std.specs.Int.{w32, from_le_bytes, to_le_bytes}
use Rattle.frame_region.specs.Region.{overwritten}
use Rattle.frame_region.specs.Cells.{content}
use Rattle.frame_region.specs.Held.{link_of, frame_of, links_of, frames_of}
use Rattle.frame_region.proofs.Overwrites.{drop-overwritten_behind}
use Rattle.frame_region.proofs.Contents.{length-content, content-overwritten_same, content-overwritten_other, take-drop-content}
use Rattle.frame_region.proofs.JoinedPieces.{joined_same, length-joined, joined-replicate, take-drop-joined, joined-overwritten}

pub length-links_of : (frame : ℕ) (block : List ℕ) (count : ℕ) → length (links_of frame block count) ≡ count
unfolding links_of
length-links_of frame block count = length-map-range_with_len (link_of frame block) 0 count

link_at : (frame : ℕ) (block : List ℕ) (count cell d : ℕ) → cell < count → get_or (links_of frame block count) cell d ≡ link_of frame block cell
unfolding links_of
link_at frame block count cell d here = get_or-map-range_with_len (link_of frame block) 0 count cell cell d here (omega arith)

-- a cell is m bytes and those behind them: each part after a write in the other or in itself
drop-overwritten_part : (m : ℕ) (xs : List ℕ) (offset : ℕ) (written : List ℕ) → m + offset + length written ≤ length xs → drop m (overwritten xs (m + offset) written) ≡ overwritten (drop m xs) offset written
drop-overwritten_part m xs offset written within = same_lists _ _ (search (rules, places)) (λ k d h. grind (arith, places))

take-overwritten_behind : (m : ℕ) (xs : List ℕ) (offset : ℕ) (written : List ℕ) → m + offset + length written ≤ length xs → take m (overwritten xs (m + offset) written) ≡ take m xs
take-overwritten_behind m xs offset written within = same_lists _ _ (search (rules, places)) (λ k d h. grind (arith, places))

take-overwritten_front : (m : ℕ) (xs written : List ℕ) → length written ≡ m → m ≤ length xs → take m (overwritten xs 0 written) ≡ written
take-overwritten_front m xs written sized within = same_lists _ _ (search (rules, places)) (λ k d h. grind (arith, places))

take-take-le : (m n : ℕ) (xs : List ℕ) → m ≤ n → n ≤ length xs → take m (take n xs) ≡ take m xs
take-take-le m n xs fits within = same_lists _ _ (search (rules, places)) (λ k d h. grind (arith, places))

module _ (frame count : ℕ) (block : List ℕ) (whole : length block ≡ count * (frame + 4)) where
  sized : (cell : ℕ) → cell < count → length (frame_of frame block cell) ≡ frame
  unfolding frame_of
  sized cell here =
      omega (arith, length-drop 4 (content (frame + 4) block cell), length-content (frame + 4) count block whole cell here)

  pub length-frames_of : length (frames_of frame block count) ≡ count * frame
  unfolding frames_of
  length-frames_of = length-joined (frame_of frame block) frame count sized

  module _ (cell : ℕ) (here : cell < count) where
    -- bytes of a cell, so many of them behind an offset, lie in the block
    pub place_fits : (offset : ℕ) → offset ≤ frame → cell * (frame + 4) + 4 + offset ≤ length block
    place_fits offset fits = omega (arith, row_fits cell (frame + 4) count (frame + 4) here (omega arith))

    long : length (content (frame + 4) block cell) ≡ frame + 4
    long = length-content (frame + 4) count block whole cell here

    -- reads
    pub link_read : from_le_bytes w32 (take 4 (drop (cell * (frame + 4)) block)) ≡ get_or (links_of frame block count) cell 0
    unfolding link_of content
    link_read =
        let behind : frame + 4 ≤ length (drop (cell * (frame + 4)) block) = omega (arith, length-drop (cell * (frame + 4)) block, place_fits frame (omega arith)) in
        ap (from_le_bytes w32) (sym (take-take-le 4 (frame + 4) (drop (cell * (frame + 4)) block) (omega arith) behind)) ∙ sym (link_at frame block count cell 0 here)

    pub bytes_read : (offset part : ℕ) → offset + part ≤ frame → take part (drop (cell * (frame + 4) + 4 + offset) block) ≡ take part (drop (cell * frame + offset) (frames_of frame block count))
    unfolding frames_of frame_of
    bytes_read offset part fits =
        let at : cell * (frame + 4) + 4 + offset ≡ cell * (frame + 4) + (4 + offset) = omega arith in
        ap (λ k. take part (drop k block)) at ∙ sym (take-drop-content (frame + 4) count block whole cell here (4 + offset) part (omega arith))
        ∙ ap (take part) (sym (drop-drop offset 4 (content (frame + 4) block cell)))
        ∙ sym (take-drop-joined (frame_of frame block) frame count sized cell offset part here fits)

    -- a write in a cell changes the bytes of this cell alone
    module _ (offset : ℕ) (written : List ℕ) (fits : offset + length written ≤ frame + 4) where
      abbrev new : List ℕ
      new = overwritten block (cell * (frame + 4) + offset) written

      abbrev old_cell : List ℕ
      old_cell = content (frame + 4) block cell

      same : content (frame + 4) new cell ≡ overwritten old_cell offset written
      same = content-overwritten_same (frame + 4) count block whole cell here offset written fits

      other : (k : ℕ) → k ≢ cell → content (frame + 4) new k ≡ content (frame + 4) block k
      other k apart = content-overwritten_other (frame + 4) count block whole cell here offset written fits k apart

      -- it changes one link, where it is told what this is
      links_after : (next : ℕ) → from_le_bytes w32 (take 4 (overwritten old_cell offset written)) ≡ next → links_of frame new count ≡ set (links_of frame block count) cell next
      unfolding link_of
      links_after next told =
          same_lists _ _ (length-links_of frame new count ∙ sym (length-links_of frame block count) ∙ sym (length-set (links_of frame block count) cell next))
          (λ k d h. let below : k < count = omega (arith, length-links_of frame new count) in
          link_at frame new count k d below ∙ elim (cases_eq k cell) [
            | inl at ↦ rw at (ap (λ c. from_le_bytes w32 (take 4 c)) same ∙ told ∙ sym (get_or-set_same (links_of frame block count) cell next d (omega (arith, length-links_of frame block count))))
            | inr apart ↦
                ap (λ c. from_le_bytes w32 (take 4 c)) (other k apart) ∙ sym (link_at frame block count k d below)
                ∙ sym (get_or-set_other (links_of frame block count) cell k next d apart)
          ])

    -- a write behind the link
    module _ (offset : ℕ) (written : List ℕ) (fits : offset + length written ≤ frame) where
      abbrev later : List ℕ
      later = overwritten block (cell * (frame + 4) + 4 + offset) written

      at : later ≡ overwritten block (cell * (frame + 4) + (4 + offset)) written
      at = let place : cell * (frame + 4) + 4 + offset ≡ cell * (frame + 4) + (4 + offset) = omega arith in ap (λ k. overwritten block k written) place

      pub bytes_written : frames_of frame later count ≡ overwritten (frames_of frame block count) (cell * frame + offset) written
      unfolding frames_of frame_of
      bytes_written =
          joined-overwritten (frame_of frame block) (frame_of frame later) frame count sized cell offset written here fits
          (ap (λ b. drop 4 (content (frame + 4) b cell)) at ∙ ap (drop 4) (same (4 + offset) written (omega arith)) ∙ drop-overwritten_part 4 (content (frame + 4) block cell) offset written (omega (arith, long)))
          (λ k below apart. ap (λ b. drop 4 (content (frame + 4) b k)) at ∙ ap (drop 4) (other (4 + offset) written (omega arith) k apart))

      pub links_kept : links_of frame later count ≡ links_of frame block count
      unfolding link_of
      links_kept =
          ap (λ b. links_of frame b count) at
          ∙ links_after (4 + offset) written (omega arith) (get_or (links_of frame block count) cell 0)
          (ap (from_le_bytes w32) (take-overwritten_behind 4 (content (frame + 4) block cell) offset written (omega (arith, long))) ∙ sym (link_at frame block count cell 0 here))
          ∙ set-get_or (links_of frame block count) cell 0

    -- a write of the link
    module _ (next : ℕ) (small : next < 2 ^ 32) where
      abbrev linked : List ℕ
      linked = overwritten block (cell * (frame + 4)) (to_le_bytes w32 next)

      at_link : linked ≡ overwritten block (cell * (frame + 4) + 0) (to_le_bytes w32 next)
      at_link = let place : cell * (frame + 4) ≡ cell * (frame + 4) + 0 = omega arith in ap (λ k. overwritten block k (to_le_bytes w32 next)) place

      pub links_linked : links_of frame linked count ≡ set (links_of frame block count) cell next
      links_linked =
          ap (λ b. links_of frame b count) at_link
          ∙ links_after 0 (to_le_bytes w32 next) (omega arith) next
          (ap (from_le_bytes w32) (take-overwritten_front 4 (content (frame + 4) block cell) (to_le_bytes w32 next) refl (omega (arith, long))) ∙ from_le_bytes-to_le_bytes_4 next small)

      pub bytes_kept : frames_of frame linked count ≡ frames_of frame block count
      unfolding frames_of frame_of
      bytes_kept =
          joined_same (frame_of frame linked) (frame_of frame block) count
          (λ k below. ap (λ b. drop 4 (content (frame + 4) b k)) at_link ∙ elim (cases_eq k cell) [
            | inl at ↦ rw at (
                ap (drop 4) (same 0 (to_le_bytes w32 next) (omega arith))
                ∙ drop-overwritten_behind (content (frame + 4) block cell) 0 (to_le_bytes w32 next) 4 (omega arith) (omega (arith, long))
                )
            | inr apart ↦ ap (drop 4) (other 0 (to_le_bytes w32 next) (omega arith) k apart)
          ])

-- the frames of a block whose bytes are all 0
module _ (frame count : ℕ) where
  zeros : (cell : ℕ) → cell < count → content (frame + 4) (replicate (count * (frame + 4)) 0) cell ≡ replicate (frame + 4) 0
  unfolding content
  zeros cell here =
      let row = row_fits cell (frame + 4) count (frame + 4) here (omega arith) in
      ap (take (frame + 4)) (drop-replicate (cell * (frame + 4)) (count * (frame + 4)) 0)
      ∙ take-replicate (frame + 4) (count * (frame + 4) - cell * (frame + 4)) 0 (omega arith)

  pub frames_of_zeros : frames_of frame (replicate (count * (frame + 4)) 0) count ≡ replicate (count * frame) 0
  unfolding frames_of frame_of
  frames_of_zeros =
      joined-replicate (frame_of frame (replicate (count * (frame + 4)) 0)) frame 0 count
      (λ k h. ap (drop 4) (zeros k h) ∙ drop-replicate 4 (frame + 4) 0 ∙ ap (λ n. replicate n 0) (omega arith))
