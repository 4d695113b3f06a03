-- The bytes of one cell after a write among those of all cells.
use Rattle.std.proofs.Common.{◌≡◌, ◌≢◌, ℕ, ◌+◌, ◌*◌, ◌≤◌, ◌<◌, List, length, take, drop, replicate, arith, inl, inr, ap, length-drop}
use Rattle.std.proofs.lemmas.List.{length-take-le, length-replicate}
use Rattle.std.proofs.lemmas.Nat.{row_fits}
use Rattle.std.proofs.lemmas.Bool.{cases_order}
use Rattle.frame_region.specs.Region.{overwritten}
use Rattle.frame_region.specs.Cells.{content}
use Rattle.frame_region.proofs.Overwrites.{overwritten_all, take-drop-part, take-drop-overwritten_before, drop-overwritten_behind, take-drop-overwritten_inside}

module _ (frame count : ℕ) (bytes : List ℕ) (filled : length bytes ≡ count * frame) (cell : ℕ) (here : cell < count) where
  pub length-content : length (content frame bytes cell) ≡ frame
  unfolding content
  length-content =
      let row = row_fits cell frame count frame here (omega arith) in
      length-take-le frame (drop (cell * frame) bytes) (omega (arith, length-drop (cell * frame) bytes))

  pub content-overwritten_same : (offset : ℕ) (written : List ℕ) → offset + length written ≤ frame → content frame (overwritten bytes (cell * frame + offset) written) cell ≡ overwritten (content frame bytes cell) offset written
  unfolding content
  content-overwritten_same offset written fits =
      let row = row_fits cell frame count frame here (omega arith) in
      take-drop-overwritten_inside bytes (cell * frame) frame offset written fits (omega arith)

  pub content-overwritten_other : (offset : ℕ) (written : List ℕ) → offset + length written ≤ frame → (other : ℕ) → other ≢ cell → content frame (overwritten bytes (cell * frame + offset) written) other ≡ content frame bytes other
  unfolding content
  content-overwritten_other offset written fits other apart =
      let row = row_fits cell frame count frame here (omega arith) in
      elim (cases_order other cell) [
        | inl same ↦ absurd (apart same)
        | inr order ↦ elim order [
          | inl before ↦ take-drop-overwritten_before bytes _ written (other * frame) frame (omega (arith, row_fits other frame cell frame before (omega arith))) (omega arith)
          | inr behind ↦ ap (take frame) (drop-overwritten_behind bytes _ written (other * frame) (omega (arith, row_fits cell frame other frame behind (omega arith))) (omega arith))
        ]
      ]

  -- a part of a cell is a part of all bytes
  pub take-drop-content : (offset size : ℕ) → offset + size ≤ frame → take size (drop offset (content frame bytes cell)) ≡ take size (drop (cell * frame + offset) bytes)
  unfolding content
  take-drop-content offset size fits =
      let row = row_fits cell frame count frame here (omega arith) in
      take-drop-part bytes (cell * frame) frame offset size fits (omega arith)

  pub content_cleared : content frame (overwritten bytes (cell * frame) (replicate frame 0)) cell ≡ replicate frame 0
  content_cleared =
      let start : cell * frame ≡ cell * frame + 0 = omega arith in
      rw (start, content-overwritten_same 0 (replicate frame 0) (omega (arith, length-replicate {A = ℕ} frame 0)))
      (overwritten_all (content frame bytes cell) (replicate frame 0) (omega (arith, length-replicate {A = ℕ} frame 0, length-content)))

  pub content_beside_cleared : (other : ℕ) → other ≢ cell → content frame (overwritten bytes (cell * frame) (replicate frame 0)) other ≡ content frame bytes other
  content_beside_cleared other apart =
      let start : cell * frame ≡ cell * frame + 0 = omega arith in
      rw start (content-overwritten_other 0 (replicate frame 0) (omega (arith, length-replicate {A = ℕ} frame 0)) other apart)
