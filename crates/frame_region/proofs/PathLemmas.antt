-- The cells of a path: their bytes after a write or a clearing, and what it leaves beside them.
use Rattle.std.proofs.Common.{◌≡◌, ◌≢◌, ℕ, ◌+◌, ◌*◌, ◌≤◌, ◌<◌, List, length, take, drop, replicate, slice_index, arith, inl, inr, sym, ◌∙◌, ap, add-one}
use Rattle.std.proofs.lemmas.Bool.{cases_eq}
use Rattle.frame_region.specs.Region.{overwritten}
use Rattle.frame_region.specs.Cells.{content, after, bytes_along, IsWalk, IsPath, KeepsOffPath}
use Rattle.frame_region.proofs.Contents.{length-content, content-overwritten_same, content-overwritten_other, content_cleared, content_beside_cleared, take-drop-content}
use Rattle.frame_region.proofs.JoinedPieces.{joined-overwritten, length-joined, take-drop-joined}

pub after_more : (links : List ℕ) (first i cell : ℕ) → cell ≡ after links first i → slice_index links cell ≡ after links first (i + 1)
after_more links first i cell here = rw add-one (ap (slice_index links) here)

module _ (frame : ℕ) (links bytes : List ℕ) (filled : length bytes ≡ length links * frame) (first : ℕ) where
  pub length-bytes_along : (count : ℕ) → IsWalk links first count → length (bytes_along frame links bytes first count) ≡ count * frame
  length-bytes_along count within =
      length-joined (λ i. content frame bytes (after links first i)) frame count (λ i h. length-content frame (length links) bytes filled (after links first i) (within i h))

  pub take-drop-bytes_along : (count i offset part : ℕ) → IsWalk links first count → i < count → offset + part ≤ frame → take part (drop (i * frame + offset) (bytes_along frame links bytes first count)) ≡ take part (drop (after links first i * frame + offset) bytes)
  take-drop-bytes_along count i offset part within below fits =
      take-drop-joined (λ k. content frame bytes (after links first k)) frame count (λ k h. length-content frame (length links) bytes filled (after links first k) (within k h)) i offset part below fits
      ∙ take-drop-content frame (length links) bytes filled (after links first i) (within i below) offset part fits

  pub bytes_along-overwritten : (count i offset : ℕ) (written : List ℕ) → IsPath links first count → i < count → offset + length written ≤ frame → bytes_along frame links (overwritten bytes (after links first i * frame + offset) written) first count ≡ overwritten (bytes_along frame links bytes first count) (i * frame + offset) written
  bytes_along-overwritten count i offset written path below fits =
      let cell = after links first i in
      joined-overwritten (λ k. content frame bytes (after links first k)) (λ k. content frame (overwritten bytes (cell * frame + offset) written) (after links first k)) frame count (λ k h. length-content frame (length links) bytes filled (after links first k) (path.within k h)) i offset written below fits (content-overwritten_same frame (length links) bytes filled cell (path.within i below) offset written fits) (λ k h apart. content-overwritten_other frame (length links) bytes filled cell (path.within i below) offset written fits (after links first k) (λ same. apart (path.once k i h below same)))

-- one more cell of a path is cleared
module _ (frame : ℕ) (links bytes new : List ℕ) (filled : length bytes ≡ length links * frame) (first count step cell : ℕ) (path : IsPath links first count) (below : step < count) (here : cell ≡ after links first step) (cleared : new ≡ overwritten bytes (cell * frame) (replicate frame 0)) where
  in_range : cell < length links
  in_range = rw here (path.within step below)

  elsewhere : (other : ℕ) → other ≢ cell → content frame new other ≡ content frame bytes other
  elsewhere other apart = rw cleared (content_beside_cleared frame (length links) bytes filled cell in_range other apart)

  pub cleared_more : ((i : ℕ) → i < step → content frame bytes (after links first i) ≡ replicate frame 0) → (i : ℕ) → i < step + 1 → content frame new (after links first i) ≡ replicate frame 0
  cleared_more so_far i up_to =
      elim (cases_eq i step) [
        | inl last ↦ rw (last, ← here, cleared) (content_cleared frame (length links) bytes filled cell in_range)
        | inr before ↦ elsewhere (after links first i) (λ same. before (path.once i step (omega arith) below (same ∙ here))) ∙ so_far i (omega arith)
      ]

  pub beside_more : (old : List ℕ) → KeepsOffPath frame links first step old bytes → KeepsOffPath frame links first (step + 1) old new
  beside_more old so_far other apart =
      elsewhere other (λ same. apart step (omega arith) (sym here ∙ sym same)) ∙ so_far other (λ i h. apart i (omega arith))
