-- The lists that cells show belong together.
use Rattle.std.proofs.Common.{◌≡◌, ℕ, List, ◌*◌, length, ap, sym, ◌∙◌}
use Rattle.frame_region.specs.declared.cells.Cells.{Cells}
use Rattle.frame_region.specs.Held.{links_in, bytes_in}
use Rattle.frame_region.proofs.Blocks.{length-links_of, length-frames_of}

pub length-links_in : (cells : Cells) → length (links_in cells) ≡ cells.count
unfolding links_in
length-links_in cells = length-links_of cells.frame cells.block.items cells.count

pub filled_in : (cells : Cells) → length (bytes_in cells) ≡ length (links_in cells) * cells.frame
unfolding bytes_in
filled_in cells =
    length-frames_of cells.frame cells.count cells.block.items cells.whole ∙ ap (λ n. n * cells.frame) (sym (length-links_in cells))

-- what is so of equal parts
pub at_cells : (P : ℕ → List ℕ → List ℕ → Type 0) → {f f' : ℕ} → {l l' b b' : List ℕ} → f ≡ f' → l ≡ l' → b ≡ b' → P f' l' b' → P f l b
at_cells P e k m p = rw (e, k, m) p
