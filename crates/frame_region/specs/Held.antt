-- What a block of cells holds: a cell is a link of four bytes, the lowest first, and the bytes of its frame. No public clause cites
-- this module.
use Rattle.std.specs.Prelude.{ℕ, ◌+◌, List, map, take, drop}
use Rattle.std.specs.Int.{w32, from_le_bytes}
use Rattle.std.specs.List.{range_with_len}
use Rattle.frame_region.specs.declared.cells.Cells.{Cells}
use Rattle.frame_region.specs.Cells.{content, joined}

-- the number in the first four bytes of a cell
unfoldable pub link_of : ℕ → List ℕ → ℕ → ℕ
link_of frame block cell = from_le_bytes w32 (take 4 (content (frame + 4) block cell))

-- the bytes behind them
unfoldable pub frame_of : ℕ → List ℕ → ℕ → List ℕ
frame_of frame block cell = drop 4 (content (frame + 4) block cell)

-- the links of so many cells
unfoldable pub links_of : ℕ → List ℕ → ℕ → List ℕ
links_of frame block count = map (link_of frame block) (range_with_len 0 count)

-- the bytes of so many frames, joined
unfoldable pub frames_of : ℕ → List ℕ → ℕ → List ℕ
frames_of frame block count = joined (frame_of frame block) count

-- the same of cells
unfoldable pub links_in : Cells → List ℕ
links_in cells = links_of cells.frame cells.block.items cells.count

unfoldable pub bytes_in : Cells → List ℕ
bytes_in cells = frames_of cells.frame cells.block.items cells.count
