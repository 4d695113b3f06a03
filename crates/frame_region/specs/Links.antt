-- How the frames of a region are linked: one chain for each run that is out, and one for the free frames.
-- No public clause cites this module.
use Rattle.std.specs.Prelude.{◌≡◌, ◌≢◌, ℕ, ◌+◌, ◌<◌, ◌≤◌, Bool, not, ◌&&◌, ◌==◌, nat_lt, if◌then◌else◌, List, length, map, sum_by, Option, Some, None, slice_index}
use Rattle.std.specs.List.{list_any, prefix_len, range_with_len}
use Rattle.frame_region.specs.Region.{frames_at}
use Rattle.frame_region.specs.Cells.{after, bytes_along, IsWalk}

-- no cell is linked to this one
abbrev pub IsUnlinked : List ℕ → ℕ → Type 0
IsUnlinked links cell = (other : ℕ) → other < length links → slice_index links other ≢ cell

-- no two cells are linked to one
abbrev pub IsOneToOne : List ℕ → Type 0
IsOneToOne links =
    (a b : ℕ) → a < length links → b < length links → slice_index links a ≡ slice_index links b
    → slice_index links a < length links → a ≡ b

-- so many cells from this one on, the last of which is linked to no cell
pub record IsChain (links : List ℕ) (first count : ℕ) : Type 0 where
  pub within : IsWalk links first count
  pub ends : length links ≤ after links first count

-- a run that is out begins at this cell
pub record Begins (links : List ℕ) (first_free cell : ℕ) : Type 0 where
  pub within : cell < length links
  pub taken : cell ≢ first_free
  pub unlinked : IsUnlinked links cell

-- the test of it, at a cell that is there
abbrev pub begins : List ℕ → ℕ → ℕ → Bool
begins links first_free cell = not (cell == first_free) && not (list_any (λ link. link == cell) links)

-- how many cells there are from this one on, up to one that is linked to none
abbrev pub chain_length : List ℕ → ℕ → ℕ
chain_length links first =
    prefix_len (λ cell. nat_lt cell (length links)) (map (after links first) (range_with_len 0 (length links)))

-- the bytes of the run that begins at a cell, where one does
unfoldable pub run_at : ℕ → List ℕ → List ℕ → ℕ → ℕ → Option (List ℕ)
run_at frame links bytes first_free cell =
    if begins links first_free cell then Some (bytes_along frame links bytes cell (chain_length links cell)) else None

-- the same at each cell in turn
unfoldable pub runs_of : ℕ → List ℕ → List ℕ → ℕ → List (Option (List ℕ))
runs_of frame links bytes first_free =
    map (run_at frame links bytes first_free) (range_with_len 0 (length links))

-- each frame is in one chain: that of the free frames, or that of a run that is out
pub record IsSound (frame : ℕ) (links bytes : List ℕ) (first_free free : ℕ) : Type 0 where
  pub one_to_one : IsOneToOne links
  pub head : first_free < length links → IsUnlinked links first_free
  pub free_chain : IsChain links first_free free
  pub chains : (cell : ℕ) → Begins links first_free cell → (count : ℕ) × (count ≤ length links) × IsChain links cell count
  pub sum : free + sum_by (frames_at frame) (runs_of frame links bytes first_free) ≡ length links
