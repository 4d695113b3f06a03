-- Rows in leaves, one leaf after another.
use Rattle.std.specs.Prelude.{◌≡◌, ℕ, ◌+◌, ◌<◌, ◌≤◌, List, [], ◌∷◌, length, take, slice_set, slice_index_or}
use Rattle.std.specs.List.{All, flat_map}
use Rattle.omap_pages.specs.Cells.{Cells}
use Rattle.omap_pages.specs.declared.leaf.TheConstants.{LEAF_ROWS}
use Rattle.omap_pages.specs.declared.place.Place.{Place}

-- the leaves in their order, and how many more have a place ready
pub record Directory : Type 0 where
  pub leaves : List Cells
  pub free : ℕ

-- the rows of all leaves
abbrev pub flat : {X : Type 0} → List (List X) → List X
flat leaves = flat_map (λ leaf. leaf) leaves

-- how many rows stand before a place
abbrev pub position : {X : Type 0} → List (List X) → Place → ℕ
position leaves place = length (flat (take place.leaf leaves)) + place.row

-- a leaf has at least one row, and no more than it has places
abbrev pub IsLeaf : {X : Type 0} → List X → Type 0
IsLeaf rows = (0 < length rows) × (length rows ≤ LEAF_ROWS)

abbrev pub AreLeaves : {X : Type 0} → List (List X) → Type 0
AreLeaves leaves = All IsLeaf leaves

-- the key of the first row; none is the empty key
abbrev pub first_key_of : {X : Type 0} → List (List ℕ × X) → List ℕ
first_key_of [] = []
first_key_of (row ∷ rows) = row.0

-- the leaf that a place names; past the last one it is empty
abbrev pub leaf_at : {X : Type 0} → List (List X) → Place → List X
leaf_at leaves place = slice_index_or leaves place.leaf []

-- a place before, between or behind the rows of a leaf, or behind the last leaf
pub record IsPlace {X : Type 0} (leaves : List (List X)) (place : Place) : Type 0 where
  pub leaf : place.leaf ≤ length leaves
  pub row : place.row ≤ length (leaf_at leaves place)

-- the first place is not after the second
pub record IsNotAfter (first second : Place) : Type 0 where
  pub leaf : first.leaf ≤ second.leaf
  pub row : first.leaf ≡ second.leaf → first.row ≤ second.row

-- a place at a row
pub record IsRow {X : Type 0} (leaves : List (List X)) (place : Place) : Type 0 where
  pub leaf : place.leaf < length leaves
  pub row : place.row < length (leaf_at leaves place)

-- the leaves with another row at a place
abbrev pub with_row_at : {X : Type 0} → List (List X) → Place → X → List (List X)
with_row_at leaves place row = slice_set leaves place.leaf (slice_set (leaf_at leaves place) place.row row)

-- 1 where there are rows, and 0 where there are none
abbrev pub one_if_rows : {X : Type 0} → List X → ℕ
one_if_rows [] = 0
one_if_rows (row ∷ rows) = 1

-- 1 where there are no rows, and 0 where there are some
abbrev pub one_if_none : {X : Type 0} → List X → ℕ
one_if_none [] = 1
one_if_none (row ∷ rows) = 0
