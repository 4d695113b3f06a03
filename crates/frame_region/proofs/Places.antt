-- A place among the bytes of a path: its cell and its offset there.
use Rattle.std.proofs.Common.{◌≡◌, ℕ, ◌+◌, ◌-◌, ◌*◌, ◌/◌, ◌%◌, ◌≤◌, ◌<◌, List, slice_index, arith, ap, ◌∙◌, sym}
use Rattle.std.proofs.lemmas.Nat.{div-add-mod', div-mul-add, mod-mul-add, div_below, mod_below}
use Rattle.frame_region.specs.Cells.{after}
use Rattle.frame_region.proofs.PathLemmas.{after_more}

-- the place is in this cell, at this offset
pub record IsPlace (frame : ℕ) (links : List ℕ) (first place cell offset : ℕ) : Type 0 where
  pub cell_is : cell ≡ after links first (place / frame)
  pub offset_is : offset ≡ place % frame

-- the cell of a place is one of the path, or right behind it
pub place_cell-lt : (frame count place : ℕ) → 0 < frame → place < count * frame → place / frame < count
place_cell-lt frame count place positive below = div_below place frame count positive below

pub place_cell-le : (frame count place : ℕ) → 0 < frame → place ≤ count * frame → place / frame ≤ count
place_cell-le frame count place positive below =
    let next : place / frame < count + 1 = div_below place frame (count + 1) positive (omega arith) in
    omega arith

-- behind the last byte of a cell the next cell begins
pub IsPlace_next : (frame : ℕ) (links : List ℕ) (first place cell offset next to : ℕ) → 0 < frame → IsPlace frame links first place cell offset → next ≡ slice_index links cell → to ≡ place + (frame - offset) → IsPlace frame links first to next 0
IsPlace_next frame links first place cell offset next to positive here linked behind =
    let split = div-add-mod' place frame in
    let inside = mod_below place frame positive in
    let at = here.offset_is in
    let start : to ≡ (place / frame + 1) * frame + 0 = omega arith in
    record {
      cell_is = linked ∙ after_more links first (place / frame) cell here.cell_is ∙ ap (after links first) (sym (ap (λ n. n / frame) start ∙ div-mul-add (place / frame + 1) frame 0 positive));
      offset_is = sym (ap (λ n. n % frame) start ∙ mod-mul-add (place / frame + 1) frame 0 positive);
    }

-- a place by its cell and its offset
pub IsPlace-split : (frame : ℕ) (links : List ℕ) (first place cell offset : ℕ) → IsPlace frame links first place cell offset → place / frame * frame + offset ≡ place
IsPlace-split frame links first place cell offset here =
    let split = div-add-mod' place frame in
    let at = here.offset_is in
    omega arith
