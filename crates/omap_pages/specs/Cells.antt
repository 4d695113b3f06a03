-- What each row keeps at its key, and what is seen of all of them.
use Rattle.std.specs.Prelude.{ℕ, List, map}
use Rattle.omap_pages.specs.Contents.{Contents}
use Rattle.omap_pages.specs.Rows.{Rows}

pub record Cell : Type 0 where
  pub value : List ℕ
  pub room : ℕ

abbrev pub Cells : Type 0
Cells = List (List ℕ × Cell)

abbrev pub values_of : Cells → Rows
values_of cells = map (λ e. (e.0, e.1.value)) cells

abbrev pub rooms_of : Cells → List (List ℕ × ℕ)
rooms_of cells = map (λ e. (e.0, e.1.room)) cells

-- what is seen of the cells and of so many spare rows
abbrev pub contents_of : Cells → ℕ → Contents
contents_of cells spare = record { rows = values_of cells; rooms = rooms_of cells; spare = spare }
