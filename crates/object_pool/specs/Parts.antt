-- The attributes and the rows of an object.
use Rattle.std.specs.Prelude.{ℕ, List, []}
use Rattle.omap_pages.specs.Contents.{Contents}

pub record Parts : Type 0 where
  pub attrs : List ℕ
  pub rows : Contents

abbrev pub no_parts : Parts
no_parts = record { attrs = []; rows = record { rows = []; rooms = []; spare = 0 } }
