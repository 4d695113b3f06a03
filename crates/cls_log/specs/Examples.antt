-- Two logs whose pages are told by hand.
use Rattle.std.specs.Prelude.{ℕ, [], ◌∷◌, codes}
use Rattle.object_words.specs.declared.log.LogRow.{LogRow}
use Rattle.object_words.specs.declared.log.LogWhat.TheVariants.{Bucket}
use Rattle.object_words.specs.Logs.{Log}

-- a row that names a container
abbrev pub row_at : ℕ → LogRow
row_at position = record { position = position; what = Bucket (codes "dog") }

-- a log that keeps two rows, and gave a position that it no longer keeps
abbrev pub two_rows : Log
two_rows = record { rows = row_at 4 ∷ row_at 6 ∷ []; last = 7 }

-- one that keeps none
abbrev pub all_gone : Log
all_gone = record { rows = []; last = 7 }
