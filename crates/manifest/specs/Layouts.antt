-- How a manifest is written: the number of the layout, then its numbers, each with its high byte first.
use Rattle.std.specs.Prelude.{ℕ, List, ◌∷◌, ◌++◌}
use Rattle.std.specs.Int.{w32, w64, to_be_bytes}
use Rattle.rgw_types.specs.Stripes.{ManifestView}

-- the bytes of a manifest
abbrev pub encoding : ManifestView → List ℕ
encoding m = 1 ∷ (to_be_bytes w64 m.write ++ (to_be_bytes w32 m.stripe ++ to_be_bytes w64 m.size))
