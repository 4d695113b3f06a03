-- The tails of a manifest, by how many bytes they have.
use Rattle.std.specs.Prelude.{◌≡◌, ℕ, ◌≤◌, List, length, Option, Some, None}
use Rattle.rgw_types.specs.Stripes.{ManifestView, tails_of}
use Rattle.manifest.specs.Ranges.{part_size}
use Rattle.object_words.specs.declared.head.NewHead.{NewHead}
use Rattle.object_words.specs.declared.head.SeenSlot.{SeenSlot}
use Rattle.object_words.specs.declared.head.SeenSlot.TheVariants.{Live}
use Rattle.realm_model.specs.Maps.{Made}

-- a tail was made, with so many bytes
abbrev pub IsOfSize : Option (List ℕ) → ℕ → Type 0
IsOfSize None size = ⊥
IsOfSize (Some bytes) size = length bytes ≡ size

-- each tail of the manifest was made, with as many bytes as the manifest gives it
abbrev pub IsSized : Made → ℕ → ManifestView → Type 0
IsSized made zone m =
    (part : ℕ) → 1 ≤ part → part ≤ tails_of m → IsOfSize (made zone m.write part) (part_size m part)

-- where there is an object, this holds of it
abbrev pub IfLive : SeenSlot → (NewHead → Type 0) → Type 0
IfLive (Live new stamp) P = P new
IfLive slot P = Unit {0}
