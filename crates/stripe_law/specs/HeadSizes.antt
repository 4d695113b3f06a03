-- The parts of an object have the sizes that its manifest gives them.
use Rattle.std.specs.Prelude.{◌≡◌, ℕ, length}
use Rattle.rgw_types.specs.declared.pool_key.Key.{Key}
use Rattle.manifest.specs.Ranges.{part_size}
use Rattle.object_words.specs.Heads.{Head}
use Rattle.realm_model.specs.Maps.{Made}
use Rattle.stripe_law.specs.Sizes.{IsSized, IfLive}

-- the first bytes of a live head are part 0, and each tail of its manifest was made with its size
abbrev pub HeadSizes : (ℕ → Key → Head) → Made → Type 0
HeadSizes heads made =
    (zone : ℕ) (key : Key)
    → IfLive (heads zone key).slot (λ new.
    (length new.first ≡ part_size new.manifest 0) × IsSized made zone new.manifest)
