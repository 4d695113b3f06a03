-- The tails of a manifest that an own read showed have the sizes that it gives them, from then on.
use Rattle.std.specs.Prelude.{ℕ, ◌≤◌, List}
use Rattle.std.specs.List.{AllByRecursion}
use Rattle.realm_model.specs.Phases.{ActorId, SeenManifest, Phase}
use Rattle.realm_model.specs.Maps.{Made}
use Rattle.stripe_law.specs.Sizes.{IsSized}

-- the manifests that one actor saw
abbrev pub SizedAll : ℕ → Made → List SeenManifest → Type 0
SizedAll count made seen = AllByRecursion (λ s. (s.number ≤ count) × IsSized made s.zone s.manifest) seen

-- and those of each actor
abbrev pub SeenSizes : ℕ → (ActorId → Phase) → Made → Type 0
SeenSizes count phases made = (a : ActorId) → SizedAll count made (phases a).stripes.seen
