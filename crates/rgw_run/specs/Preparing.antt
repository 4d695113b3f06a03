-- What comes before the connection: a container is made through a door, where the words name one.
use Rattle.std.specs.Prelude.{◌≡◌, ℕ, ◌+◌, List, [], ◌∷◌, ◌++◌, length, Option, Some, None}
use Rattle.std.specs.Io.KnownBytes.{Appends}
use Rattle.realm_model.specs.Doors.{DoorView, actor_at}
use Rattle.realm_model.specs.Settings.{SettingsView}
use Rattle.realm_door.specs.Steps.{Grows}
use Rattle.container_preset.specs.Presets.{preset, row_now, Stops}

-- the container was made at the moment that the clock told; or none is named
abbrev pub HasPrepared : Type 0 → Type 0 → SettingsView → Option (List ℕ) → List ℕ → DoorView → DoorView → Option (List ℕ) → Option (List ℕ) → Type 0
HasPrepared tells alone settings None owner d e told told' = (e ≡ d) × Appends told told' []
HasPrepared tells alone settings (Some bucket) owner d e told told' =
    (moment : ℕ) × Appends told told' (moment ∷ []) × (tells → Grows settings d e)
    × (tells → alone → row_now settings d.seen bucket ≡ None
    → e.seen ≡ d.seen ++ preset settings (actor_at d) bucket owner (length d.seen + 1) moment)

-- it was not made
abbrev pub StopsPreparing : Type 0 → Type 0 → SettingsView → Option (List ℕ) → DoorView → DoorView → Option (List ℕ) → Option (List ℕ) → Type 0
StopsPreparing tells alone settings None d e told told' = ⊥
StopsPreparing tells alone settings (Some bucket) d e told told' =
    (moment : ℕ) × Appends told told' (moment ∷ []) × (tells → Stops settings alone d e bucket moment)
