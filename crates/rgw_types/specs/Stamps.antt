-- The order of changes, and what a local change is stamped with (Ceph Object Gateway, Multisite).
use Rattle.std.specs.Prelude.{◌≡◌, ◌⊎◌, ℕ, ◌+◌, ◌-◌, ◌^◌, ◌<◌, min, max, Option, Some, None}
use Rattle.rgw_types.specs.declared.stamp.Stamp.{Stamp}

-- the moment is earlier, or it is the same moment in a zone with a lower number
abbrev pub IsEarlier : Stamp → Stamp → Type 0
IsEarlier a b = (a.micros < b.micros) ⊎ ((a.micros ≡ b.micros) × (a.zone < b.zone))

-- a sum of moments stops at the end of 64 bits
abbrev pub moment_after : ℕ → ℕ
moment_after micros = min (micros + 1) (2 ^ 64 - 1)

-- the stamp of a change in a zone at a moment, above the one before it
abbrev pub stamp_above : Option Stamp → ℕ → ℕ → Stamp
stamp_above None moment zone = record { micros = moment; zone = zone }
stamp_above (Some stamp) moment zone = record { micros = max moment (moment_after stamp.micros); zone = zone }
