-- What a realm is, and when its pools have what its history leaves.
use Rattle.std.specs.Prelude.{◌≡◌, ℕ, ◌+◌, ◌^◌, ◌<◌, ◌≤◌, List, [], get_or, length}
use Rattle.object_pool.specs.Objects.{PoolView}
use Rattle.realm_model.specs.Histories.{state_of}
use Rattle.realm_model.specs.Settings.{SettingsView}
use Rattle.realm_model.specs.States.{State}
use Rattle.realm_model.specs.declared.event.Event.{Event}
use Rattle.zone_core.specs.Bounds.{AreSmallBy}
use Rattle.zone_core.specs.Stands.{Stands, new_pool}

-- a realm is its settings and its one history
pub record RealmView : Type 0 where
  pub settings : SettingsView
  pub history : List Event

-- a realm before its first event
abbrev pub new_realm : SettingsView → RealmView
new_realm settings = record { settings = settings; history = [] }

-- the first pool has the objects of zone 1, the next one those of zone 2, and so on
abbrev pub HasZones : SettingsView → List PoolView → State → Type 0
HasZones settings pools st = (index : ℕ) → index < length pools → Stands settings (index + 1) (get_or pools index (new_pool settings)) st

-- there is a pool for each zone, with what the history leaves of it; the clock is that of the history, and the objects are no
-- larger than so many events can make them
pub record HasHistory (settings : SettingsView) (pools : List PoolView) (history : List Event) (now : ℕ) : Type 0 where
  pub zones : length pools ≡ settings.zones
  pub stands : HasZones settings pools (state_of settings history)
  pub small : (zone : ℕ) → AreSmallBy (length history) zone (state_of settings history)
  pub clock : now ≡ (state_of settings history).clock
  pub few : length history ≤ 2 ^ 62
