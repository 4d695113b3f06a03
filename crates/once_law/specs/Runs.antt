-- Calls that nobody else's events come between, and what they leave.
use Rattle.std.specs.Prelude.{◌≡◌, ℕ, ◌≤◌, true, List, ◌++◌, Some}
use Rattle.std.specs.List.{AllByRecursion}
use Rattle.realm_model.specs.Accounts.{Decided}
use Rattle.realm_model.specs.Containers.{is_standing}
use Rattle.realm_model.specs.Facts.{Home}
use Rattle.realm_model.specs.Histories.{world_of, state_of, account_of}
use Rattle.realm_model.specs.Owns.{NoneBy}
use Rattle.realm_model.specs.Settings.{SettingsView}
use Rattle.realm_model.specs.declared.event.Event.{Event}
use Rattle.index_law.specs.Serving.{NoneCloses}
use Rattle.realm_door.specs.Steps.{actor_of_pass}
use Rattle.call_words.specs.Calls.{Call, AreRight}
use Rattle.call_words.specs.Made.{AreBy, AreMade}
use Rattle.once_law.specs.Maps.{rows_in, slots_in}
use Rattle.once_law.specs.Folds.{Fixed, AreFolded, slots_behind}

-- no actor of the pass from this count on made any of the events
abbrev pub NoneFrom : ℕ → ℕ → List Event → Type 0
NoneFrom pass next events = (count : ℕ) → next ≤ count → NoneBy (actor_of_pass pass count) events

-- no event closed a shard, and each container that zone 1 made stands
pub record IsOpen (settings : SettingsView) (history : List Event) : Type 0 where
  pub closes : NoneCloses history
  pub stand : (container : ℕ) (home : Home) → (world_of settings history).rows.homes container ≡ Some home → is_standing (world_of settings history).rows (state_of settings history) container ≡ true

-- The replies to calls are right in a history. What came behind its first part was made for them, one after another, and then
-- by the actor behind theirs. Up to them all containers are open.
pub record AreAlone (settings : SettingsView) (zone pass : ℕ) (before more : List Event) (next : ℕ) (calls : List Call) (last : ℕ) : Type 0 where
  pub opened : IsOpen settings before
  pub unused : NoneFrom pass next before
  pub right : AreRight settings zone pass (before ++ more) next calls last
  pub later : List Event
  pub made : AreMade pass calls more later
  pub by_last : AreBy pass last later

-- the clock of each actor from this count on is that of the event that decides its reply
abbrev pub AreClocks : SettingsView → ℕ → List Event → ℕ → (ℕ → ℕ) → Type 0
AreClocks settings pass history next clocks =
    (count : ℕ) (event : Decided) → next ≤ count
    → (account_of settings history (actor_of_pass pass count)).decided ≡ Some event → clocks count ≡ event.clock

-- each of the events brought this moment
abbrev pub AreAt : ℕ → List Event → Type 0
AreAt moment events = AllByRecursion (λ e. e.moment ≡ moment) events

-- what the rows and the slots before the calls fix
abbrev pub fixed_by : SettingsView → List Event → ℕ → (ℕ → ℕ) → Fixed
fixed_by settings before zone clocks = record { zone = zone; rows = rows_in settings before zone; clocks = clocks }

-- The calls are replied as the rows and the slots before them say, one after another; and the slots that their events leave are
-- those that the replies leave.
pub record AreOfMaps (settings : SettingsView) (zone : ℕ) (before more : List Event) (calls : List Call) (clocks : ℕ → ℕ) : Type 0 where
  pub events : List Event
  pub later : List Event
  pub stands : more ≡ events ++ later
  pub folded : AreFolded (fixed_by settings before zone clocks) (slots_in settings before zone) calls
  pub slots : slots_behind (fixed_by settings before zone clocks) (slots_in settings before zone) calls ≡ slots_in settings (before ++ events) zone
  pub rows : rows_in settings (before ++ events) zone ≡ rows_in settings before zone
