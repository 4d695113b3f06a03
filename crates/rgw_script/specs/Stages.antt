-- What holds between two lines of a script.
use Rattle.std.specs.Prelude.{◌≡◌, ◌≢◌, ℕ, ◌+◌, ◌^◌, ◌<◌, ◌≤◌, Bool, true, false, List, length, Option, None, Some, Result, Ok, OnOk, OnErr, IfErr}
use Rattle.std.specs.List.{AllByRecursion}
use Rattle.realm_core.specs.Realms.{RealmView}
use Rattle.realm_model.specs.Doors.{DoorView}
use Rattle.realm_model.specs.Histories.{Legal}
use Rattle.realm_model.specs.Settings.{SettingsView}
use Rattle.realm_model.specs.declared.event.Event.{Event}
use Rattle.script_words.specs.declared.line.Line.{Line}
use Rattle.script_words.specs.declared.line.Line.TheVariants.{Start, Do}
use Rattle.script_words.specs.declared.line.Verb.{Verb}
use Rattle.script_words.specs.declared.outcome.ActorOutcome.{ActorOutcome}
use Rattle.script_player.specs.Going.{ActsAlone}
use Rattle.script_player.specs.Meanings.{Means}
use Rattle.script_player.specs.Plays.{asked, fits, IsPlaying, IsEnded, ComesSoFar}
use Rattle.script_player.specs.declared.player.Gone.{Gone}
use Rattle.script_player.specs.declared.player.Gone.TheVariants.{Short, Ended}
use Rattle.script_player.specs.Requests.{HasFewBytes}
use Rattle.rgw_script.specs.Casts.{Table, under}
use Rattle.rgw_script.specs.Plays.{Plays, Misses, Begins}
use Rattle.rgw_script.specs.Scenes.{Role, Part, unused, plays, gone, asked_of, has_acted, view_of, Scene}
use Rattle.rgw_script.specs.declared.active.Active.{Active}
use Rattle.rgw_script.specs.declared.fault.ScriptFault.{ScriptFault}
use Rattle.rgw_script.specs.declared.fault.ScriptFault.TheVariants.{OutOfMemory, Worn}
use Rattle.rgw_script.specs.declared.script.Script.{Script}

-- ---- as the lines see it

abbrev pub role_of : Active → Role
role_of a = record { pass = a.pass; zone = (asked a.player).zone; asker = (asked a.player).asker; verb = (asked a.player).verb }

abbrev pub part_of : Option (Option Active) → Part
part_of None = unused
part_of (Some None) = gone
part_of (Some (Some a)) = plays (role_of a)

-- where the script stands
abbrev pub scene_of : Script → List Event → Scene
scene_of script history = record {
  moment = script.moment;
  user = script.asker;
  parts = λ name. part_of (under script.cast name);
  next = script.next;
  history = history;
}

-- ---- invariants

-- what a door tells to the actor
abbrev pub door_to : Active → List Event → DoorView
door_to a history = record { pass = a.pass; count = 0; used = a.used; seen = history }

-- each event is by the first actor of its pass
abbrev pub AreByFirsts : List Event → Type 0
AreByFirsts history = AllByRecursion (λ e. e.count ≡ 0) history

-- each event is by an actor of a pass below this one
abbrev pub AreBelow : ℕ → List Event → Type 0
AreBelow next history = AllByRecursion (λ e. e.pass < next) history

-- the realm's history is legal, and its events are those of first actors
pub record IsOpen (settings : SettingsView) (realm : RealmView) : Type 0 where
  pub settings_are : realm.settings ≡ settings
  pub legal : Legal settings realm.history
  pub firsts : AreByFirsts realm.history

-- the actor stands where its own events bring it, and has not ended
pub record StandsIn (settings : SettingsView) (history : List Event) (a : Active) : Type 0 where
  pub used : a.used ≡ has_acted a.pass history
  pub stands : fits a.player settings (door_to a history)
  pub playing : IsPlaying a.player

-- each actor that plays stands so, and no two have one pass
pub record AreStanding (settings : SettingsView) (history : List Event) (next : ℕ) (table : Table) : Type 0 where
  pub each : (name : List ℕ) (a : Active) → table name ≡ Some (Some a) → StandsIn settings history a
  pub begun : (name : List ℕ) (a : Active) → table name ≡ Some (Some a) → a.pass < next
  pub apart : (n m : List ℕ) (a b : Active) → table n ≡ Some (Some a) → table m ≡ Some (Some b) → n ≢ m → a.pass ≢ b.pass

-- what holds between two lines
pub record Holds (settings : SettingsView) (script : Script) (realm : RealmView) : Type 0 where
  pub is_open : IsOpen settings realm
  pub below : AreBelow script.next realm.history
  pub standing : AreStanding settings realm.history script.next (under script.cast)

-- ---- actors that went on

-- the actor of a pass made all the events that were wanted, or ended by so many
abbrev pub HasActed : Gone → ℕ → ℕ → ℕ → List Event → List Event → Type 0
HasActed Short pass moment most old new = ActsAlone moment most (view_of pass old) (view_of pass new)
HasActed Ended pass moment most old new =
    (count : ℕ) × (count ≤ most) × ActsAlone moment count (view_of pass old) (view_of pass new)

-- it made at most so many
abbrev pub HasActedSome : ℕ → ℕ → ℕ → List Event → List Event → Type 0
HasActedSome pass moment most old new =
    (count : ℕ) × (count ≤ most) × ActsAlone moment count (view_of pass old) (view_of pass new)

-- it ended, and stands where its own events bring it
pub record HasEnded (settings : SettingsView) (history : List Event) (a : Active) : Type 0 where
  pub used : a.used ≡ has_acted a.pass history
  pub stands : fits a.player settings (door_to a history)
  pub ended : IsEnded a.player

-- its own events are those of its verb, as far as it came
abbrev pub HasBrokenOff : SettingsView → List Event → Active → Type 0
HasBrokenOff settings history a = ComesSoFar (asked_of (role_of a)) settings (view_of a.pass history)

-- by what it made, it stands
abbrev pub StandsAfter : Gone → SettingsView → List Event → Active → Type 0
StandsAfter Short settings history a = StandsIn settings history a
StandsAfter Ended settings history a = HasEnded settings history a

-- an event was refused for want of memory, or since the realm has all that it may have
abbrev pub StopsAt : List Event → ScriptFault → Type 0
StopsAt history OutOfMemory = Unit {0}
StopsAt history Worn = length history ≡ 2 ^ 62
StopsAt history fault = ⊥

-- its own events bear out that it ended so
abbrev pub BearsOut : Active → ActorOutcome → List ℕ → Type 0
BearsOut a outcome shown = (settings : SettingsView) (d : DoorView) → fits a.player settings d
    → Means (asked a.player).zone (asked a.player).asker (asked a.player).verb outcome shown settings d

-- ---- lines that can be played

-- the zone is there, and the body within the limits
pub record IsPlayable (settings : SettingsView) (zone : ℕ) (verb : Verb) : Type 0 where
  pub low : 1 ≤ zone
  pub high : zone ≤ settings.zones
  pub few : HasFewBytes verb

abbrev pub IsSound : SettingsView → Line → Type 0
IsSound settings (Start name zone verb) = IsPlayable settings zone verb
IsSound settings (Do zone verb) = IsPlayable settings zone verb
IsSound settings line = Unit {0}

-- ---- one line

-- what playing a line came to, from one script and realm to another: played, and this was printed; not played; or left
pub record ComesTo (settings : SettingsView) (line : Line) (before after : Script) (old new : RealmView) (printed : List ℕ) (result : Result Bool ScriptFault) : Type 0 where
  pub holds : OnOk result (Holds settings after new)
  pub played : result ≡ Ok true → Plays settings (scene_of before old.history) line (scene_of after new.history) printed
  pub missed : result ≡ Ok false → Misses (scene_of before old.history) line × (new ≡ old)
  pub next : OnOk result (after.next ≤ before.next + 1)
  pub begun : OnErr result (Begins settings (scene_of before old.history) line new.history)
  pub cause : IfErr result (StopsAt new.history)
  pub is_open : IsOpen settings new
