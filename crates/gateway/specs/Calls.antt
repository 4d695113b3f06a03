-- What the history of the realm says of the calls of a connection.
use Rattle.std.specs.Prelude.{◌≡◌, ℕ, ◌+◌, ◌<◌, ◌≤◌, List, ◌++◌}
use Rattle.realm_model.specs.Doors.{DoorView}
use Rattle.realm_model.specs.Histories.{Legal, account_of}
use Rattle.realm_model.specs.Owns.{own_events}
use Rattle.realm_model.specs.Settings.{SettingsView}
use Rattle.realm_model.specs.declared.event.Event.{Event}
use Rattle.realm_door.specs.Steps.{next_count, actor_of_pass, IsCounted, IsUnused, IsSame}
use Rattle.swift_auth.specs.Users.{UserView}
use Rattle.swift_requests.specs.declared.asked.Asked.{Asked}
use Rattle.task_words.specs.Outcomes.{Body}
use Rattle.call_words.specs.Calls.{Call, IsOfNext, IsRight, AreRight, IsSoFar, actor_after}
use Rattle.call_service.specs.Serving.{Site}
use Rattle.call_words.specs.Made.{AreBy, AreMadeFor, AreMade}

-- ---- where

-- where a connection is served: the realm's settings, the zone, and the users that are known
pub record Place : Type 0 where
  pub settings : SettingsView
  pub zone : ℕ
  pub users : List UserView

abbrev pub place_of : SettingsView → ℕ → List UserView → Place
place_of settings zone users = record { settings = settings; zone = zone; users = users }

-- where each of its requests is served
abbrev pub site_in : Place → Site
site_in place = record { settings = place.settings; zone = place.zone }

abbrev pub site_of : SettingsView → ℕ → Site
site_of settings zone = record { settings = settings; zone = zone }

-- requests are served in a zone of the realm, whose settings the door has
pub record IsSite (settings of_door : SettingsView) (zone : ℕ) : Type 0 where
  pub low : 1 ≤ zone
  pub high : zone ≤ settings.zones
  pub same : of_door ≡ settings

-- ---- actors

-- the history is legal, and the next actor of the pass can begin: neither it nor a later one made an event
pub record MayBegin (settings : SettingsView) (d : DoorView) : Type 0 where
  pub legal : Legal settings d.seen
  pub counted : IsCounted d
  pub unused : IsUnused d

-- a connection may go on: it stands at its site, the buffer for pieces of bodies has room, and the next actor can begin
pub record MayGoOn (tells : Type 0) (settings of_door : SettingsView) (zone : ℕ) (d : DoorView) (buffer : ℕ) : Type 0 where
  pub site : IsSite settings of_door zone
  pub room : 0 < buffer
  pub may : tells → MayBegin settings d

-- The pass went on, by no actor or by some: the history grew, the actors that were before did no more, and the next one can
-- begin.
pub record Advances (settings : SettingsView) (d e : DoorView) : Type 0 where
  pub pass : e.pass ≡ d.pass
  pub may_begin : MayBegin settings e
  pub next : next_count d ≤ next_count e
  pub more : List Event
  pub grows : e.seen ≡ d.seen ++ more
  pub older : (count : ℕ) → count < next_count d → IsSame settings d.seen e.seen (actor_of_pass d.pass count)

-- ---- one request

-- in the history the pass's actor of this count does what such a request does so far, of whose body so much came
abbrev pub DoesSoFar : Site → Asked → Body → ℕ → ℕ → List Event → Type 0
DoesSoFar site asked body pass count history =
    IsSoFar site.settings site.zone asked body
    (account_of site.settings history (actor_of_pass pass count)) (own_events history (actor_of_pass pass count))

-- ---- one call

-- the events that the history grew by were made for the call
pub record IsMadeBy (d e : DoorView) (call : Call) : Type 0 where
  pub more : List Event
  pub grows : e.seen ≡ d.seen ++ more
  pub made : AreMadeFor d.pass call.ground more

-- The reply to a call is right in the history, in which a task has the next actor of the pass. Where nobody else makes events,
-- the history grew by the call's alone.
pub record IsSettled (alone : Type 0) (site : Site) (d e : DoorView) (call : Call) : Type 0 where
  pub of_next : IsOfNext (next_count d) call.ground
  pub right : IsRight site.settings site.zone d.pass e.seen call
  pub last : next_count e ≡ actor_after (next_count d) call.ground
  pub advances : Advances site.settings d e
  pub only : alone → IsMadeBy d e call

-- ---- calls

-- the history grew by the events of the calls, one after another, and then by those of this actor
pub record AreMadeBy (d e : DoorView) (calls : List Call) (last : ℕ) : Type 0 where
  pub more : List Event
  pub grows : e.seen ≡ d.seen ++ more
  pub later : List Event
  pub made : AreMade d.pass calls more later
  pub by_last : AreBy d.pass last later

-- The replies to calls are right in the history, in which their tasks have the next actors of the pass, one after another; the
-- actor behind them may have begun. Where nobody else makes events, the history grew by theirs alone.
pub record AreSettled (alone : Type 0) (site : Site) (d e : DoorView) (calls : List Call) (last : ℕ) : Type 0 where
  pub right : AreRight site.settings site.zone d.pass e.seen (next_count d) calls last
  pub begun : next_count e ≤ last + 1
  pub advances : Advances site.settings d e
  pub only : alone → AreMadeBy d e calls last
