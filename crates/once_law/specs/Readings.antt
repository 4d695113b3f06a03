-- Which bodies of clients that wait for a 100 are left (RFC 9110, section 10.1.1): the rows say it, and so what requests the
-- bytes of a connection are.
use Rattle.std.specs.Prelude.{◌≡◌, ℕ, ◌≤◌, Bool, true, false, List, ◌++◌, is_some}
use Rattle.std.specs.List.{AllByRecursion}
use Rattle.http_model.specs.declared.head.Head.{Head}
use Rattle.http_model.specs.Heads.{BeginsWith}
use Rattle.rgw_model.specs.Stamps.{counted_moment}
use Rattle.realm_model.specs.Histories.{state_of, Legal}
use Rattle.realm_model.specs.Owns.{OwnEvent, own_events}
use Rattle.realm_model.specs.Settings.{SettingsView}
use Rattle.realm_model.specs.declared.event.Event.{Event}
use Rattle.realm_door.specs.Steps.{actor_of_pass}
use Rattle.swift_auth.specs.Users.{UserView}
use Rattle.swift_auth.specs.declared.policy.Deed.TheVariants.{ChangeThing}
use Rattle.swift_requests.specs.Asks.{asked_of}
use Rattle.swift_requests.specs.declared.asked.Asked.{Asked}
use Rattle.swift_requests.specs.declared.asked.Asked.TheVariants.{Put}
use Rattle.task_words.specs.Rows.{row_refusal}
use Rattle.call_words.specs.Bodies.{read_whole, stays_unread}
use Rattle.call_words.specs.Calls.{Call, is_waiting, IsLeftByRow}
use Rattle.call_words.specs.Requests.{requests_of, AreAsked}
use Rattle.call_words.specs.Streams.{CallsEnd, at_cut, IsStreamFrom, IsFrontFrom}
use Rattle.once_law.specs.Maps.{Rows, rows_in}
use Rattle.once_law.specs.Runs.{AreAlone, AreAt}

-- ---- what the rows say

-- the row of its container refuses its asker the PUT, or there is none
abbrev pub refuses_put : Rows → Asked → Bool
refuses_put rows (Put asker c) = is_some (row_refusal asker (rows c.container) ChangeThing)
refuses_put rows asked = false

-- where the client waits for a 100, the body is left just where the row refuses the PUT
abbrev pub IsLeftAsRowsSay : Rows → Call → Type 0
IsLeftAsRowsSay rows call =
    is_waiting call.asked call.request.head ≡ true → stays_unread call.fate ≡ refuses_put rows call.asked

abbrev pub AreLeftAsRowsSay : Rows → List Call → Type 0
AreLeftAsRowsSay rows calls = AllByRecursion (IsLeftAsRowsSay rows) calls

-- ---- calls that are read from bytes

-- Where the input ended inside a body for which a 100 was written, the first of these events read the row of its container, which
-- lets the body in.
abbrev pub IsLetIn : ℕ → ℕ → List UserView → ℕ → List ℕ → List Call → CallsEnd → List OwnEvent → Type 0
IsLetIn zone largest users k bytes calls end events =
    end ≡ at_cut true → (rest : List ℕ) × (after : List ℕ) × (head : Head) × IsFrontFrom largest users k bytes (requests_of calls) rest
    × BeginsWith rest head after × IsLeftByRow zone (asked_of largest users head) true read_whole events

-- Calls over these rows: they are right in some history, in which nobody else made events behind the rows, and each event brought
-- one moment. Their requests are what the bytes are, where these users are known, the first of them the kth of its connection, with
-- that end; of a request that was cut off behind a 100 the events are those of the actor behind the calls'.
pub record AreReadAlone (settings : SettingsView) (zone : ℕ) (users : List UserView) (rows : Rows) (k : ℕ) (bytes : List ℕ) (calls : List Call) (end : CallsEnd) : Type 0 where
  pub pass : ℕ
  pub before : List Event
  pub more : List Event
  pub next : ℕ
  pub last : ℕ
  pub moment : ℕ
  pub legal : Legal settings (before ++ more)
  pub alone : AreAlone settings zone pass before more next calls last
  pub low : (state_of settings before).clock ≤ counted_moment moment
  pub at : AreAt moment more
  pub rows_are : rows_in settings before zone ≡ rows
  pub asked : AreAsked settings.largest users calls
  pub stream : IsStreamFrom settings.largest users k bytes (requests_of calls) end
  pub let_in : IsLetIn zone settings.largest users k bytes calls end (own_events (before ++ more) (actor_of_pass pass last))

-- where the input ended inside a body for which a 100 was written, the row grants its PUT
abbrev pub IsCutGranted : Rows → ℕ → List UserView → ℕ → List ℕ → List Call → CallsEnd → Type 0
IsCutGranted rows largest users k bytes calls end =
    (rest after : List ℕ) (head : Head) → end ≡ at_cut true → IsFrontFrom largest users k bytes (requests_of calls) rest
    → BeginsWith rest head after → refuses_put rows (asked_of largest users head) ≡ false
