-- What a realm answers, and the event that it notes.
use Rattle.std.specs.Prelude.{◌≡◌, ℕ, ◌^◌, ◌<◌, Bool, true, List, length, Result, MatchResult, if◌then◌else◌}
use Rattle.object_pool.specs.Objects.{PoolView}
use Rattle.omap_pages.specs.declared.error.OutOfMemory.{OutOfMemory as OutOf}
use Rattle.object_words.specs.declared.why.Why.TheVariants.{Absent}
use Rattle.realm_model.specs.Histories.{state_of}
use Rattle.realm_model.specs.Needs.{is_between}
use Rattle.realm_model.specs.Ops.{zone_of}
use Rattle.realm_model.specs.Owns.{clock_after}
use Rattle.realm_model.specs.Phases.{ActorId}
use Rattle.realm_model.specs.Settings.{SettingsView}
use Rattle.realm_model.specs.States.{State, at_moment, touched}
use Rattle.realm_model.specs.Steps.{reply_of, touch_of}
use Rattle.realm_model.specs.declared.actor.Actor.{Actor}
use Rattle.realm_model.specs.declared.event.Event.{Event}
use Rattle.realm_model.specs.declared.event.Reply.{Reply}
use Rattle.realm_model.specs.declared.event.Reply.TheVariants.{No}
use Rattle.realm_model.specs.declared.op.Op.{Op}
use Rattle.realm_core.specs.Realms.{HasZones}
use Rattle.realm_door.specs.Steps.{back_of}
use Rattle.realm_door.specs.declared.door.Answered.{Answered}
use Rattle.zone_core.specs.Bounds.{AreSmallBy}

-- the zone is one of the realm's
abbrev pub is_zone : SettingsView → ℕ → Bool
is_zone settings zone = is_between 1 settings.zones zone

-- what is answered in a state: the step's answer; in a zone that the realm hasn't got, that nothing is there
abbrev pub reply_in : SettingsView → State → Op → Reply
reply_in settings st op = if is_zone settings (zone_of op) then reply_of settings st op else No Absent

-- what an operation at a moment is answered after a history
abbrev pub reply_after : SettingsView → List Event → Op → ℕ → Reply
reply_after settings history op moment = reply_in settings (at_moment (state_of settings history) moment) op

-- the pools have the objects of a state, and these leave room for one event more
pub record AreReady (settings : SettingsView) (pools : List PoolView) (st : State) : Type 0 where
  pub zones : length pools ≡ settings.zones
  pub stands : HasZones settings pools st
  pub small : (zone : ℕ) → AreSmallBy st.count zone st
  pub few : st.count < 2 ^ 62

-- the reply is that of the state, and the pools have what the step leaves; for want of memory they have what they had
abbrev pub Changes : SettingsView → State → Op → Result Reply OutOf → List PoolView → Type 0
Changes settings st op result pools = MatchResult result
    (λ reply. (reply ≡ reply_in settings st op) × HasZones settings pools (touched settings st (touch_of settings st op)))
    (λ _. HasZones settings pools st)

-- the event of an actor's operation at a moment, with its reply
abbrev pub event_of : Actor → Op → ℕ → Reply → Event
event_of actor op moment reply = record { pass = actor.pass; count = actor.count; op = op; moment = moment; reply = reply }

-- who that is
abbrev pub id_of : Actor → ActorId
id_of actor = record { pass = actor.pass; count = actor.count }

-- an answer tells the number of its event, which is the last of the history, and the clock at it; it hands the operation back
-- where that was refused; and from then on the actor has made an event
pub record Tells (before : Actor) (op : Op) (answer : Answered) (after : Actor) (history : List Event) : Type 0 where
  pub number : answer.number ≡ length history
  pub clock : answer.clock ≡ clock_after 0 history
  pub back : answer.back ≡ back_of op answer.reply
  pub used : after ≡ record before { used = true }
