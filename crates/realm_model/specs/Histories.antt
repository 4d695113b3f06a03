-- What a history leaves, what it answers, and which histories are legal.
use Rattle.std.specs.Prelude.{◌≡◌, ℕ, ◌+◌, ◌-◌, ◌&&◌, Bool, true, List, [], ◌∷◌, take, if◌then◌else◌}
use Rattle.realm_model.specs.Settings.{SettingsView}
use Rattle.realm_model.specs.States.{State, at_moment}
use Rattle.realm_model.specs.Steps.{reply_of}
use Rattle.realm_model.specs.Phases.{ActorId, Phase}
use Rattle.realm_model.specs.Learnt.{learnt}
use Rattle.realm_model.specs.Maps.{Maps, Made}
use Rattle.realm_model.specs.Accounts.{Account, accounted}
use Rattle.realm_model.specs.Allowed.{allowed}
use Rattle.realm_model.specs.Worlds.{World, start, actor_of, happens}
use Rattle.realm_model.specs.declared.op.Op.{Op}
use Rattle.realm_model.specs.declared.event.Reply.{Reply}
use Rattle.realm_model.specs.declared.event.Event.{Event}

-- what events leave, one after another
abbrev pub run : SettingsView → World → List Event → World
run settings w [] = w
run settings w (e ∷ es) = run settings (happens settings w e) es

-- ---- what a history leaves

-- all that a history leaves
abbrev pub world_of : SettingsView → List Event → World
world_of settings history = run settings (start settings) history

-- the objects that a history leaves
abbrev pub state_of : SettingsView → List Event → State
state_of settings history = (world_of settings history).state

-- what an actor knows after a history
abbrev pub phase_of : SettingsView → List Event → ActorId → Phase
phase_of settings history actor = (world_of settings history).phases actor

-- what an actor's events came to in a history
abbrev pub account_of : SettingsView → List Event → ActorId → Account
account_of settings history actor = (world_of settings history).accounts actor

-- an actor's own events, folded: what it knows, and what their answers come to
pub record Doings : Type 0 where
  pub phase : Phase
  pub account : Account

-- an actor's doings in a history
abbrev pub doings_of : SettingsView → List Event → ActorId → Doings
doings_of settings history actor = record { phase = phase_of settings history actor; account = account_of settings history actor }

-- an own event more, with its number and the clock at it, and with the bucket maps and the tails before it
abbrev pub done : Doings → Maps → Made → Op → Reply → ℕ → ℕ → Doings
done d maps made op reply number clock = record {
  phase = learnt d.phase op reply number clock;
  account = accounted d.account maps made op reply number clock;
}

-- what an operation at a moment is answered
abbrev pub answer_in : SettingsView → World → Op → ℕ → Reply
answer_in settings w op moment = reply_of settings (at_moment w.state moment) op

-- what an operation at a moment is answered after a history
abbrev pub answer_after : SettingsView → List Event → Op → ℕ → Reply
answer_after settings history op moment = answer_in settings (world_of settings history) op moment

-- ---- legal histories

-- the actor may make the event, and its answer is the step's
pub record IsNext (settings : SettingsView) (w : World) (e : Event) : Type 0 where
  pub may : allowed settings (w.phases (actor_of e)) e.op ≡ true
  pub answer : e.reply ≡ answer_in settings w e.op e.moment

-- each event is one that may come next
abbrev pub LegalFrom : SettingsView → World → List Event → Type 0
LegalFrom settings w [] = Unit {0}
LegalFrom settings w (e ∷ es) = IsNext settings w e × LegalFrom settings (happens settings w e) es

-- the history starts from the empty realm, and each event is one that may come next
abbrev pub Legal : SettingsView → List Event → Type 0
Legal settings history = LegalFrom settings (start settings) history

-- ---- judged by computing

-- the same operations, with the answers of the step
abbrev pub answers_from : SettingsView → World → List Event → List Event
answers_from settings w [] = []
answers_from settings w (e ∷ es) = record e { reply = answer_in settings w e.op e.moment } ∷ answers_from settings (happens settings w e) es

-- the history with the answers of the step from the start
abbrev pub with_answers : SettingsView → List Event → List Event
with_answers settings history = answers_from settings (start settings) history

-- each actor may make its event
abbrev pub all_allowed_from : SettingsView → World → List Event → Bool
all_allowed_from settings w [] = true
all_allowed_from settings w (e ∷ es) =
    allowed settings (w.phases (actor_of e)) e.op && all_allowed_from settings (happens settings w e) es

-- each actor may make its events
abbrev pub all_allowed : SettingsView → List Event → Bool
all_allowed settings history = all_allowed_from settings (start settings) history

-- its actors may make its events, and its answers are those of the step
pub record IsPlayed (settings : SettingsView) (history : List Event) : Type 0 where
  pub answers : with_answers settings history ≡ history
  pub allowed : all_allowed settings history ≡ true

-- the number of the first event that its actor may not make, counted from this number; 0 where there is none
abbrev pub refused_from : SettingsView → World → List Event → ℕ → ℕ
refused_from settings w [] number = 0
refused_from settings w (e ∷ es) number =
    if allowed settings (w.phases (actor_of e)) e.op then refused_from settings (happens settings w e) es (number + 1) else number

-- the number of the first event that its actor may not make; 0 where there is none
abbrev pub first_refused : SettingsView → List Event → ℕ
first_refused settings history = refused_from settings (start settings) history 1

-- the history is legal up to its event of this number, which its actor may not make
pub record IsRefusedAt (settings : SettingsView) (history : List Event) (number : ℕ) : Type 0 where
  pub refused : first_refused settings history ≡ number
  pub answered : with_answers settings (take (number - 1) history) ≡ take (number - 1) history
