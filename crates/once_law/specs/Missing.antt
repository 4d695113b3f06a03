-- That no stripe is missed as long as no kind of event takes one away.
use Rattle.std.specs.Prelude.{◌≡◌, ℕ, List, ◌∷◌, ◌++◌}
use Rattle.object_words.specs.declared.why.Why.TheVariants.{Gone}
use Rattle.realm_model.specs.Histories.{Legal}
use Rattle.realm_model.specs.Owns.{OwnEvent, own_events}
use Rattle.realm_model.specs.Phases.{ActorId}
use Rattle.realm_model.specs.Settings.{SettingsView}
use Rattle.realm_model.specs.declared.event.Event.{Event}
use Rattle.realm_model.specs.declared.event.Reply.TheVariants.{No}

-- in no legal history an own event was answered that a stripe is gone
abbrev pub MissesNone : Type 0
MissesNone = (settings : SettingsView) (history : List Event) (actor : ActorId) (front later : List OwnEvent) (own : OwnEvent) (clock : ℕ)
    → Legal settings history → own_events history actor ≡ front ++ own ∷ later → own.reply ≡ No (Gone clock) → ⊥
