-- The first event of an actor.
use Rattle.std.proofs.Common.{◌≡◌, ℕ, [], ◌∷◌, ◌++◌, ap, ◌∙◌}
use Rattle.realm_model.specs.Doors.{DoorView, actor_at}
use Rattle.realm_model.specs.Owns.{own_events}
use Rattle.realm_model.specs.Settings.{SettingsView}
use Rattle.realm_model.specs.declared.op.Op.{Op}
use Rattle.realm_door.specs.declared.door.Answered.{Answered}
use Rattle.realm_door.specs.Steps.{Extends, own_event}
use Rattle.realm_door.specs.Turns.{MakesEvent}
use Rattle.call_service.specs.Serving.{IsNew}

-- a step adds its event
pub events_after : (settings : SettingsView) (d e : DoorView) (op : Op) (moment : ℕ) (a : Answered) → Extends settings d op moment a e → own_events e.seen (actor_at e) ≡ own_events d.seen (actor_at d) ++ own_event op a ∷ []
events_after settings d e op moment a x =
    let actor : actor_at e ≡ actor_at d = λ i. record { pass = x.grows.pass i; count = x.grows.count i } in
    ap (own_events e.seen) actor ∙ x.events

-- the first one is alone
pub alone_after : (settings : SettingsView) (d e : DoorView) (moment : ℕ) → IsNew settings d → (made : MakesEvent settings moment d e) → own_events e.seen (actor_at e) ≡ own_event made.op made.answered ∷ []
alone_after settings d e moment new made =
    events_after settings d e made.op moment made.answered made.extends ∙ ap (λ l. l ++ own_event made.op made.answered ∷ []) new.events
