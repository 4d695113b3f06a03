-- A history whose answers and permissions compute is legal.
use Rattle.std.proofs.Common.{◌≡◌, ◌&&◌, Bool, true, false, List, [], ◌∷◌, refl, sym, ap}
use Rattle.realm_model.specs.Settings.{SettingsView}
use Rattle.realm_model.specs.Worlds.{World, start, happens}
use Rattle.realm_model.specs.Histories.{answers_from, with_answers, all_allowed_from, all_allowed, LegalFrom, Legal}
use Rattle.realm_model.specs.declared.event.Event.{Event}
use Rattle.realm_model.specs.declared.event.Reply.{Reply}

pub left_of : (a b : Bool) → (a && b) ≡ true → a ≡ true
left_of true b both = refl
left_of false b both = both

pub right_of : (a b : Bool) → (a && b) ≡ true → b ≡ true
right_of true b both = both
right_of false b both = cc

rest_of : List Event → List Event
rest_of [] = []
rest_of (e ∷ es) = es

first_reply : Reply → List Event → Reply
first_reply r [] = r
first_reply r (e ∷ es) = e.reply

legal_from : (settings : SettingsView) (w : World) (es : List Event) → answers_from settings w es ≡ es → all_allowed_from settings w es ≡ true → LegalFrom settings w es
unfolding rest_of first_reply
legal_from settings w [] answers may = tt
legal_from settings w (e ∷ es) answers may = (
  record { may = left_of _ _ may; answer = sym (ap (first_reply e.reply) answers) },
  legal_from settings (happens settings w e) es (ap rest_of answers) (right_of _ _ may),
)

pub computed : (settings : SettingsView) (history : List Event) → with_answers settings history ≡ history → all_allowed settings history ≡ true → Legal settings history
computed settings history = legal_from settings (start settings) history
