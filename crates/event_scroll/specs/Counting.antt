-- What the one word of a history says.
use Rattle.std.specs.Prelude.{◌≡◌, List, [], ◌∷◌, length}
use mathlib.Core.Option.{some}
use lib.ListN.{get_elem?}
use Rattle.atomic_table.specs.Table.{State}
use Rattle.realm_model.specs.declared.event.Event.{Event}

-- the word is the number of events that the one seat has noted
abbrev pub IsCounted : State (Unit {0}) (List Event) → Type 0
IsCounted state = (events : List Event) → get_elem? state.views 0 ≡ some events → state.words ≡ length events ∷ []
