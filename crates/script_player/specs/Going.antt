-- An actor that goes on by some events.
use Rattle.std.specs.Prelude.{◌≡◌, ◌⊎◌, ℕ, ◌≤◌, List, ◌++◌, length, replicate}
use Rattle.std.specs.List.{AllByRecursion}
use Rattle.realm_model.specs.Settings.{SettingsView}
use Rattle.realm_model.specs.Doors.{DoorView, actor_at}
use Rattle.realm_model.specs.Histories.{Legal}
use Rattle.realm_model.specs.Worlds.{actor_of}
use Rattle.realm_model.specs.declared.event.Event.{Event}
use Rattle.realm_door.specs.Steps.{Grows}
use Rattle.door_moments.specs.Acts.{own_moments}
use Rattle.script_player.specs.declared.player.Gone.{Gone}
use Rattle.script_player.specs.declared.player.Gone.TheVariants.{Short, Ended}

-- the history grew by so many events, each of the present actor at this moment, and by nothing else
pub record ActsAlone (moment count : ℕ) (d e : DoorView) : Type 0 where
  pub more : List Event
  pub grows : e.seen ≡ d.seen ++ more
  pub own : AllByRecursion (λ x. (actor_of x ≡ actor_at d) × (x.moment ≡ moment)) more
  pub many : length more ≡ count

-- the present actor made so many events, each at this moment. The other actors of the pass did no more, and where nobody else
-- makes events there are no others
pub record Goes (alone : Type 0) (settings : SettingsView) (moment count : ℕ) (d e : DoorView) : Type 0 where
  pub legal : Legal settings e.seen
  pub grows : Grows settings d e
  pub moments : own_moments e.seen (actor_at d) ≡ own_moments d.seen (actor_at d) ++ replicate count moment
  pub only : alone → ActsAlone moment count d e

-- at most so many
abbrev pub GoesUpTo : Type 0 → SettingsView → ℕ → ℕ → DoorView → DoorView → Type 0
GoesUpTo alone settings moment most d e = (count : ℕ) × (count ≤ most) × Goes alone settings moment count d e

-- one, or none and the outcome is there
abbrev pub Steps : Type 0 → SettingsView → ℕ → Type 0 → DoorView → DoorView → Type 0
Steps alone settings moment Over d e = Goes alone settings moment 1 d e ⊎ (Over × Goes alone settings moment 0 d e)

-- all that were wanted, or up to the outcome
abbrev pub HasGone : Gone → Type 0 → SettingsView → ℕ → ℕ → DoorView → DoorView → Type 0
HasGone Short alone settings moment most d e = Goes alone settings moment most d e
HasGone Ended alone settings moment most d e = GoesUpTo alone settings moment most d e
