-- Each event keeps every part, and every part holds after every event of a legal history.
use Rattle.std.proofs.Common.{List, [], ◌∷◌, ◌++◌}
use Rattle.realm_model.specs.Settings.{SettingsView, IsSettings}
use Rattle.realm_model.specs.Worlds.{World, start, happens}
use Rattle.realm_model.specs.Histories.{run, world_of, IsNext, LegalFrom, Legal}
use Rattle.realm_model.specs.declared.event.Event.{Event}
use Rattle.realm_model.proofs.Runs.{legal_front}
use Rattle.index_law.proofs.Keeping.{starts, keeps}
use Rattle.index_law.proofs.Consequences.{shards_at}
use Rattle.index_law.proofs.Stamping.{given_next}
use Rattle.index_law.proofs.Shards.{serves_next}
use Rattle.index_law.proofs.HoldEvents.{holds_start as free_start, holds_next as held_next}
use Rattle.stripe_law.proofs.Keeping.{holds_start, holds_next}
use Rattle.realm_law.specs.Invariant.{RealmHolds}

-- before the first event; that shards are there is told of a history of no events
pub realm_starts : (settings : SettingsView) → RealmHolds settings (start settings)
realm_starts settings = record {
  index = starts settings;
  stamps = record { own = λ zone container name stamp is. absurd cc; reached = λ container name stamp slot is. absurd cc };
  shards = shards_at settings [] [] tt;
  holds = free_start settings;
  stripes = holds_start settings;
}

pub realm_next : (settings : SettingsView) (w : World) (e : Event) → IsSettings settings → RealmHolds settings w → IsNext settings w e → RealmHolds settings (happens settings w e)
realm_next settings w e good j next = record {
  index = keeps settings good w j.index e next;
  stamps = given_next settings w e j.index j.stamps next;
  shards = serves_next settings w e j.shards next;
  holds = held_next settings good w j.index j.holds e next;
  stripes = holds_next settings w e next j.stripes;
}

realm_from : (settings : SettingsView) (w : World) (es : List Event) → IsSettings settings → RealmHolds settings w → LegalFrom settings w es → RealmHolds settings (run settings w es)
realm_from settings w [] good j legal = j
realm_from settings w (e ∷ es) good j legal = realm_from settings (happens settings w e) es good (realm_next settings w e good j legal.0) legal.1

pub realm_at : (settings : SettingsView) (history later : List Event) → IsSettings settings → Legal settings (history ++ later) → RealmHolds settings (world_of settings history)
realm_at settings history later good legal =
    realm_from settings (start settings) history good (realm_starts settings) (legal_front settings (start settings) history later legal)
