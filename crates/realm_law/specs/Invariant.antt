-- What holds of the whole realm after each event of a legal history.
use Rattle.realm_model.specs.Settings.{SettingsView}
use Rattle.realm_model.specs.Worlds.{World}
use Rattle.index_law.specs.Tables.{heads_of, rows_of}
use Rattle.index_law.specs.Invariants.{IndexHolds}
use Rattle.index_law.specs.Stamps.{StampsGiven}
use Rattle.index_law.specs.Serving.{ShardsServe}
use Rattle.index_law.specs.Holds.{HoldsIn}
use Rattle.stripe_law.specs.Invariant.{Holds}

-- every part: of entries, heads, rows and tags; of stamps; of shards and of what holds them; of stripes, tails and frames
pub record RealmHolds (settings : SettingsView) (w : World) : Type 0 where
  pub index : IndexHolds w
  pub stamps : StampsGiven (heads_of w.state.heads) w.stamps.slots
  pub shards : ShardsServe w.state.shards (rows_of w.state.root) w.phases
  pub holds : HoldsIn w
  pub stripes : Holds settings w
