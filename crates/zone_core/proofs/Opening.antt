-- The pool of a zone before the first event.
use Rattle.std.proofs.Common.{ℕ, refl, arith}
use Rattle.cls_log.proofs.RowLemmas.{empty_log}
use Rattle.cls_record.proofs.RootLemmas.{new_root}
use Rattle.realm_model.specs.Settings.{SettingsView}
use Rattle.realm_model.specs.States.{opening}
use Rattle.zone_core.specs.Bounds.{AreSmallBy}
use Rattle.zone_core.specs.Stands.{Stands, new_pool}

pub new_stands : (settings : SettingsView) (zone : ℕ) → Stands settings zone (new_pool settings) (opening settings)
new_stands settings zone = record {
  root = new_root;
  shards = λ key is. refl;
  heads = λ container name. record { bytes = refl; attrs = refl; rows = refl; bounds = refl };
  tails = λ write part. record { bytes = refl; attrs = refl; rows = refl };
  changes = empty_log;
  frame = refl;
  free = refl;
}

pub new_small : (settings : SettingsView) (zone : ℕ) → AreSmallBy 0 zone (opening settings)
new_small settings zone = record { root = omega arith; changes = omega arith; shards = λ key. tt }
