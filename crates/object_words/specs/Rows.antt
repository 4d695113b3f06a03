-- What the index says of an object.
use Rattle.std.specs.Prelude.{◌≡◌, ◌≤◌, ℕ, Bool, false, List, [], length, replicate}
use Rattle.rgw_types.specs.declared.stamp.Stamp.{Stamp}
use Rattle.object_words.specs.Limits.{media_type_limit}

-- whether the object exists, with its size, stamp, digest and type
pub record RowView : Type 0 where
  pub exists : Bool
  pub size : ℕ
  pub stamp : Stamp
  pub etag : List ℕ
  pub kind : List ℕ

-- the row of an object that does not exist
abbrev pub no_row : RowView
no_row = record { exists = false; size = 0; stamp = record { micros = 0; zone = 1 }; etag = replicate 16 0; kind = [] }

-- the bounds of a row, and that there is one row for all that does not exist
pub record IsRow (row : RowView) : Type 0 where
  pub kind_high : length row.kind ≤ media_type_limit
  pub zone_low : 1 ≤ row.stamp.zone
  pub zone_high : row.stamp.zone ≤ 8
  pub blank : row.exists ≡ false → row ≡ no_row
