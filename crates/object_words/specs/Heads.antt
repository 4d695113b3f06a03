-- The head of an object: the first of its bytes, and its attributes (Ceph manual, Data Layout).
use Rattle.std.specs.Prelude.{ℕ, ◌==◌, Bool, true, false, List, [], length, Option, Some, None, if◌then◌else◌}
use Rattle.std.specs.Int.{div_ceil}
use Rattle.rgw_types.specs.declared.stamp.Stamp.{Stamp}
use Rattle.rgw_types.specs.Stripes.{ManifestView, tails_of}
use Rattle.object_words.specs.declared.head.SeenSlot.{SeenSlot}
use Rattle.object_words.specs.declared.head.SeenSlot.TheVariants.{Nothing, Live, Mark}
use Rattle.object_words.specs.Rows.{RowView, no_row}

-- the number of its last change, and the slot
pub record Head : Type 0 where
  pub version : ℕ
  pub slot : SeenSlot

-- the head of a name that was never changed
abbrev pub no_head : Head
no_head = record { version = 0; slot = Nothing }

-- the stamp of the last change, if there was one
abbrev pub seen_stamp : SeenSlot → Option Stamp
seen_stamp Nothing = None
seen_stamp (Live new stamp) = Some stamp
seen_stamp (Mark stamp) = Some stamp

-- there is an object
abbrev pub is_live : SeenSlot → Bool
is_live (Live new stamp) = true
is_live slot = false

-- the row of the index that shows a slot
abbrev pub row_of : SeenSlot → RowView
row_of (Live new stamp) = record { exists = true; size = new.manifest.size; stamp = stamp; etag = new.etag; kind = new.kind }
row_of slot = no_row

-- the bytes that the head itself keeps
abbrev pub first_bytes : SeenSlot → List ℕ
first_bytes (Live new stamp) = new.first
first_bytes slot = []

-- the digest of a live object
abbrev pub etag_of : SeenSlot → Option (List ℕ)
etag_of (Live new stamp) = Some new.etag
etag_of slot = None

-- where the bytes of a live object are
abbrev pub manifest_of : SeenSlot → Option ManifestView
manifest_of (Live new stamp) = Some new.manifest
manifest_of slot = None

-- the manifest, where it has tails
abbrev pub with_tails : Option ManifestView → Option ManifestView
with_tails None = None
with_tails (Some m) = if tails_of m == 0 then None else Some m

-- how many frames the bytes take
abbrev pub frames_for : ℕ → List ℕ → ℕ
frames_for frame bytes = div_ceil (length bytes) frame
